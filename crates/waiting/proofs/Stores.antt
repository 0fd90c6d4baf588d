-- An event of others, as the observer sees it; a store. A store that is not denied is to a cell with its words and to a state that is not final: it
-- wakes nobody, and the observer's reply follows the waited cell's `from`. Assumes nothing.
use Rattle.std.proofs.Common.{Bool, true, false, not, ◌&&◌, ◌||◌, true≢false, ◌≡◌, refl, sym, ap, ◌∙◌, ◌⊎◌, inl, inr, ℕ, zero, suc, ◌<◌, ◌≤◌, arith, eq-eqb, ne_eqb, ltb-false, ltb, eqb, length}
use Rattle.std.proofs.lemmas.Bool.{not-false, or_parts}
use Rattle.std.proofs.Math.Bool.{and-true, and-false}
use Rattle.std.proofs.Math.Decide.{ℕ_discrete}
use Rattle.std.proofs.Math.ListN.{get_or-eq_default}
use Rattle.base.proofs.Tests.{le-or-lt}
use Rattle.machine_state.specs.declared.CommRegion.{CommRegion}
use Rattle.machine_state.specs.declared.Event.{Event}
use Rattle.machine_state.specs.declared.Event.TheVariants.{Store}
use Rattle.machine_state.specs.declared.Answer.{Answer}
use Rattle.machine_state.specs.declared.Answer.TheVariants.{Done}
use Rattle.machine_state.specs.declared.Machine.{Machine}
use Rattle.machine_state.specs.declared.Stepped.{Stepped}
use Rattle.machine_state.specs.Machine.{past_comm}
use Rattle.rules.specs.State.{comm_at, cpu_at, state_at, limit_at, is_final, with_comm, answered}
use Rattle.rules.specs.Unobeyed.{store_denied}
use Rattle.rules.specs.Effects.{store_word, stored}
use Rattle.rules.specs.Account.{waited_at}
use Rattle.rules.specs.Observer.{Watched, watched_other, watched_store, watched, is_done}
use Rattle.rules.specs.Answers.{is_wait}
use Rattle.waiting.proofs.Machines.{comm-same, comm-other}
use Rattle.waiting.proofs.Kept.{Kept, kept-words}

-- ---- what holds of an event of others: the step s from the machine m

pub record Other (e : Event) (m : Machine) (s : Stepped) : Type 0 where
  pub kept : Kept m s.machine
  pub quiet : is_wait s.answer ≡ false
  -- the observer's reply, if it was the waited cell's `from`, is so again
  pub reply :
      (w : Watched) → w.reply ≡ (comm_at m (waited_at w.account.place)).reply_from_cell
      → watched e s.answer m w ≡ watched_other (comm_at s.machine (waited_at w.account.place)).reply_from_cell w

-- the words keep each cell's `from`
abbrev pub SameFrom : Machine → Machine → Type 0
SameFrom m n = (id : ℕ) → (comm_at n id).reply_from_cell ≡ (comm_at m id).reply_from_cell

-- an event or an answer that the observer passes over
abbrev pub Passed : Event → Answer → Machine → Type 0
Passed e answer m = (w : Watched) → watched e answer m w ≡ watched_other w.reply w

pub passed_over : (e : Event) (answer : Answer) (m n : Machine) → Kept m n → is_wait answer ≡ false → SameFrom m n → Passed e answer m → Other e m (answered answer n)
unfolding answered
passed_over e answer m n k q f p = record {
  kept = k;
  quiet = q;
  reply = λ w r. p w ∙ ap (λ (v : ℕ). watched_other v w) (r ∙ sym (f (waited_at w.account.place)));
}

-- ---- a store

-- a store that is not denied is to a cell with its words, and to a state that is not final
module _ (cpu word value : ℕ) (m : Machine) (allowed : store_denied cpu word m ≡ false) where
  abbrev cell : ℕ
  cell = (cpu_at m cpu).cell

  abbrev to_final : Bool
  to_final = eqb word 2 && is_final (state_at m cell)

  up_to_word : (eqb cell 0 || not (comm_at m cell).mapped || ltb 2 word) ≡ false
  unfolding store_denied
  up_to_word = (or_parts (eqb cell 0 || not (comm_at m cell).mapped || ltb 2 word) to_final allowed).0

  not-final : eqb word 2 ≡ true → is_final (state_at m cell) ≡ false
  unfolding store_denied
  not-final e =
      sym (ap (λ (b : Bool). b && is_final (state_at m cell)) e) ∙ (or_parts (eqb cell 0 || not (comm_at m cell).mapped || ltb 2 word) to_final allowed).1

  word_small : ltb 2 word ≡ false
  word_small = (or_parts (eqb cell 0 || not (comm_at m cell).mapped) (ltb 2 word) up_to_word).1

  mapped : (comm_at m cell).mapped ≡ true
  mapped = not-false _ ((or_parts (eqb cell 0) (not (comm_at m cell).mapped) ((or_parts (eqb cell 0 || not (comm_at m cell).mapped) (ltb 2 word) up_to_word).0)).1)

  inside : cell < length m.comms
  inside = go (le-or-lt (length m.comms) cell)
    where
      go : (length m.comms ≤ cell) ⊎ (cell < length m.comms) → cell < length m.comms
      go (inl h) = absurd (true≢false (sym mapped ∙ ap (λ (c : CommRegion). c.mapped) (get_or-eq_default m.comms past_comm h)))
      go (inr h) = h

  -- what the store makes of the words
  words : CommRegion
  words = store_word word value (comm_at m cell)

  store_kept : Kept m (stored cpu word value m)
  unfolding stored words store_word
  store_kept = kept-words cell words m (passive word) (limit word) (final word refl)
    where
      passive : (n : ℕ) → (store_word n value (comm_at m cell)).passive ≡ (comm_at m cell).passive
      passive zero = refl
      passive (suc zero) = refl
      passive (suc (suc n)) = refl

      limit : (n : ℕ) → (store_word n value (comm_at m cell)).reply_limit ≡ limit_at m cell
      limit zero = refl
      limit (suc zero) = refl
      limit (suc (suc n)) = refl

      final : (n : ℕ) → word ≡ n → is_final (store_word n value (comm_at m cell)).cell_state ≡ false → is_final (state_at m cell) ≡ false
      final zero e t = t
      final (suc zero) e t = t
      final (suc (suc n)) e t = not-final (eq-eqb word 2 (omega (arith, ltb-false 2 word word_small)))

  -- the `from` of the stored cell: the value, where the store is to word 1
  from-word : (n : ℕ) (c : CommRegion) → (store_word n value c).reply_from_cell ≡ elim (eqb n 1) [ true ↦ value | false ↦ c.reply_from_cell ]
  unfolding store_word
  from-word zero c = refl
  from-word (suc zero) c = refl
  from-word (suc (suc n)) c = rw (ne_eqb (suc (suc n)) 1 (λ q. omega arith))

  store-reply : (w : Watched) → w.reply ≡ (comm_at m (waited_at w.account.place)).reply_from_cell
      → watched (Store cpu word value) Done m w ≡ watched_other (comm_at (stored cpu word value m) (waited_at w.account.place)).reply_from_cell w
  unfolding watched watched_store is_done stored with_comm words store_word
  store-reply w r = go (ℕ_discrete cell waited)
    where
      waited : ℕ
      waited = waited_at w.account.place

      after : ℕ
      after = (comm_at (stored cpu word value m) waited).reply_from_cell

      by_word : (b : Bool) (old : ℕ) → w.reply ≡ old
          → ◌≡◌ {A = Watched} (elim b [ true ↦ watched_other value w | false ↦ watched_other w.reply w ]) (watched_other (elim b [ true ↦ value | false ↦ old ]) w)
      by_word true old e = refl
      by_word false old e = ap (λ (v : ℕ). watched_other v w) e

      seen : Bool → Watched
      seen b = elim b [ true ↦ watched_other value w | false ↦ watched_other w.reply w ]

      from_at : Machine → ℕ → ℕ
      from_at n id = (comm_at n id).reply_from_cell

      go : Dec (cell ≡ waited) → seen (eqb word 1 && eqb cell waited) ≡ watched_other after w
      go (yes q) =
          ap (λ (b : Bool). seen (eqb word 1 && b)) (eq-eqb cell waited q) ∙ ap seen (and-true (eqb word 1))
          ∙ by_word (eqb word 1) (from_at m cell) (r ∙ ap (from_at m) (sym q))
          ∙ ap (λ (v : ℕ). watched_other v w)
          (sym (from-word word (comm_at m cell)) ∙ sym (ap (λ (c : CommRegion). c.reply_from_cell) (comm-same m cell words inside))
          ∙ ap (from_at (stored cpu word value m)) q)
      go (no q) =
          ap (λ (b : Bool). seen (eqb word 1 && b)) (ne_eqb cell waited q) ∙ ap seen (and-false (eqb word 1))
          ∙ ap (λ (v : ℕ). watched_other v w)
          (r ∙ sym (ap (λ (c : CommRegion). c.reply_from_cell) (comm-other m cell waited words (λ e. q (sym e)))))

  pub store_other : Other (Store cpu word value) m (answered Done (stored cpu word value m))
  unfolding answered is_wait
  store_other = record { kept = store_kept; quiet = refl; reply = store-reply }
