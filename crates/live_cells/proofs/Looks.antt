-- A look at one live cell after another finds what the rules say of all of them: each turn takes an ID out of the set of those left and puts what
-- its cell shows to what is found, so that both together stay the same. The order of the IDs does not matter. Assumes nothing.
use mathlib.Core.Path.{◌≡◌, refl, sym, ap, ap₂, subst, ◌∙◌}
use mathlib.Core.Bool.{Bool, true, false, ◌&&◌, ◌||◌, or_assoc, or-false, or-true, and-false}
use mathlib.Core.List.{List}
use Prim.Native.Nat.{ℕ, zero, suc, ◌+◌, ◌%◌, ◌^◌, ◌≤◌, ◌<◌}
use native.Mathlib.Decide.{ℕ_discrete}
use native.Mathlib.Nat.{zero-div}
use native.Mathlib.Omega.{arith}
use borrow.Author.Tests.{ne_eqb}
use lib.Dec.{eqb}
use Rattle.base.specs.Lists.{any, from, up_to}
use Rattle.machine_state.specs.declared.Cell.{Cell}
use Rattle.machine_state.specs.declared.Event.{Event}
use Rattle.machine_state.specs.declared.Machine.{Machine}
use Rattle.machine_state.specs.Machine.{max_cells}
use Rattle.rules.specs.State.{root_id, cell_at, cell_ids, has_id}
use Rattle.rules.specs.Create.{region_in_use}
use Rattle.rules.specs.Effects.{drop_id}
use Rattle.id_set.specs.Ids.{id_count}
use Rattle.id_set.proofs.Laws.{any-alike}
use Rattle.id_set.proofs.Ids.{has-bit, has-dropped, drop-less}
use Rattle.live_cells.specs.declared.Found.{Found}
use Rattle.live_cells.specs.Looks.{has_name, meets_record, nothing_found, together, looked_at, some_of, found_in, found_live, asks_create, to_look_at, Looking}

-- ---- some number of a row passes a test

any_at : (p : ℕ → Bool) (k n i : ℕ) → k ≤ i → i < k + n → p i ≡ true → any p (from k n) ≡ true
unfolding from
any_at p k zero i l h t = absurd (omega arith)
any_at p k (suc n) i l h t = go (ℕ_discrete k i) (λ m. any_at p (suc k) n i m (omega arith) t)
  where
    go : Dec (k ≡ i) → (suc k ≤ i → any p (from (suc k) n) ≡ true) → (p k || any p (from (suc k) n)) ≡ true
    go (yes q) later = rw (ap p q ∙ t)
    go (no q) later = rw (later (omega arith)) (or-true (p k))

-- ---- some ID of a set passes a test

module _ (p : ℕ → Bool) where
  abbrev some : ℕ → Bool
  some ids = any (λ id. has_id ids id && p id) (up_to max_cells)

  some-none : some 0 ≡ false
  unfolding from
  some-none =
      any-alike (λ id. has_id 0 id && p id) (λ id. false) 0 16
      (λ i l h. ap (λ (b : Bool). b && p i) (has-bit 0 i h ∙ ap (λ (n : ℕ). eqb (n % 2) 1) (zero-div (2 ^ i))))

  some_turn : (ids i : ℕ) → i < max_cells → has_id ids i ≡ true → some ids ≡ (p i || some (drop_id i ids))
  some_turn ids i h t = go (p i) refl
    where
      other : p i ≡ false → (k : ℕ) → k < max_cells → Dec (k ≡ i) → (has_id ids k && p k) ≡ (has_id (drop_id i ids) k && p k)
      other e k m (yes q) = rw (ap p q ∙ e) (and-false (has_id ids k) ∙ sym (and-false (has_id (drop_id i ids) k)))
      other e k m (no q) = rw (has-dropped i ids k m, ne_eqb k i q)

      go : (b : Bool) → p i ≡ b → some ids ≡ (b || some (drop_id i ids))
      go true e = any_at (λ id. has_id ids id && p id) 0 16 i (omega arith) h (rw (t, e))
      go false e = any-alike (λ id. has_id ids id && p id) (λ id. has_id (drop_id i ids) id && p id) 0 16 (λ k l m. other e k m (ℕ_discrete k i))

  some-but-root : (ids : ℕ) → some (drop_id 0 ids) ≡ any (λ id. has_id ids id && p id) cell_ids
  unfolding from
  some-but-root ids =
      ap (λ (b : Bool). b && p 0 || any (λ id. has_id (drop_id 0 ids) id && p id) (from 1 15)) (has-dropped 0 ids 0 (omega arith))
      ∙ any-alike (λ id. has_id (drop_id 0 ids) id && p id) (λ id. has_id ids id && p id) 1 15
      (λ k l h. rw (has-dropped 0 ids k h, ne_eqb k 0 (λ e. omega arith)))

-- ---- the cells of a set, with what is found already: of no cell, of a set and of the same set without one, of the live ones

module _ (p : Cell → Bool) (m : Machine) (flag : Bool) where
  with_none : flag ≡ (flag || some_of p 0 m)
  unfolding some_of
  with_none = sym (ap (λ (b : Bool). flag || b) (some-none (λ id. p (cell_at m id))) ∙ or-false flag)

  with-one : (left i : ℕ) → i < max_cells → has_id left i ≡ true → ((flag || p (cell_at m i)) || some_of p (drop_id i left) m) ≡ (flag || some_of p left m)
  unfolding some_of
  with-one left i h t =
      or_assoc flag (p (cell_at m i)) (some_of p (drop_id i left) m)
      ∙ ap (λ (b : Bool). flag || b) (sym (some_turn (λ id. p (cell_at m id)) left i h t))

found-live : (bytes : List ℕ) (m : Machine) → found_in (drop_id root_id m.live_ids) bytes m ≡ found_live bytes m
unfolding found_in some_of found_live region_in_use
found-live bytes m = λ k. record {
  named = some-but-root (λ id. has_name bytes (cell_at m id)) m.live_ids k;
  held = some-but-root (λ id. meets_record bytes (cell_at m id)) m.live_ids k;
}

for-create : (ids : ℕ) (e : Event) → asks_create e ≡ true → to_look_at e ids ≡ drop_id root_id ids
unfolding to_look_at
for-create ids e t = rw (t, to_look_at)

-- ---- the loop that looks at one cell after another: its start, a turn, its end, and that a turn leaves less

pub look-start : {found : Found} (bytes : List ℕ) (m : Machine) (all : ℕ) → found ≡ nothing_found → Looking bytes m all found all
unfolding together nothing_found
look-start bytes m all e = record { looks = ap (λ (f : Found). together f (found_in all bytes m)) e }

module _ {bytes : List ℕ} {m : Machine} {all left : ℕ} {found : Found} (looking : Looking bytes m all found left) where
  at_one : (i : ℕ) → i < max_cells → has_id left i ≡ true
      → together (looked_at found (cell_at m i) bytes) (found_in (drop_id i left) bytes m) ≡ together found (found_in left bytes m)
  unfolding together looked_at found_in
  at_one i h t = λ k. record {
    named = with-one (has_name bytes) m found.named left i h t k;
    held = with-one (meets_record bytes) m found.held left i h t k;
  }

  pub look-turn : (i rest : ℕ) {next : Found} {c : Cell} → (i < max_cells) × (has_id left i ≡ true) → cell_at m i ≡ c → next ≡ looked_at found c bytes
      → rest ≡ drop_id i left → Looking bytes m all next rest
  look-turn i rest low is n r = record {
    looks =
        ap₂ (λ (f : Found) (ids : ℕ). together f (found_in ids bytes m)) (n ∙ ap (λ (x : Cell). looked_at found x bytes) (sym is)) r
        ∙ at_one i low.0 low.1
        ∙ looking.looks;
  }

  nothing_left : found ≡ together found (found_in 0 bytes m)
  unfolding together found_in
  nothing_left = λ k. record { named = with_none (has_name bytes) m found.named k; held = with_none (meets_record bytes) m found.held k }

  pub look-end : (e : Event) → left ≡ 0 → all ≡ to_look_at e m.live_ids → asks_create e ≡ true → found ≡ found_live bytes m
  look-end e z a t =
      nothing_left
      ∙ ap (λ (ids : ℕ). together found (found_in ids bytes m)) (sym z)
      ∙ looking.looks
      ∙ ap (λ (ids : ℕ). found_in ids bytes m) (a ∙ for-create m.live_ids e t)
      ∙ found-live bytes m

pub look-less : (left i rest : ℕ) → (i < max_cells) × (has_id left i ≡ true) → rest ≡ drop_id i left → id_count rest < id_count left
look-less left i rest low r = subst (λ (n : ℕ). id_count n < id_count left) (sym r) (drop-less i left low.0 low.1)
