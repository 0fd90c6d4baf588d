-- The events of others while a call waits: root is held and other CPUs' calls end at once, so only words, marks and counters change. The table,
-- the waiting call and who may be messaged stay, and the observer's reply follows the waited cell's `from`. Assumes nothing.
use Rattle.std.proofs.Common.{Bool, true, false, ◌&&◌, true≢false, ◌≡◌, refl, sym, ap, ◌∙◌, subst, List, ℕ, eqb}
use Rattle.rules.specs.Run.{is_poll}
use Rattle.machine_state.specs.declared.CommRegion.{CommRegion}
use Rattle.machine_state.specs.declared.Event.{Event}
use Rattle.machine_state.specs.declared.Event.TheVariants.{Call, Store, Fault, Exit, Poll, Malformed}
use Rattle.machine_state.specs.declared.Answer.{Answer}
use Rattle.machine_state.specs.declared.Answer.TheVariants.{Code, Done, Bad}
use Rattle.machine_state.specs.declared.Machine.{Machine}
use Rattle.rules.specs.State.{comm_at, cpu_at, failed, waits, with_cpus, answered}
use Rattle.rules.specs.Unobeyed.{unobeyed, is_obeyed}
use Rattle.rules.specs.Effects.{counted, call_counter, exit_counter, store_word, with_state, fail_cpu, faulted}
use Rattle.rules.specs.Calls.{call}
use Rattle.rules.specs.Step.{obeyed, step}
use Rattle.rules.specs.Account.{waited_at}
use Rattle.rules.specs.Observer.{watched_other, watched_store, watched, is_done}
use Rattle.rules.specs.Answers.{is_unobeyed, is_wait}
use Rattle.rules.proofs.Cases.{NoneApplies, no_row, not_root, faulted_cpu, fault-cases, word-cases, step-cases}
use Rattle.waiting.proofs.Machines.{by-words}
use Rattle.waiting.proofs.Calls.{Ends, other-ends}
use Rattle.waiting.proofs.Kept.{Kept, kept_same, kept_trans, kept-cpu, kept-words, kept-counted, owner-same}
use Rattle.waiting.proofs.Stores.{Other, SameFrom, Passed, passed_over, store_other}

-- ---- the other events

fault-kept : (cpu : ℕ) (m : Machine) → Kept m (faulted cpu m)
unfolding fail_cpu store_word with_cpus
fault-kept cpu m =
    fault-cases (Kept m) cpu m marked
    (λ f. kept_trans m (faulted_cpu cpu m) _ marked (kept-words (cpu_at m cpu).cell (with_state failed (comm_at m (cpu_at m cpu).cell)) (faulted_cpu cpu m) refl refl (λ t. f)))
  where
    marked : Kept m (faulted_cpu cpu m)
    marked = kept-cpu cpu (fail_cpu (cpu_at m cpu)) m refl

fault-from : (cpu : ℕ) (m : Machine) → SameFrom m (faulted cpu m)
unfolding store_word with_cpus
fault-from cpu m id = fault-cases (λ n. (comm_at n id).reply_from_cell ≡ (comm_at m id).reply_from_cell) cpu m refl (λ f. by-words Same (faulted_cpu cpu m) own id _ same refl)
  where
    own : ℕ
    own = (cpu_at m cpu).cell

    Same : CommRegion → Type 0
    Same c = c.reply_from_cell ≡ (comm_at m id).reply_from_cell

    same : id ≡ own → Same (with_state failed (comm_at m own))
    same e = ap (λ (n : ℕ). (comm_at m n).reply_from_cell) (sym e)

pub word-quiet : (w : Answer) → is_unobeyed w ≡ true → (is_wait w ≡ false) × (is_done w ≡ false)
unfolding is_wait is_done
word-quiet =
    word-cases (λ w. (is_wait w ≡ false) × (is_done w ≡ false)) (refl, refl) (refl, refl) (refl, refl) (refl, refl) (refl, refl) (refl, refl)

module _ (m : Machine) (bytes : List ℕ) (waiting : waits m.waiting ≡ true) where
  -- a row of unobeyed events
  unobeyed-other : (e : Event) (answer : Answer) → is_wait answer ≡ false → Passed e answer m → Other e m (answered answer m)
  unobeyed-other e answer q p = passed_over e answer m m (kept_same m) q (λ id. refl) p

  call-other : (cpu code a1 a2 : ℕ) → eqb (cpu_at m cpu).cell 0 ≡ false
      → Other (Call cpu code a1 a2) m (call cpu code a1 a2 bytes (counted call_counter cpu m))
  unfolding watched is_wait counted with_cpus
  call-other cpu code a1 a2 h =
      subst (Other (Call cpu code a1 a2) m) (sym ended.same)
      (passed_over (Call cpu code a1 a2) (Code ended.code) m (counted call_counter cpu m) (kept-counted call_counter cpu m) refl (λ id. refl) (λ w. refl))
    where
      ended : Ends (counted call_counter cpu m) (call cpu code a1 a2 bytes (counted call_counter cpu m))
      ended =
          other-ends cpu code a1 a2 bytes (counted call_counter cpu m)
          (ap (λ (n : ℕ). eqb n 0) (owner-same m (counted call_counter cpu m) cpu (kept-counted call_counter cpu m).table) ∙ h)

  exit-other : (cpu kind : ℕ) → Other (Exit cpu kind) m (answered Done (counted (exit_counter kind) cpu m))
  unfolding watched is_wait counted with_cpus
  exit-other cpu kind = passed_over (Exit cpu kind) Done m _ (kept-counted (exit_counter kind) cpu m) refl (λ id. refl) (λ w. refl)

  fault-other : (cpu : ℕ) → Other (Fault cpu) m (answered Done (faulted cpu m))
  unfolding watched is_wait
  fault-other cpu = passed_over (Fault cpu) Done m _ (fault-kept cpu m) refl (fault-from cpu m) (λ w. refl)

  -- the observer passes over a word, and over all that is no store
  passes : (e : Event) (w : Answer) → is_poll e ≡ false → is_done w ≡ false → Passed e w m
  unfolding watched watched_store
  passes (Call cpu code a1 a2) w p d x = refl
  passes (Store cpu word value) w p d x =
      ap
      (λ (b : Bool). elim (b && eqb word 1 && eqb (cpu_at m cpu).cell (waited_at x.account.place)) [
        | true ↦ watched_other value x
        | false ↦ watched_other x.reply x
      ])
      d
  passes (Fault cpu) w p d x = refl
  passes (Exit cpu kind) w p d x = refl
  passes Poll w p d x = absurd (true≢false p)
  passes Malformed w p d x = refl

  word-other : (e : Event) (w : Answer) → is_poll e ≡ false → is_unobeyed w ≡ true → Other e m (answered w m)
  word-other e w p u = unobeyed-other e w quiet.0 (passes e w p quiet.1)
    where
      quiet : (is_wait w ≡ false) × (is_done w ≡ false)
      quiet = word-quiet w u

  obeyed-other : (e : Event) → is_poll e ≡ false → is_obeyed e m ≡ true → Other e m (obeyed e bytes m)
  unfolding obeyed unobeyed is_unobeyed NoneApplies
  obeyed-other (Call cpu code a1 a2) p o = call-other cpu code a1 a2 (not_root cpu m waiting (no_row (Call cpu code a1 a2) m o).1.1.1.0)
  obeyed-other (Store cpu word value) p o = store_other cpu word value m (no_row (Store cpu word value) m o).1.1.1.1.0
  obeyed-other (Fault cpu) p o = fault-other cpu
  obeyed-other (Exit cpu kind) p o = exit-other cpu kind
  obeyed-other Poll p o = absurd (true≢false p)
  obeyed-other Malformed p o = word-other Malformed Bad refl refl

  pub step_other : (e : Event) → is_poll e ≡ false → Other e m (step e bytes m)
  step_other e p = step-cases (Other e m) e bytes m (λ w u o. word-other e w p u) (λ o. obeyed-other e p o)
