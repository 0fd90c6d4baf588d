-- While a call waits, every event but a poll leaves it waiting: root's CPUs are held, and the calls of others that may wait are refused with -1.
-- Beside that, what counting and messaging leave alone. Assumes nothing.
use Rattle.std.proofs.Common.{◌≡◌, refl, ap, ◌∙◌, true, false, true≢false, List, [], ◌∷◌, ℕ, zero, suc, eqb, get_or, set, None}
use Rattle.rules.specs.Run.{is_poll}
use Rattle.machine_state.specs.declared.Cpu.{Cpu}
use Rattle.machine_state.specs.Machine.{Waiting}
use Rattle.machine_state.specs.declared.Event.{Event}
use Rattle.machine_state.specs.declared.Event.TheVariants.{Call, Store, Fault, Exit, Poll, Malformed}
use Rattle.machine_state.specs.declared.Machine.{Machine}
use Rattle.machine_state.specs.declared.Stepped.{Stepped}
use Rattle.machine_state.specs.Machine.{past_cpu, past_comm}
use Rattle.rules.specs.State.{root_id, cpu_at, comm_at, waits, with_waiting, with_comm, with_cpus, answered}
use Rattle.rules.specs.Unobeyed.{unobeyed, is_obeyed}
use Rattle.rules.specs.Effects.{counted, count_exit, call_counter, stored}
use Rattle.rules.specs.Asking.{message}
use Rattle.rules.specs.Step.{obeyed, step}
use Rattle.refusals.specs.WholeCall.{none_waiting, unmessaged}
use Rattle.rules.proofs.Cases.{NoneApplies, no_row, not_root, fault-cases, others-cases, step-cases}
use Rattle.rules.proofs.Places.{read_kept}

-- ---- a table with one place changed

module _ {A : Type 0} (d : A) (f : A → A) where
  -- a place changed twice, where the second change takes the first back
  pub set-over : (xs : List A) (i : ℕ) (v : A) → f v ≡ f (get_or xs i d) → set (set xs i v) i (f (get_or (set xs i v) i d)) ≡ set xs i (f (get_or xs i d))
  set-over [] i v h = refl
  set-over (x ∷ xs) zero v h = ap (λ (y : A). y ∷ xs) h
  set-over (x ∷ xs) (suc i) v h = ap (λ (ys : List A). x ∷ ys) (set-over xs i v h)

-- counting keeps the owner of every CPU
pub counted-owner : (own cpu k : ℕ) (m : Machine) → (cpu_at (counted own cpu m) k).cell ≡ (cpu_at m k).cell
unfolding counted with_cpus count_exit
counted-owner own cpu k m = read_kept past_cpu (λ (p : Cpu). p.cell) m.cpus cpu k (count_exit own (cpu_at m cpu)) refl

-- a message changes the two message words and nothing else
pub message-only : (id code : ℕ) (w : Waiting) (m : Machine)
    → none_waiting (unmessaged id (with_waiting w (with_comm id (message code (comm_at m id)) m))) ≡ none_waiting (unmessaged id m)
unfolding with_waiting with_comm message
message-only id code w m = λ i. record m {
  comms = set-over past_comm (message 0) m.comms id (message code (comm_at m id)) refl i;
  waiting = None;
}

-- ---- an event that is no poll, while a call waits

module _ (w : Waiting) (waiting : waits w ≡ true) where
  KeepsWaiting : Stepped → Type 0
  KeepsWaiting s = s.machine.waiting ≡ w

  obeyed-waits : (e : Event) (bytes : List ℕ) (m : Machine) → is_poll e ≡ false → m.waiting ≡ w → is_obeyed e m ≡ true → KeepsWaiting (obeyed e bytes m)
  unfolding KeepsWaiting obeyed answered stored counted with_cpus with_comm unobeyed NoneApplies
  obeyed-waits (Call cpu code a1 a2) bytes m p h o =
      others-cases KeepsWaiting cpu code a1 a2 bytes (counted call_counter cpu m)
      (ap (λ (n : ℕ). eqb n root_id) (counted-owner call_counter cpu cpu m) ∙ not_root cpu m (ap waits h ∙ waiting) (no_row (Call cpu code a1 a2) m o).1.1.1.0)
      (λ z. h)
  obeyed-waits (Store cpu word value) bytes m p h o = h
  obeyed-waits (Fault cpu) bytes m p h o = fault-cases (λ (k : Machine). k.waiting ≡ w) cpu m h (λ f. h)
  obeyed-waits (Exit cpu kind) bytes m p h o = h
  obeyed-waits Poll bytes m p h o = absurd (true≢false p)
  obeyed-waits Malformed bytes m p h o = h

  pub step_waits : (e : Event) (bytes : List ℕ) (m : Machine) → is_poll e ≡ false → m.waiting ≡ w → (step e bytes m).machine.waiting ≡ w
  unfolding answered KeepsWaiting
  step_waits e bytes m p h = step-cases KeepsWaiting e bytes m (λ a u t. h) (λ o. obeyed-waits e bytes m p h o)
