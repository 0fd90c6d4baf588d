-- An event by its kind: what is decided on it is what the rule does where it is obeyed, and an event that is not admitted changes nothing.
-- Assumes nothing.
use mathlib.Core.List.{List}
use mathlib.Core.Path.{◌≡◌, sym, ap, subst, ◌∙◌}
use Prim.Native.Nat.{ℕ, ◌<◌}
use native.Mathlib.Omega.{arith}
use Rattle.std.specs.Prelude.{None, Ok, Err}
use Rattle.cell_record.specs.CellRecord.{cell_of}
use Rattle.machine_state.specs.declared.Answer.{Answer}
use Rattle.machine_state.specs.declared.Event.{Event}
use Rattle.machine_state.specs.declared.Event.TheVariants.{Call, Poll}
use Rattle.machine_state.specs.declared.Machine.{Machine}
use Rattle.machine_state.specs.Machine.{max_cpus}
use Rattle.rules.specs.State.{answered}
use Rattle.rules.specs.Effects.{counted, call_counter}
use Rattle.rules.specs.Asking.{poll}
use Rattle.rules.specs.Calls.{call}
use Rattle.rules.specs.Unobeyed.{unobeyed}
use Rattle.rules.specs.Step.{obeyed, step}
use Rattle.cpu_table.specs.declared.CpuChange.TheVariants as CpuChange
use Rattle.cpu_table.specs.CpuTable.{change_of, touched, cpu_index}
use Rattle.cpu_table.proofs.Laws.{cpu-inside}
use Rattle.comms.specs.Comms.{Index}
use Rattle.asking.specs.declared.Move.{Move}
use Rattle.asking.specs.Moves.{moved, cut_off_at}
use Rattle.polling.specs.declared.Polled.{Polled}
use Rattle.polling.specs.Polls.{PollMoves}
use Rattle.unobeyed.specs.Admission.{Admission, admitted, Follows, Placed}
use Rattle.calls.specs.Calls.{Calls}
use Rattle.decide.specs.declared.Decision.{Decision}
use Rattle.decide.specs.Decide.{settled, Settles}
use Rattle.decide.proofs.Laws.{kept-cpu}

-- a CPU that the table has is its own place there
pub own-place : (cpu place : ℕ) → cpu < max_cpus → Index (cpu_index cpu) max_cpus place → place ≡ cpu
own-place cpu place h r = r.is ∙ cpu-inside cpu h

module _ (m : Machine) (bytes : List ℕ) where
  -- the event that an arm knows
  pub at-event : {d : Decision} {e known : Event} → e ≡ known → Settles m (cell_of bytes) (obeyed known bytes m) d
      → Settles m (cell_of bytes) (obeyed e bytes m) d
  at-event {d} s r = subst (λ (x : Event). Settles m (cell_of bytes) (obeyed x bytes m) d) (sym s) r

  pub places : {e known : Event} → e ≡ known → Placed m e → Placed m known
  places q h = subst (λ (x : Event). Placed m x) q h

  pub calls : (cpu code a1 a2 : ℕ) (mv : Move) → cpu < max_cpus → Calls m cpu (cell_of bytes) (call cpu code a1 a2 bytes) mv
      → Settles m (cell_of bytes) (obeyed (Call cpu code a1 a2) bytes m) (record { cpu = cpu; touch = CpuChange.Count call_counter; cut = None; moves = mv })
  unfolding settled cut_off_at obeyed touched change_of counted
  calls cpu code a1 a2 mv h r = record { settles = r.moves; cpu = h; cell = r.place }

  pub polls : (done : Polled) → PollMoves m (poll m.waiting) done
      → Settles m (cell_of bytes) (obeyed Poll bytes m) (record { cpu = 0; touch = CpuChange.Keep; cut = done.cut; moves = done.moves })
  unfolding settled obeyed
  polls done r = record {
    settles = ap (λ (n : Machine). moved done.moves (cell_of bytes) (cut_off_at done.cut n)) (kept-cpu 0 m) ∙ r.moves (cell_of bytes);
    cpu = omega arith;
    cell = r.place;
  }

-- an event by its admission
module _ (e : Event) (bytes : List ℕ) (m : Machine) (r : Admission) (f : Follows r (unobeyed e m) m) where
  pub refused-step : (a : Answer) → r ≡ Err a → answered a m ≡ step e bytes m
  unfolding admitted step
  refused-step a q = sym (ap (λ (x : Admission). admitted x (obeyed e bytes m) m) q) ∙ f (obeyed e bytes m)

  pub obeyed-step : r ≡ Ok tt → obeyed e bytes m ≡ step e bytes m
  unfolding admitted step
  obeyed-step q = sym (ap (λ (x : Admission). admitted x (obeyed e bytes m) m) q) ∙ f (obeyed e bytes m)
