-- Wrong managers, each a small change of the right one, against which the claims are held: of each a run on the reading-room box shows that a claim
-- is false.
use Rattle.std.specs.Prelude.{Bool, true, false, ℕ, eqb, pos}
use Rattle.base.specs.Rules.{EPERM}
use Rattle.machine_state.specs.declared.Event.TheVariants.{Call, Poll}
use Rattle.machine_state.specs.declared.Answer.TheVariants.{Code}
use Rattle.machine_state.specs.declared.Phase.TheVariants.{Loading}
use Rattle.machine_state.specs.declared.Machine.{Machine}
use Rattle.machine_state.specs.declared.Stepped.{Stepped}
use Rattle.rules.specs.State.{cell_at, comm_at, with_comm, answered}
use Rattle.rules.specs.Effects.{counted, call_counter, cpus_changed, stop_cpu, in_phase, cell_cut_off}
use Rattle.rules.specs.Asking.{message, shutdown_request}
use Rattle.rules.specs.Calls.{cell_set_loadable}
use Rattle.rules.specs.Step.{step}
use Rattle.rules.specs.Run.{Manager}
use Rattle.rules.specs.Answers.{is_negative, is_unobeyed, is_wait}

-- what `change` makes of the machine that our step leaves, where the event is a call and `test` passes on the answer and the code
unfoldable pub on_call : (Stepped → Bool) → (ℕ → ℕ → ℕ → Machine → Machine → Machine) → Manager
on_call test change (Call cpu code a1 a2) bytes m =
    let s = step (Call cpu code a1 a2) bytes m in
    elim (test s) [ true ↦ answered s.answer (change cpu code a1 m s.machine) | false ↦ s ]
on_call test change e bytes m = step e bytes m

abbrev pub refused_call : Stepped → Bool
refused_call s = is_negative s.answer

abbrev pub unobeyed_call : Stepped → Bool
unobeyed_call s = is_unobeyed s.answer

abbrev pub left_waiting : Stepped → Bool
left_waiting s = is_wait s.answer

-- a call that is not obeyed is counted
unfoldable pub counts_unobeyed : Manager
counts_unobeyed = on_call unobeyed_call (λ cpu code a1 before after. counted call_counter cpu after)

-- a refused call is not counted
unfoldable pub counts_no_refusal : Manager
counts_no_refusal = on_call refused_call (λ cpu code a1 before after. before)

-- a call refused at once leaves a message behind, to its target
unfoldable pub with_request : ℕ → Machine → Machine
with_request id m = with_comm id (message shutdown_request (comm_at m id)) m

unfoldable pub leaves_message : Manager
leaves_message = on_call refused_call (λ cpu code a1 before after. with_request a1 after)

-- Set Loadable opens the cell's pages at the first step, before the cell has been heard
unfoldable pub loads_first : Manager
loads_first =
    on_call left_waiting (λ cpu code a1 before after. elim (eqb code cell_set_loadable) [ true ↦ in_phase a1 Loading after | false ↦ after ])

-- a call that waits messages another cell, too
unfoldable pub messages_another : Manager
messages_another = on_call left_waiting (λ cpu code a1 before after. with_request 2 after)

-- a poll that moves on stops the CPUs of the cell that it heard, though a later cell may deny
unfoldable pub stops_heard : Manager
stops_heard Poll bytes m =
    let s = step Poll bytes m in
    elim (left_waiting s) [ true ↦ answered s.answer (cpus_changed (cell_at m 1).cpus stop_cpu s.machine) | false ↦ s ]
stops_heard e bytes m = step e bytes m

-- the poll that refuses cuts off another cell, too
unfoldable pub cuts_off_another : Manager
cuts_off_another Poll bytes m =
    let s = step Poll bytes m in elim (refused_call s) [ true ↦ answered s.answer (cell_cut_off 2 s.machine) | false ↦ s ]
cuts_off_another e bytes m = step e bytes m

-- nothing is done, and the answer is 0 always
unfoldable pub does_nothing : Manager
does_nothing e bytes m = answered (Code (pos 0)) m

-- all is done, but the answer is 0 always
unfoldable pub answers_zero : Manager
answers_zero e bytes m = answered (Code (pos 0)) (step e bytes m).machine

-- everything is refused
unfoldable pub refuses_all : Manager
refuses_all e bytes m = answered (Code EPERM) m
