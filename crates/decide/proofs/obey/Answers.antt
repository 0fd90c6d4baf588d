-- `decide::obey` meets its contract: each arm is its case of the definition, of a CPU that is its own place in the table. Assumes nothing.
use mathlib.Core.Path.{sym, ap, subst, ◌∙◌}
use Prim.Native.Nat.{ℕ, ◌<◌}
use Rattle.machine_state.specs.declared.Answer.TheVariants.{Done}
use Rattle.machine_state.specs.Machine.{max_cells, max_cpus}
use Rattle.rules.specs.State.{cpu_at, answered}
use Rattle.rules.specs.Effects.{counted, call_counter, exit_counter, stored, faulted}
use Rattle.rules.specs.Step.{obeyed}
use Rattle.unobeyed.specs.Admission.{Placed}
use Rattle.cpu_table.specs.declared.CpuChange.TheVariants.{Count}
use Rattle.decide.specs.Decide.{uncut}
use Rattle.decide.proofs.Laws.{settles-at, settles-as}
use Rattle.decide.proofs.Events.{at-event, own-place, places, calls, polls}
use Rattle.decide.proofs.obey.Goals as goal

pub store-requires : goal.store-requires
unfolding Placed
store-requires c =
    let m = c.args.m.now in
    let inside = places m c.args.record.now c.in-Store.is c.requires in
    subst (λ (k : ℕ). (k < max_cpus) × ((cpu_at m k).cell < max_cells)) (sym (own-place _ _ inside.0 c.cpu_index.ensures)) inside

pub exit-requires : goal.exit-requires
unfolding Placed
exit-requires c =
    let inside = places c.args.m.now c.args.record.now c.in-Exit.is c.requires in
    (c.cpu_index-in-Exit.ensures.inside, inside.1)

pub returns-in-Call : goal.returns-in-Call
unfolding Placed
returns-in-Call c =
    let m = c.args.m.now in
    let told = c.in-Call.is in
    let inside = places m c.args.record.now told c.requires in
    let place = own-place _ _ inside c.cpu_index-place.ensures in
    at-event m _ told
    (settles-at (c.uncut.ensures ∙ ap (λ (k : ℕ). uncut k (Count call_counter) c.call-moves.result) place) (calls m _ _ _ _ _ _ inside c.call-moves.ensures))

pub returns-in-Store : goal.returns-in-Store
unfolding obeyed Placed
returns-in-Store c =
    let m = c.args.m.now in
    let told = c.in-Store.is in
    let place = own-place _ _ (places m c.args.record.now told c.requires).0 c.cpu_index.ensures in
    at-event m _ told (settles-as (c.store.ensures _) (ap (λ (k : ℕ). answered Done (stored k c.in-Store.word c.in-Store.value m)) place))

pub returns-in-Fault : goal.returns-in-Fault
unfolding obeyed Placed
returns-in-Fault c =
    let m = c.args.m.now in
    let told = c.in-Fault.is in
    let place = own-place _ _ (places m c.args.record.now told c.requires) c.cpu_index-in-Fault.ensures in
    at-event m _ told (settles-as (c.fault.ensures _) (ap (λ (k : ℕ). answered Done (faulted k m)) place))

pub returns-in-Exit : goal.returns-in-Exit
unfolding obeyed Placed
returns-in-Exit c =
    let m = c.args.m.now in
    let told = c.in-Exit.is in
    let place = own-place _ _ (places m c.args.record.now told c.requires).0 c.cpu_index-in-Exit.ensures in
    at-event m _ told (settles-as (c.exit.ensures _) (ap (λ (k : ℕ). answered Done (counted (exit_counter c.in-Exit.kind) k m)) place))

pub returns-in-Poll : goal.returns-in-Poll
returns-in-Poll c = at-event c.args.m.now _ c.in-Poll.is (polls c.args.m.now _ _ c.poll-polled.ensures)

pub returns-in-Malformed : goal.returns-in-Malformed
unfolding obeyed
returns-in-Malformed c = at-event c.args.m.now _ c.in-Malformed.is (c.leave.ensures _)
