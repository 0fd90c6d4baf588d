-- `calls::by_code` meets its contract: each arm is its row of the table. Assumes nothing.
use mathlib.Core.Path.{ap, ◌∙◌}
use lib.IntN.{ℤ}
use Rattle.rules.specs.Calls.{ends}
use Rattle.rules.specs.Effects.{counted, call_counter}
use Rattle.calls.proofs.Calls.{calls_by, at-call, same-waiting, same-info, same-state, with-sets, code-disable, code-create, code-start, code-loadable, code-destroy, code-info, code-state, code-cpu}
use Rattle.calls.proofs.by_code.Goals as goal

pub returns-in-HypervisorDisable : goal.returns-in-HypervisorDisable
returns-in-HypervisorDisable c =
    let m = c.args.m.now in
    at-call m _ _ _ _ _ c.in-HypervisorDisable.is
    (calls_by m _ _ c.ask.ensures (with-sets m _ _ c.cell_sets.ensures.sets c.cell_sets.ensures.size) (code-disable _ c.args.a1 c.args.a2 _ _))

pub returns-in-CellCreate : goal.returns-in-CellCreate
returns-in-CellCreate c =
    let m = c.args.m.now in
    at-call m _ _ _ _ _ c.in-CellCreate.is
    (let made = c.create_call.ensures in
    record { moves = made.moves ∙ code-create _ c.args.a1 c.args.a2 _ _; place = made.place })

pub returns-in-CellStart : goal.returns-in-CellStart
returns-in-CellStart c =
    let m = c.args.m.now in
    at-call m _ _ _ _ _ c.in-CellStart.is
    (let made = c.target_call.ensures _ _ in record { moves = made.moves ∙ code-start _ c.args.a1 c.args.a2 _ _; place = made.place })

pub returns-in-CellSetLoadable : goal.returns-in-CellSetLoadable
returns-in-CellSetLoadable c =
    let m = c.args.m.now in
    at-call m _ _ _ _ _ c.in-CellSetLoadable.is
    (let made = c.target_call-in-CellSetLoadable.ensures _ _ in record { moves = made.moves ∙ code-loadable _ c.args.a1 c.args.a2 _ _; place = made.place })

pub returns-in-CellDestroy : goal.returns-in-CellDestroy
returns-in-CellDestroy c =
    let m = c.args.m.now in
    at-call m _ _ _ _ _ c.in-CellDestroy.is
    (let made = c.target_call-in-CellDestroy.ensures _ _ in record { moves = made.moves ∙ code-destroy _ c.args.a1 c.args.a2 _ _; place = made.place })

pub returns-in-HypervisorGetInfo : goal.returns-in-HypervisorGetInfo
returns-in-HypervisorGetInfo c =
    let m = c.args.m.now in
    at-call m _ _ _ _ _ c.in-HypervisorGetInfo.is
    (calls_by m _ _ c.told.ensures (same-waiting m _) (ap (λ (z : ℤ). ends z (counted call_counter c.args.cpu m)) (c.get_info.ensures.code ∙ same-info m _ _) ∙ code-info _ c.args.a1 c.args.a2 _ _))

pub returns-in-CellGetState : goal.returns-in-CellGetState
returns-in-CellGetState c =
    let m = c.args.m.now in
    at-call m _ _ _ _ _ c.in-CellGetState.is
    (calls_by m _ _ c.told-in-CellGetState.ensures (same-waiting m _) (ap (λ (z : ℤ). ends z (counted call_counter c.args.cpu m)) (c.get_state.ensures.code ∙ same-state m _ _) ∙ code-state _ c.args.a1 c.args.a2 _ _))

pub returns-in-CpuGetInfo : goal.returns-in-CpuGetInfo
returns-in-CpuGetInfo c =
    let m = c.args.m.now in
    at-call m _ _ _ _ _ c.in-CpuGetInfo.is
    (calls_by m _ _ c.told-in-CpuGetInfo.ensures (same-waiting m _) (ap (λ (z : ℤ). ends z (counted call_counter c.args.cpu m)) c.cpu_get_info.ensures.code ∙ code-cpu _ c.args.a1 c.args.a2 _ _))
