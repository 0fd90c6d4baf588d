-- `calls::create_call` meets its contract: what refuses it is the first row that applies. Assumes nothing.
use Rattle.calls.proofs.Calls.{calls_by, same-waiting, with-sets, create-refused, create-asks}
use Rattle.calls.proofs.create_call.Goals as goal

pub returns-in-Ok : goal.returns-in-Ok
returns-in-Ok c =
    let m = c.args.m.now in
    calls_by m _ _ c.ask.ensures (with-sets m _ _ c.cell_sets.ensures.sets c.cell_sets.ensures.size)
    (create-asks _ _ m _ c.refusal.ensures.code _ (c.refusal.ensures.id _ c.in-Ok.is) c.in-Ok.is)

pub returns-in-Err : goal.returns-in-Err
returns-in-Err c =
    let m = c.args.m.now in
    calls_by m _ _ c.refused.ensures (same-waiting m _) (create-refused _ _ m _ c.refusal.ensures.code _ c.in-Err.is)
