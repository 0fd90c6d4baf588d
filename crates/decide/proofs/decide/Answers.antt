-- `decide::decide` meets its contract: an admitted event is obeyed, another changes nothing. Assumes nothing.
use Rattle.decide.proofs.Laws.{settles-as}
use Rattle.decide.proofs.Events.{refused-step, obeyed-step}
use Rattle.decide.proofs.decide.Goals as goal

pub obey-requires : goal.obey-requires
obey-requires c = c.admit.ensures.placed c.in-Ok.is

pub returns-in-Ok : goal.returns-in-Ok
returns-in-Ok c = settles-as c.obey.ensures (obeyed-step _ _ _ _ c.admit.ensures.follows c.in-Ok.is)

pub returns-in-Err : goal.returns-in-Err
returns-in-Err c = settles-as (c.leave.ensures _) (refused-step _ _ _ _ c.admit.ensures.follows _ c.in-Err.is)
