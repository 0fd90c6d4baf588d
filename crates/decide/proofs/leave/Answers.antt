-- `decide::leave` meets its contract: it is the definition. Assumes nothing.
use Rattle.decide.proofs.Laws.{settles-at, leaves}
use Rattle.decide.proofs.leave.Goals as goal

pub returns : goal.returns
returns c = λ new. settles-at c.uncut.ensures (leaves c.args.m.now new _ _ c.stay.ensures)
