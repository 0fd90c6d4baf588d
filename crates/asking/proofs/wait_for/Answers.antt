-- `asking::wait_for` meets its contract: it is the definition. Assumes nothing.
use Rattle.asking.proofs.Laws.{waits-for}
use Rattle.asking.proofs.wait_for.Goals as goal

pub returns : goal.returns
returns c = waits-for _ _ _ _ c.requires
