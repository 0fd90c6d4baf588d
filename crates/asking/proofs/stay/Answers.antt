-- `asking::stay` meets its contract: the call that waits already waits on. Assumes nothing.
use mathlib.Core.Path.{ap}
use Rattle.rules.specs.State.{answered}
use Rattle.asking.specs.Moves.{effect_of}
use Rattle.asking.proofs.Laws.{moves-as, same-waiting}
use Rattle.asking.proofs.stay.Goals as goal

pub returns : goal.returns
unfolding effect_of
returns c = moves-as c.keep_words.ensures (λ m h. tt) (λ m new e. ap (answered c.args.answer) (same-waiting c.args.waiting m e))
