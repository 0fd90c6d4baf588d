-- `asking::keep_words` meets its contract: words that are kept at place 0 stay as they are. Assumes nothing.
use Rattle.asking.proofs.Laws.{keeps}
use Rattle.asking.proofs.keep_words.Goals as goal

pub returns : goal.returns
returns c = keeps _ _ _
