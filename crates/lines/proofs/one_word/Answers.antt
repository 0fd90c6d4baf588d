-- `lines::one_word` meets its contract, by the test of the word. Assumes nothing.
use Rattle.base.specs.Lists.{same}
use Rattle.lines.specs.Lines.{word_poll, event_of}
use Rattle.lines.proofs.EventLaws.{given-if}
use Rattle.lines.proofs.one_word.Goals as goal

pub returns : goal.returns
unfolding event_of
returns c = rw (c.then_some.ensures, c.is_word.ensures) (given-if (same c.args.w.now word_poll) _)
