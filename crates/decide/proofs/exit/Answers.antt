-- `decide::exit` meets its contract: its CPU counted, and nothing else. Assumes nothing.
use Rattle.decide.proofs.Laws.{settles-at, exits}
use Rattle.decide.proofs.exit.Goals as goal

pub returns : goal.returns
returns c = λ new. settles-at c.uncut.ensures (exits c.args.m.now new c.args.cpu c.args.kind _ c.requires.0 c.stay.ensures)
