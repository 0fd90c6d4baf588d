-- `decide::store` meets its contract: the words that the rule names, and its CPU kept. Assumes nothing.
use Rattle.decide.proofs.Laws.{settles-at, stores}
use Rattle.decide.proofs.store.Goals as goal

pub returns : goal.returns
returns c = λ new. settles-at c.uncut.ensures (stores c.args.m.now new _ _ _ c.requires.0 c.requires.1)
