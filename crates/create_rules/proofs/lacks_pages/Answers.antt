-- `create_rules::lacks_pages` meets its contract, by what is left of the pool. Assumes nothing.
use Rattle.create_rules.proofs.Laws.{no-pages, pages-left}
use Rattle.create_rules.proofs.lacks_pages.Goals as goal

pub returns-then-pages-least : goal.returns-then-pages-least
returns-then-pages-least c = no-pages _ _ _ c.if-pages-least.true

pub returns : goal.returns
returns c = pages-left _ _ _ c.if-pages-least.false
