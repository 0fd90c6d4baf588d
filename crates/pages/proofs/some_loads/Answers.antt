-- `pages::some_loads` meets its contract: the iterator goes through the cells' IDs. Assumes nothing.
use Rattle.std.proofs.Common.{refl, rules, tests}
use Rattle.std.proofs.lemmas.Iterator.{YieldsList-from_range}
use Rattle.std.proofs.lemmas.Iterator.Search.{any_from_yields_List}
use Rattle.base.specs.Lists.{from}
use Rattle.rules.specs.Pages.{loads}
use Rattle.pages.proofs.some_loads.Goals as goal

pub returns : goal.returns
unfolding from
returns c = any_from_yields_List (loads c.args.page c.args.m.now) _ _ c.any.result c.any.ensures.ran (YieldsList-from_range 1 16 15 refl refl) (λ x b q k. search (rules, tests))
