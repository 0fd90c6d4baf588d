-- `pages::owner` meets its contract: the iterator's first is the definition's. Assumes nothing.
use Rattle.std.proofs.Common.{refl, rules, tests}
use Rattle.std.proofs.lemmas.Iterator.{YieldsList-from_range}
use Rattle.std.proofs.lemmas.Iterator.Search.{find_from_yields_List}
use Rattle.rules.specs.Pages.{owns}
use Rattle.id_set.proofs.Laws.{found-first}
use Rattle.pages.proofs.owner.Goals as goal

pub returns : goal.returns
returns c =
    let test = owns c.args.page c.args.m.now in
    found-first test c.find.result
    (find_from_yields_List test _ _ c.find.result c.find.ensures.ran (YieldsList-from_range 1 16 15 refl refl) (λ x b q k. search (rules, tests)))
