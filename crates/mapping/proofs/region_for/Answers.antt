-- `mapping::region_for` meets its contract: the iterator's first is the definition's. Assumes nothing.
use Rattle.std.proofs.Common.{Option, sym, ap, ◌∙◌, rules, tests}
use Rattle.std.specs.Option.{unwrap_or, option_map}
use Rattle.std.proofs.lemmas.Iterator.{YieldsList-from_slice}
use Rattle.std.proofs.lemmas.Iterator.Search.{find_from_yields_List}
use Rattle.regions.specs.declared.MemRegion.{MemRegion}
use Rattle.regions.specs.Regions.{no_region}
use Rattle.rules.specs.Pages.{has_virt}
use Rattle.mapping.proofs.Laws.{first-region}
use Rattle.mapping.proofs.region_for.Goals as goal

pub returns-in-Some : goal.returns-in-Some
returns-in-Some c =
    let found = find_from_yields_List (has_virt c.args.page) _ _ c.find.result c.find.ensures.ran (YieldsList-from_slice c.args.regions.now cc) (λ x b q k. search (rules, tests)) in
    ap (λ o. unwrap_or (option_map (λ r. r.now) o) no_region) (sym c.in-Some.is)
    ∙ ap (λ (o : Option MemRegion). unwrap_or o no_region) found
    ∙ first-region c.args.page c.args.regions.now

pub returns-in-None : goal.returns-in-None
returns-in-None c =
    let found = find_from_yields_List (has_virt c.args.page) _ _ c.find.result c.find.ensures.ran (YieldsList-from_slice c.args.regions.now cc) (λ x b q k. search (rules, tests)) in
    c.no_region.ensures
    ∙ ap (λ o. unwrap_or (option_map (λ r. r.now) o) no_region) (sym c.in-None.is)
    ∙ ap (λ (o : Option MemRegion). unwrap_or o no_region) found
    ∙ first-region c.args.page c.args.regions.now
