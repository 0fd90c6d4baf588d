-- `region_table::all_apart` meets its contract: the chain tests each region with those before it. Assumes nothing.
use Rattle.base.specs.Lists.{all}
use Rattle.base.proofs.Lists.{pairwise-rows}
use Rattle.regions.specs.Regions.{apart, no_region}
use Rattle.region_table.proofs.Laws.{all-placed}
use Rattle.std.proofs.Common.{rules, ap, ◌∙◌, take}
use Rattle.std.specs.Slice.Iter.{iter_rest}
use Rattle.std.proofs.lemmas.Iterator.{YieldsList-from_slice}
use Rattle.std.proofs.lemmas.Iterator.Consumers.{YieldsList-from_enumerate}
use Rattle.std.proofs.lemmas.Iterator.Search.{all_from_yields_List}
use Rattle.region_table.proofs.all_apart.Goals as goal

pub returns : goal.returns
unfolding no_region
returns c =
    let rs = c.args.regions.now in
    all_from_yields_List (λ p. all (λ x. apart x p.1) (take p.0 rs)) _ _ c.all.result c.all.ensures.ran
    (YieldsList-from_enumerate (YieldsList-from_slice rs (ap iter_rest c.enumerate.ensures.source ∙ c.iter.ensures.rest)) c.enumerate.ensures.count)
    (λ i b q h. search rules)
    ∙ all-placed (λ p. all (λ x. apart x p.1) (take p.0 rs)) no_region rs
    ∙ pairwise-rows apart no_region rs
