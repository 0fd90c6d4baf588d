-- `pages::has_region` meets its contract: the iterator goes through the regions in use of a live cell, which has its place in the table. Assumes
-- nothing.
use Rattle.std.proofs.Common.{Bool, ◌&&◌, List, sym, ap, ◌∙◌, not, lit<, rules, tests}
use Rattle.std.proofs.lemmas.Iterator.{YieldsList-from_slice}
use Rattle.std.proofs.lemmas.Iterator.Search.{any_from_yields_List}
use Rattle.base.specs.Lists.{any}
use Rattle.regions.specs.declared.MemRegion.{MemRegion}
use Rattle.rules.specs.State.{regions_at}
use Rattle.pages.proofs.Laws.{live-place, place-fits}
use Rattle.pages.proofs.has_region.Goals as goal

pub offset_bounds-m-id : goal.offset_bounds-m-id
offset_bounds-m-id g c = record { fits = place-fits _ _ (live-place _ _ _ c.is_live.ensures (ap not c.if-not-is_live.false)) (lit< tt) }

pub bounds-m-id : goal.bounds-m-id
bounds-m-id g c = live-place _ _ _ c.is_live.ensures (ap not c.if-not-is_live.false)

pub returns : goal.returns
returns g c = λ passes t.
    any_from_yields_List passes _ _ c.any.result c.any.ensures.ran (YieldsList-from_slice c.regions.result.now cc) (λ x b q k. search (rules, tests, t))
    ∙ ap (λ (rs : List MemRegion). any passes rs) c.regions.ensures
    ∙ ap (λ (b : Bool). b && any passes (regions_at c.args.m.now c.args.id)) (sym c.if-not-is_live.false ∙ c.is_live.ensures)
