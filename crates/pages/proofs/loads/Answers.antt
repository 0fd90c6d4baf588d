-- `pages::loads` meets its contract: the closure is the definition's test of a region. Assumes nothing.
use Rattle.std.proofs.Common.{Bool, ◌&&◌, sym, ap, ◌∙◌, rules}
use Rattle.base.specs.Lists.{any}
use Rattle.regions.specs.Regions.{loadable}
use Rattle.rules.specs.State.{live, cell_at, regions_at}
use Rattle.rules.specs.Pages.{loads, has_phys, is_loading}
use Rattle.pages.proofs.Laws.{and-swap}
use Rattle.pages.proofs.loads.Goals as goal

pub returns-then-is_loading : goal.returns-then-is_loading
unfolding loads
returns-then-is_loading c =
    let m = c.args.m.now in
    let id = c.args.id in
    let page = c.args.page in
    c.has_region.ensures (λ r. has_phys page r && loadable r) (λ r b k. search rules)
    ∙ ap (λ (b : Bool). b && (live m id && any (λ r. has_phys page r && loadable r) (regions_at m id))) (sym c.if-is_loading.true ∙ c.is_loading.ensures)
    ∙ and-swap (is_loading (cell_at m id).phase) (live m id) (any (λ r. has_phys page r && loadable r) (regions_at m id))

pub returns-else-is_loading : goal.returns-else-is_loading
unfolding loads
returns-else-is_loading c =
    let m = c.args.m.now in
    let id = c.args.id in
    let page = c.args.page in
    c.if-is_loading.false
    ∙ ap (λ (b : Bool). b && (live m id && any (λ r. has_phys page r && loadable r) (regions_at m id))) (sym c.if-is_loading.false ∙ c.is_loading.ensures)
    ∙ and-swap (is_loading (cell_at m id).phase) (live m id) (any (λ r. has_phys page r && loadable r) (regions_at m id))
