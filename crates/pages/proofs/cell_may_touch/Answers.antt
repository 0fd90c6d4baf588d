-- `pages::cell_may_touch` meets its contract: the closure is the definition's test of a region. Assumes nothing.
use Rattle.std.proofs.Common.{Bool, not, ◌&&◌, sym, ap, ◌∙◌, rules}
use Rattle.regions.specs.Regions.{comm}
use Rattle.base.specs.Lists.{any}
use Rattle.rules.specs.State.{live, regions_at}
use Rattle.rules.specs.Pages.{cell_may_touch, has_phys}
use Rattle.pages.proofs.cell_may_touch.Goals as goal

pub returns-then-has_booted : goal.returns-then-has_booted
unfolding cell_may_touch
returns-then-has_booted c =
    let page = c.args.page in
    let m = c.args.m.now in
    c.has_region.ensures (λ r. has_phys page r && not (comm r)) (λ r b k. search rules)
    ∙ ap (λ (b : Bool). b && live m c.args.id && any (λ r. has_phys page r && not (comm r)) (regions_at m c.args.id)) (sym c.if-has_booted.true ∙ c.has_booted.ensures)

pub returns-else-has_booted : goal.returns-else-has_booted
unfolding cell_may_touch
returns-else-has_booted c =
    let page = c.args.page in
    let m = c.args.m.now in
    c.if-has_booted.false
    ∙ ap (λ (b : Bool). b && live m c.args.id && any (λ r. has_phys page r && not (comm r)) (regions_at m c.args.id)) (sym c.if-has_booted.false ∙ c.has_booted.ensures)
