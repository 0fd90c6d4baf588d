-- `pages::root_may_touch` meets its contract: it is the definition, with what its parts ensure. Assumes nothing.
use Rattle.std.proofs.Common.{◌≡◌, true, false, sym, ap, ◌&&◌, ◌||◌, ◌∙◌}
use Rattle.base.specs.Lists.{any}
use Rattle.rules.specs.State.{cell_ids}
use Rattle.rules.specs.Pages.{root_may_touch, has_booted, boot_has, open_to_root, owner_of, loads}
use Rattle.pages.proofs.root_may_touch.Goals as goal

pub returns-then-open_to_root : goal.returns-then-open_to_root
unfolding root_may_touch
returns-then-open_to_root c =
    let m = c.args.m.now in
    let page = c.args.page in
    let shown : true ≡ (has_booted m.power && boot_has page m) = sym c.if-has_booted-boot_has.true ∙ (λ i. c.has_booted.ensures i && c.boot_has.ensures i) in
    let open-to : true ≡ open_to_root (owner_of page m) = sym c.if-open_to_root.true ∙ c.open_to_root.ensures ∙ ap open_to_root c.owner_of.ensures in
    c.if-open_to_root.true ∙ (λ i. shown i && (open-to i || any (loads page m) cell_ids))

pub returns-else-open_to_root : goal.returns-else-open_to_root
unfolding root_may_touch
returns-else-open_to_root c =
    let m = c.args.m.now in
    let page = c.args.page in
    let shown : true ≡ (has_booted m.power && boot_has page m) = sym c.if-has_booted-boot_has.true ∙ (λ i. c.has_booted.ensures i && c.boot_has.ensures i) in
    let closed-to : false ≡ open_to_root (owner_of page m) = sym c.if-open_to_root.false ∙ c.open_to_root.ensures ∙ ap open_to_root c.owner_of.ensures in
    λ i. shown i && (closed-to i || c.some_loads.ensures i)

pub returns-else-has_booted-boot_has : goal.returns-else-has_booted-boot_has
unfolding root_may_touch
returns-else-has_booted-boot_has c =
    let m = c.args.m.now in
    let page = c.args.page in
    let hidden : false ≡ (has_booted m.power && boot_has page m) = sym c.if-has_booted-boot_has.false ∙ (λ i. c.has_booted.ensures i && c.boot_has.ensures i) in
    c.if-has_booted-boot_has.false ∙ (λ i. hidden i && (open_to_root (owner_of page m) || any (loads page m) cell_ids))
