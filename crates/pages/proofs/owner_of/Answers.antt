-- `pages::owner_of` meets its contract: each test is a row of the table, in its order. Assumes nothing.
use Rattle.std.proofs.Common.{sym, ap, not, ◌∙◌}
use Rattle.machine_state.specs.declared.Owner.TheVariants as Owner
use Rattle.base.proofs.Rules.{rule-holds, rule-passed, no-rule}
use Rattle.rules.specs.Pages.{owner_of, owns}
use Rattle.pages.proofs.Laws.{some-first, none-first}
use Rattle.pages.proofs.owner_of.Goals as goal

pub returns-then-not-has_booted : goal.returns-then-not-has_booted
unfolding owner_of
returns-then-not-has_booted c = rule-holds _ _ _ (ap not (sym c.has_booted.ensures ∙ c.if-not-has_booted.true))

pub returns-then-hypervisor_has : goal.returns-then-hypervisor_has
unfolding owner_of
returns-then-hypervisor_has c =
    rule-holds _ _ _ (sym c.hypervisor_has.ensures ∙ c.if-hypervisor_has.true)
    ∙ rule-passed _ _ _ (ap not (sym c.has_booted.ensures ∙ c.if-not-has_booted.false))

pub returns-in-Some : goal.returns-in-Some
unfolding owner_of
returns-in-Some c =
    let owned = some-first (owns c.args.page c.args.m.now) c.in-Some.id (sym c.owner.ensures ∙ c.in-Some.is) in
    ap Owner.Cell owned.0
    ∙ rule-holds _ _ _ owned.1
    ∙ rule-passed _ _ _ (sym c.hypervisor_has.ensures ∙ c.if-hypervisor_has.false)
    ∙ rule-passed _ _ _ (ap not (sym c.has_booted.ensures ∙ c.if-not-has_booted.false))

pub returns-then-some_shares : goal.returns-then-some_shares
unfolding owner_of
returns-then-some_shares c =
    rule-holds _ _ _ (sym c.some_shares.ensures ∙ c.if-some_shares.true)
    ∙ rule-passed _ _ _ (none-first (owns c.args.page c.args.m.now) (sym c.owner.ensures ∙ c.in_default.is))
    ∙ rule-passed _ _ _ (sym c.hypervisor_has.ensures ∙ c.if-hypervisor_has.false)
    ∙ rule-passed _ _ _ (ap not (sym c.has_booted.ensures ∙ c.if-not-has_booted.false))

pub returns-then-boot_has : goal.returns-then-boot_has
unfolding owner_of
returns-then-boot_has c =
    rule-holds _ _ _ (sym c.boot_has.ensures ∙ c.if-boot_has.true)
    ∙ rule-passed _ _ _ (sym c.some_shares.ensures ∙ c.if-some_shares.false)
    ∙ rule-passed _ _ _ (none-first (owns c.args.page c.args.m.now) (sym c.owner.ensures ∙ c.in_default.is))
    ∙ rule-passed _ _ _ (sym c.hypervisor_has.ensures ∙ c.if-hypervisor_has.false)
    ∙ rule-passed _ _ _ (ap not (sym c.has_booted.ensures ∙ c.if-not-has_booted.false))

pub returns : goal.returns
unfolding owner_of
returns c =
    no-rule _
    ∙ rule-passed _ _ _ (sym c.boot_has.ensures ∙ c.if-boot_has.false)
    ∙ rule-passed _ _ _ (sym c.some_shares.ensures ∙ c.if-some_shares.false)
    ∙ rule-passed _ _ _ (none-first (owns c.args.page c.args.m.now) (sym c.owner.ensures ∙ c.in_default.is))
    ∙ rule-passed _ _ _ (sym c.hypervisor_has.ensures ∙ c.if-hypervisor_has.false)
    ∙ rule-passed _ _ _ (ap not (sym c.has_booted.ensures ∙ c.if-not-has_booted.false))
