-- `mapping::mapping_of` meets its contract: each test is a row of the table, in its order. A live cell has its place in the table. Assumes
-- nothing.
use mathlib.Core.Path.{sym, ap, ◌∙◌}
use mathlib.Core.Bool.{not}
use lib.Dec.{lit<}
use borrow.Author.Tests.{eq-eqb, ne_eqb, not-true, not-false}
use Rattle.base.proofs.Rules.{rule-holds, rule-passed, no-rule}
use mathlib.Core.List.{List}
use Rattle.regions.specs.declared.MemRegion.{MemRegion}
use Rattle.rules.specs.Pages.{mapping_of, cell_mapping}
use Rattle.pages.proofs.Laws.{live-place, place-fits}
use Rattle.mapping.proofs.mapping_of.Goals as goal

pub returns-then-not-has_booted : goal.returns-then-not-has_booted
unfolding mapping_of
returns-then-not-has_booted c = rule-holds _ _ _ (ap not (sym c.has_booted.ensures) ∙ (ap not c.if-not-has_booted.true))

pub returns-then-id-eq0 : goal.returns-then-id-eq0
unfolding mapping_of
returns-then-id-eq0 c =
    c.root_mapping.ensures
    ∙ rule-holds _ _ _ (eq-eqb _ _ c.if-id-eq0.true)
    ∙ rule-passed _ _ _ (ap not (sym c.has_booted.ensures) ∙ (ap not c.if-not-has_booted.false))

pub returns-then-not-is_live : goal.returns-then-not-is_live
unfolding mapping_of
returns-then-not-is_live c =
    no-rule _
    ∙ rule-passed _ _ _ (sym c.is_live.ensures ∙ not-true _ (ap not c.if-not-is_live.true))
    ∙ rule-passed _ _ _ (ne_eqb _ _ c.if-id-eq0.false)
    ∙ rule-passed _ _ _ (ap not (sym c.has_booted.ensures) ∙ (ap not c.if-not-has_booted.false))

pub offset_bounds-m-id : goal.offset_bounds-m-id
offset_bounds-m-id c = record { fits = place-fits _ _ (live-place _ _ _ c.is_live.ensures (ap not c.if-not-is_live.false)) (lit< tt) }

pub bounds-m-id : goal.bounds-m-id
bounds-m-id c = live-place _ _ _ c.is_live.ensures (ap not c.if-not-is_live.false)

pub returns : goal.returns
unfolding mapping_of
returns c =
    c.table_mapping.ensures
    ∙ ap (λ (rs : List MemRegion). cell_mapping rs c.args.page) c.regions.ensures
    ∙ rule-holds _ _ _ (sym c.is_live.ensures ∙ not-false _ (ap not c.if-not-is_live.false))
    ∙ rule-passed _ _ _ (ne_eqb _ _ c.if-id-eq0.false)
    ∙ rule-passed _ _ _ (ap not (sym c.has_booted.ensures) ∙ (ap not c.if-not-has_booted.false))
