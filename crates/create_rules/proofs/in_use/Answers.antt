-- `create_rules::in_use` meets its contract: its tests are the two rules, in their order, with what a look at the live cells finds. Assumes nothing.
use mathlib.Core.Path.{refl, ap, ◌∙◌}
use Rattle.base.specs.Lists.{same}
use Rattle.base.proofs.Rules.{rule-holds, rule-passed, no-rule}
use Rattle.cell_record.specs.CellRecord.{cell_of}
use Rattle.live_cells.specs.Looks.{asks_create}
use Rattle.create_rules.specs.Rows.{use_code}
use Rattle.create_rules.proofs.Laws.{name-is, busy-is}
use Rattle.create_rules.proofs.in_use.Goals as goal

pub returns-then-same_name-found : goal.returns-then-same_name-found
unfolding use_code asks_create
returns-then-same_name-found c =
    let m = c.args.m.now in
    let f = c.look_through-found.ensures m refl refl refl in
    rule-holds _ _ _ (name-is _ m _ f _ (c.same_name.ensures ∙ ap (same _) c.name-name.ensures) ∙ c.if-same_name-found.true)

pub returns-then-contains-is_subset : goal.returns-then-contains-is_subset
unfolding use_code cell_of asks_create
returns-then-contains-is_subset c =
    let m = c.args.m.now in
    let f = c.look_through-found.ensures m refl refl refl in
    rule-holds _ _ _ (busy-is _ m _ f _ _ _ _ c.u64_at-cpus.ensures c.contains.ensures c.is_subset.ensures ∙ c.if-contains-is_subset.true)
    ∙ rule-passed _ _ _ (name-is _ m _ f _ (c.same_name.ensures ∙ ap (same _) c.name-name.ensures) ∙ c.if-same_name-found.false)

pub returns : goal.returns
unfolding use_code cell_of asks_create
returns c =
    let m = c.args.m.now in
    let f = c.look_through-found.ensures m refl refl refl in
    no-rule _ ∙ rule-passed _ _ _ (busy-is _ m _ f _ _ _ _ c.u64_at-cpus.ensures c.contains.ensures c.is_subset.ensures ∙ c.if-contains-is_subset.false)
    ∙ rule-passed _ _ _ (name-is _ m _ f _ (c.same_name.ensures ∙ ap (same _) c.name-name.ensures) ∙ c.if-same_name-found.false)
