-- `create_rules::refusal` meets its contract: each test is a rule of Create's row, in its order. Assumes nothing.
use mathlib.Core.Path.{◌≡◌, sym, ap, ◌∙◌}
use borrow.Author.Tests.{lt-ltb, le-ltb}
use Rattle.std.specs.Prelude.{Err}
use Rattle.std.proofs.Common.{rules}
use Rattle.base.proofs.Rules.{rule-holds, rule-passed}
use Rattle.cell_record.specs.CellRecord.{cell_of}
use Rattle.create_rules.specs.Rows.{code_of_id, create_code}
use Rattle.create_rules.proofs.Laws.{not-valid, valid-inside, use-code, room-code, id-code, id-is}
use Rattle.create_rules.proofs.refusal.Goals.{then-not-is_valid-via-then-not-is_valid, then-not-is_valid-via-else-not-is_valid+then-not-is_subset}
use Rattle.create_rules.proofs.refusal.Goals as goal

pub returns-then-locked-clause-code : goal.returns-then-locked-clause-code
unfolding create_code
returns-then-locked-clause-code c =
    let k = c.is_locked_but-locked.ensures c.args.m.now c.cell_sets.ensures.sets.locked in
    rule-holds _ _ _ (sym k ∙ c.if-locked.true)

pub returns-then-record-gt-MAX_LENGTH-clause-code : goal.returns-then-record-gt-MAX_LENGTH-clause-code
unfolding create_code
returns-then-record-gt-MAX_LENGTH-clause-code c =
    let k = c.is_locked_but-locked.ensures c.args.m.now c.cell_sets.ensures.sets.locked in
    rule-holds _ _ _ (lt-ltb _ _ c.if-record-gt-MAX_LENGTH.true) ∙ rule-passed _ _ _ (sym k ∙ c.if-locked.false)

pub returns-then-not-is_valid-clause-code : goal.returns-then-not-is_valid-clause-code
unfolding create_code cell_of
returns-then-not-is_valid-clause-code c =
    let m = c.args.m.now in
    let k = c.is_locked_but-locked.ensures m c.cell_sets.ensures.sets.locked in
    let v = c.is_valid.ensures in
    rule-holds _ _ _ (elim c.then-not-is_valid.branch [
      | then-not-is_valid-via-then-not-is_valid w ↦ not-valid _ m _ v w.if-not-is_valid.true
      | then-not-is_valid-via-else-not-is_valid+then-not-is_subset w ↦
          valid-inside _ m _ v w.if-not-is_valid.false _ _ _ c.u64_at-cpus.ensures w.is_subset.ensures w.if-not-is_subset.true
    ])
    ∙ rule-passed _ _ _ (le-ltb _ _ c.if-record-gt-MAX_LENGTH.false) ∙ rule-passed _ _ _ (sym k ∙ c.if-locked.false)

pub returns-in_err-in_use-clause-code : goal.returns-in_err-in_use-clause-code
unfolding create_code cell_of
returns-in_err-in_use-clause-code c =
    let m = c.args.m.now in
    let k = c.is_locked_but-locked.ensures m c.cell_sets.ensures.sets.locked in
    let is : c.from_residual.result ≡ Err c.in_err-in_use.field-0.0 = search rules in
    ap code_of_id is ∙ use-code _ _ m _ c.in_use.ensures _ c.in_err-in_use.was
    ∙ rule-passed _ _ _
    (valid-inside _ m _ c.is_valid.ensures c.if-not-is_valid.false _ _ _ c.u64_at-cpus.ensures c.is_subset.ensures c.if-not-is_subset.false)
    ∙ rule-passed _ _ _ (le-ltb _ _ c.if-record-gt-MAX_LENGTH.false) ∙ rule-passed _ _ _ (sym k ∙ c.if-locked.false)

pub returns-clause-code : goal.returns-clause-code
unfolding create_code cell_of
returns-clause-code c =
    let m = c.args.m.now in
    let k = c.is_locked_but-locked.ensures m c.cell_sets.ensures.sets.locked in
    ap code_of_id c.ok_or.ensures.value ∙ id-code (cell_of c.args.record.now) m _ c.new_id.ensures
    ∙ room-code _ _ m _ c.in_use.ensures c.in_ok-in_use.was
    ∙ rule-passed _ _ _
    (valid-inside _ m _ c.is_valid.ensures c.if-not-is_valid.false _ _ _ c.u64_at-cpus.ensures c.is_subset.ensures c.if-not-is_subset.false)
    ∙ rule-passed _ _ _ (le-ltb _ _ c.if-record-gt-MAX_LENGTH.false) ∙ rule-passed _ _ _ (sym k ∙ c.if-locked.false)

pub returns-clause-id : goal.returns-clause-id
returns-clause-id c id q =
    id-is (cell_of c.args.record.now) c.args.m.now _ c.new_id.ensures id (sym c.ok_or.ensures.value ∙ q)
