-- `decide::cell_fails` meets its contract: a cell past the table's end does not fail, and of any other the test is the definition's. Assumes nothing.
use Rattle.decide.proofs.Laws.{past-table, cell-by, root-by, all-failed, one-works}
use Rattle.decide.proofs.cell_fails.Goals.{then-id-ne0, else-id-ne0}
use Rattle.decide.proofs.cell_fails.Goals as goal

pub returns-then-id-ge-MAX_CELLS : goal.returns-then-id-ge-MAX_CELLS
returns-then-id-ge-MAX_CELLS c = past-table c.args.cpu c.args.m.now c.if-id-ge-MAX_CELLS.true

pub returns-then-all_failed : goal.returns-then-all_failed
returns-then-all_failed c =
    let m = c.args.m.now in
    all-failed c.args.cpu m c.if-id-ge-MAX_CELLS.false c.if-id-ne0.value
    (elim c.if-id-ne0.branch [
      | then-id-ne0 w ↦ cell-by c.args.cpu m w.if-id-ne0.true _ _ w.all_failed.ensures w.value-is
      | else-id-ne0 w ↦ root-by c.args.cpu m w.if-id-ne0.false _ w.value-is
    ])
    c.if-all_failed.true _ c.is_final.ensures

pub returns-else-all_failed : goal.returns-else-all_failed
returns-else-all_failed c =
    let m = c.args.m.now in
    one-works c.args.cpu m c.if-id-ge-MAX_CELLS.false c.if-id-ne0.value
    (elim c.if-id-ne0.branch [
      | then-id-ne0 w ↦ cell-by c.args.cpu m w.if-id-ne0.true _ _ w.all_failed.ensures w.value-is
      | else-id-ne0 w ↦ root-by c.args.cpu m w.if-id-ne0.false _ w.value-is
    ])
    c.if-all_failed.false
