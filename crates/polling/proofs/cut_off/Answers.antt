-- `polling::cut_off` meets its contract: the cell's words, failed, the sets without it, and what is heard from them. Assumes nothing.
use Rattle.asking.specs.Moves.{WithSets}
use Rattle.polling.proofs.Laws.{cuts}
use Rattle.polling.proofs.cut_off.Goals as goal

pub returns : goal.returns
returns c =
    let sets : WithSets _ c.args.m.now = record { sets = c.cell_sets-cells.ensures.sets; size = c.cell_sets-cells.ensures.size } in
    cuts c.args.m.now _ _ _ _ _ _ c.requires sets c.change_words-failed.ensures c.without_cell-others.ensures c.hear.ensures
