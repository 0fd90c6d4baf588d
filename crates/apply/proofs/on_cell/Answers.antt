-- `apply::on_cell` meets its contract: the parts, stored at the cell's place, make the rule's machine; past the tables' end there is none.
-- Assumes nothing.
use Rattle.std.proofs.Common.{rules, length, ◌≤◌, refl, ◌∙◌}
use Rattle.effects.specs.Parts.{parts_stored}
use Rattle.effects.proofs.Laws.{stored-is-effect, none-stored, within-here}
use Rattle.apply.proofs.on_cell.Goals as goal

pub returns-then-id-lt-MAX_CELLS : goal.returns-then-id-lt-MAX_CELLS
unfolding parts_stored
returns-then-id-lt-MAX_CELLS c q =
    stored-is-effect _ _ _ c.args.m.now _ _ _ _ _ q c.figures_of-new.ensures c.numbers_after-numbers.ensures c.change_cell.ensures
    (c.words_after.ensures ∙ within-here _ _ _ c.if-id-lt-MAX_CELLS.true) c.change_cpus.ensures

pub returns-else-id-lt-MAX_CELLS : goal.returns-else-id-lt-MAX_CELLS
returns-else-id-lt-MAX_CELLS c q =
    let m = c.args.m.now in
    let past_cells : length m.cells ≤ c.args.id = search rules in
    let past_comms : length m.comms ≤ c.args.id = search rules in
    none-stored c.numbers_after-numbers.result _ _ _ _ m past_cells past_comms
    ∙ stored-is-effect _ _ _ m _ _ _ _ _ q c.figures_of-new.ensures c.numbers_after-numbers.ensures refl refl c.change_cpus.ensures
