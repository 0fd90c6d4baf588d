-- `polling::poll_cell` meets its contract: by whether the cell is in the table, whether it is heard, and whether it has a limit. Assumes nothing.
use mathlib.Core.Path.{◌≡◌, refl, ap, sym, ◌∙◌}
use native.Mathlib.Omega.{arith}
use lib.ListN.{length}
use Rattle.machine_state.specs.declared.CommRegion.{CommRegion}
use Rattle.rules.specs.Asking.{is_heard}
use Rattle.asking.proofs.Laws.{moves-as}
use Rattle.polling.proofs.Laws.{moves-uncut, stays, polled-heard, polled-silent, polled-past, own-words}
use Rattle.polling.proofs.poll_cell.Goals as goal

pub returns-then-cell-ge-MAX_CELLS : goal.returns-then-cell-ge-MAX_CELLS
returns-then-cell-ge-MAX_CELLS c =
    let m = c.args.m.now in
    let size : length m.comms ≡ 16 = omega arith in
    stays m _ _ _ _ c.uncut-still_waits.ensures c.stay.ensures refl (λ new. polled-past c.args.kind c.args.stage new m c.if-cell-ge-MAX_CELLS.true size c.requires)

pub returns-then-is_heard : goal.returns-then-is_heard
returns-then-is_heard c =
    let m = c.args.m.now in
    let own = own-words m c.args.stage.cell _ c.if-cell-ge-MAX_CELLS.false c.cell_index.ensures.is in
    moves-uncut m c.uncut.ensures
    (moves-as c.hear.ensures (λ x h. h)
    (λ x new h. polled-heard c.args.kind c.args.stage new x _ h.words (sym c.is_heard.ensures ∙ c.if-is_heard.true)))
    (record { parts = record { sets = c.cell_sets.ensures.sets; size = c.cell_sets.ensures.size }; words = own })

pub returns-then-limit-eq0 : goal.returns-then-limit-eq0
returns-then-limit-eq0 c =
    let m = c.args.m.now in
    let own = own-words m c.args.stage.cell _ c.if-cell-ge-MAX_CELLS.false c.cell_index.ensures.is in
    stays m _ _ _ _ c.uncut-still_waits.ensures c.stay.ensures refl
    (λ new. polled-silent c.args.kind c.args.stage new m _ own (sym c.is_heard.ensures ∙ c.if-is_heard.false) c.if-limit-eq0.true c.requires)

pub unheard-requires : goal.unheard-requires
unheard-requires c =
    let m = c.args.m.now in
    let own = own-words m c.args.stage.cell _ c.if-cell-ge-MAX_CELLS.false c.cell_index.ensures.is in (
      c.if-cell-ge-MAX_CELLS.false,
      ap is_heard own ∙ sym c.is_heard.ensures ∙ c.if-is_heard.false,
      λ q. c.if-limit-eq0.false (sym (ap (λ (w : CommRegion). w.reply_limit) own) ∙ q),
    )
