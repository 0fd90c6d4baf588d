-- `live_cells::look_through` meets its contract: a look adds what it finds of one cell. Assumes nothing.
use Rattle.std.proofs.Common.{List, sym, ap, ◌∙◌, arith}
use Rattle.machine_state.specs.declared.Cell.{Cell}
use Rattle.machine_state.specs.Machine.{cell_in}
use Rattle.live_cells.specs.Looks.{to_look_at}
use Rattle.live_cells.proofs.Looks.{look-start, look-turn, look-less, look-end}
use Rattle.live_cells.proofs.look_through.Goals as goal

pub loop-id-init : goal.loop-id-init
loop-id-init c m t = look-start _ m _ c.nothing_found-found.ensures

pub offset_bounds-cells-id : goal.offset_bounds-cells-id
offset_bounds-cells-id c =
    let inside = (c.lowest.ensures.found c.in-Some.id c.in-Some.is).0 in record { fits = omega (arith, inside) }

pub bounds-cells-id : goal.bounds-cells-id
bounds-cells-id c = (c.lowest.ensures.found c.in-Some.id c.in-Some.is).0

pub loop-id-smaller : goal.loop-id-smaller
loop-id-smaller c = look-less c.loop-id.left c.in-Some.id c.drop_id-left.result (c.lowest.ensures.found c.in-Some.id c.in-Some.is) c.drop_id-left.ensures

pub loop-id-preserved : goal.loop-id-preserved
loop-id-preserved c m t =
    let id = c.in-Some.id in
    look-turn (c.loop-id.invariant m t) id c.drop_id-left.result (c.lowest.ensures.found id c.in-Some.is)
    (ap (λ (cells : List Cell). cell_in cells id) t) c.look-found.ensures c.drop_id-left.ensures

pub returns : goal.returns
returns c m u t q =
    look-end (c.loop-id.invariant m t) _ (c.lowest.ensures.none c.in_default.is)
    (c.to_look_at-left.ensures ∙ ap (to_look_at c.args.e) (sym u)) q
