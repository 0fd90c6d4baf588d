-- The loop takes one ID after another out of those to look at, so that fewer are left with each turn.
use mathlib.Core.Path.{◌≡◌}
use Rattle.machine_state.specs.declared.Machine.{Machine}
use Rattle.id_set.specs.Ids.{id_count}
use Rattle.live_cells.specs.Looks.{Looking}
use Rattle.live_cells.proofs.look_through.Given as goal

abbrev pub invariant-loop-id : goal.invariant-loop-id
invariant-loop-id l = (m : Machine) → m.cells ≡ l.cells → Looking l.record m l.initial.left l.found l.left

abbrev pub decreases-loop-id : goal.decreases-loop-id
decreases-loop-id l = id_count l.left
