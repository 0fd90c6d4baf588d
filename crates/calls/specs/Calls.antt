-- What a call decides: a move, right at the machine where the call is counted.
use Rattle.std.specs.Prelude.{◌≡◌, Bool, ◌||◌, ℕ, ◌<◌, leb, eqb}
use Rattle.cell_record.specs.declared.CellConfig.{CellConfig}
use Rattle.machine_state.specs.declared.Machine.{Machine}
use Rattle.machine_state.specs.declared.Stepped.{Stepped}
use Rattle.machine_state.specs.Machine.{max_cells}
use Rattle.rules.specs.Effects.{counted, call_counter}
use Rattle.rules.specs.Calls.{cell_destroy, cell_get_state}
use Rattle.asking.specs.declared.Move.{Move}
use Rattle.asking.specs.Moves.{moved}

-- "Codes 0 to 4 and 6 from a non-root CPU give -1."
unfoldable pub roots_alone : ℕ → Bool
roots_alone code = leb code cell_destroy || eqb code cell_get_state

-- a call's move is right at the machine where it is counted
pub record Calls (m : Machine) (cpu : ℕ) (new : CellConfig) (rule : Machine → Stepped) (mv : Move) : Type 0 where
  pub moves : moved mv new (counted call_counter cpu m) ≡ rule (counted call_counter cpu m)
  pub place : mv.cell < max_cells
