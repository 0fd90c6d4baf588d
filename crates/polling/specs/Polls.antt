-- What a poll does: the cell that its limit cuts off, if it cuts one off, and then a move.
use Rattle.std.specs.Prelude.{◌≡◌, ◌<◌, None}
use Rattle.cell_record.specs.declared.CellConfig.{CellConfig}
use Rattle.machine_state.specs.declared.Machine.{Machine}
use Rattle.machine_state.specs.declared.Stepped.{Stepped}
use Rattle.machine_state.specs.Machine.{max_cells}
use Rattle.asking.specs.declared.Move.{Move}
use Rattle.polling.specs.declared.Polled.{Polled}
use Rattle.asking.specs.Moves.{moved, cut_off_at}

-- a poll that cuts no cell off
abbrev pub uncut : Move → Polled
uncut mv = record { cut = None; moves = mv }

-- a poll is what a rule says: the cell cut off first, then the move
pub record PollMoves (m : Machine) (rule : CellConfig → Machine → Stepped) (p : Polled) : Type 0 where
  pub moves : (new : CellConfig) → moved p.moves new (cut_off_at p.cut m) ≡ rule new m
  pub place : p.moves.cell < max_cells
