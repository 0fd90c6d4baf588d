-- What a call or a poll does once its CPU is counted, as one small value: the answer, the effect that comes, what is done to the words of one
-- cell, and the call that waits then.
use Rattle.std.specs.Prelude.{true, false, ◌≡◌, ℕ, ◌<◌, ltb, length, Option, None, Some}
use Rattle.cell_record.specs.declared.CellConfig.{CellConfig}
use Rattle.machine_state.specs.declared.CommRegion.{CommRegion}
use Rattle.machine_state.specs.declared.CallKind.{CallKind}
use Rattle.machine_state.specs.declared.Stage.{Stage}
use Rattle.machine_state.specs.declared.Machine.{Machine}
use Rattle.machine_state.specs.declared.Stepped.{Stepped}
use Rattle.machine_state.specs.Machine.{max_cells}
use Rattle.rules.specs.State.{comm_at, with_waiting, answered}
use Rattle.rules.specs.Effects.{effect, cell_cut_off}
use Rattle.rules.specs.Asking.{reconfig_completed, telling, wait_for, finished, end_code}
use Rattle.comms.specs.declared.CellSets.{CellSets}
use Rattle.comms.specs.Comms.{words_at}
use Rattle.comms.specs.Sets.{Sets}
use Rattle.asking.specs.declared.Move.{Move}

-- the effect that comes: none, or that of a call on its target
abbrev pub Effect : Type 0
Effect = Option (CallKind × ℕ)

unfoldable pub effect_of : Effect → CellConfig → Machine → Machine
effect_of None new m = m
effect_of (Some (kind, target)) new m = effect kind target new m

-- the effect first, then the words, then the call that waits
unfoldable pub moved : Move → CellConfig → Machine → Stepped
moved mv new m = answered mv.answer (with_waiting mv.waiting (words_at mv.cell mv.words (effect_of mv.effect new m)))

-- a move is what a rule says, at every machine that has the parts from which it was decided; its words are in the table
pub record Moves (has : Machine → Type 0) (rule : CellConfig → Machine → Stepped) (mv : Move) : Type 0 where
  pub moves : (m : Machine) (new : CellConfig) → has m → moved mv new m ≡ rule new m
  pub place : mv.cell < max_cells

-- the machines that a move is decided for: any, or those with these sets of cells
abbrev pub AnyMachine : Machine → Type 0
AnyMachine m = Unit {0}

pub record WithSets (cells : CellSets) (m : Machine) : Type 0 where
  pub sets : Sets cells m
  pub size : length m.comms ≡ max_cells

-- those in which the words of the stage's cell are these
pub record Hears (cells : CellSets) (w : CommRegion) (stage : Stage) (m : Machine) : Type 0 where
  pub parts : WithSets cells m
  pub words : comm_at m stage.cell ≡ w

-- a poll cuts a cell off, or none: a number past the table names none
unfoldable pub cut_off_at : Option ℕ → Machine → Machine
cut_off_at None m = m
cut_off_at (Some cut) m = elim (ltb cut max_cells) [ true ↦ cell_cut_off cut m | false ↦ m ]

-- telling the cell `next`, or with none left the call's end
unfoldable pub tell_next : CallKind → ℕ → Option ℕ → Machine → Stepped
tell_next kind target (Some next) m = wait_for kind (telling target next 0) reconfig_completed m
tell_next kind target None m = finished (end_code kind target) m
