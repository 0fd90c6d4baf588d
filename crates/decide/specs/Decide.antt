-- A decision: what is done to one CPU, which cell is cut off, and then the move.
use Rattle.std.specs.Prelude.{◌≡◌, Bool, not, ◌&&◌, List, ℕ, ◌<◌, ltb, eqb, set, None}
use Rattle.cell_record.specs.declared.CellConfig.{CellConfig}
use Rattle.cell_record.specs.CellRecord.{cell_of}
use Rattle.machine_state.specs.declared.Event.{Event}
use Rattle.machine_state.specs.declared.Machine.{Machine}
use Rattle.machine_state.specs.declared.Stepped.{Stepped}
use Rattle.machine_state.specs.Machine.{max_cells, max_cpus}
use Rattle.rules.specs.State.{root_id, cell_at, state_at, cpu_at, is_final}
use Rattle.rules.specs.Effects.{fail_cpu, all_failed}
use Rattle.rules.specs.Step.{step}
use Rattle.cpu_table.specs.CpuTable.{touched}
use Rattle.cpu_table.specs.declared.CpuChange.{CpuChange}
use Rattle.asking.specs.declared.Move.{Move}
use Rattle.asking.specs.Moves.{moved, cut_off_at}
use Rattle.decide.specs.declared.Decision.{Decision}

-- a decision that cuts no cell off
abbrev pub uncut : ℕ → CpuChange → Move → Decision
uncut cpu how mv = record { cpu = cpu; touch = how; cut = None; moves = mv }

-- a decision applied: the CPU first, then the cell that is cut off, then the move
unfoldable pub settled : Decision → CellConfig → Machine → Stepped
settled d new m = moved d.moves new (cut_off_at d.cut (touched d.cpu d.touch m))

-- a decision is right: applied, it is the rule's step, and the CPU and the words that it names are in their tables
pub record Settles (m : Machine) (new : CellConfig) (after : Stepped) (d : Decision) : Type 0 where
  pub settles : settled d new m ≡ after
  pub cpu : d.cpu < max_cpus
  pub cell : d.moves.cell < max_cells

-- the same of an event's whole step
abbrev pub Decides : Machine → Event → List ℕ → Decision → Type 0
Decides m e bytes d = Settles m (cell_of bytes) (step e bytes m) d

-- once CPU `cpu` has failed, the state of its cell becomes failed
unfoldable pub cell_fails : ℕ → Machine → Bool
cell_fails cpu m =
    let id = (cpu_at m cpu).cell in
    not (eqb id root_id) && ltb id max_cells && all_failed (cell_at m id).cpus (set m.cpus cpu (fail_cpu (cpu_at m cpu))) && not (is_final (state_at m id))
