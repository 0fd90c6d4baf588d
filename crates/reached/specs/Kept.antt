-- What the machine keeps of a cell's record.
use Rattle.std.specs.Prelude.{ℕ}
use Rattle.cell_record.specs.declared.CellConfig.{CellConfig}
use Rattle.machine_state.specs.declared.CommRegion.{CommRegion}
use Rattle.machine_state.specs.declared.Cell.{Cell}
use Rattle.machine_state.specs.declared.Machine.{Machine}
use Rattle.rules.specs.State.{cell_at, comm_at}

-- name, passive mark, reply limit, CPUs and regions, from the cell's two places in the machine
abbrev pub kept_in : Cell → CommRegion → CellConfig
kept_in c words = record {
  name = c.name;
  passive = words.passive;
  reply_limit = words.reply_limit;
  cpus = c.cpus;
  region_count = c.region_count;
  regions = c.regions;
}

abbrev pub kept : Machine → ℕ → CellConfig
kept m id = kept_in (cell_at m id) (comm_at m id)
