-- The machine and its start. Document 01, "The machine" and boot's answers: what a start makes of a system record. What the machine's
-- parts mean and what events do to them is said in `rules`.
use Rattle.std.specs.Prelude.{Bool, false, List, [], ℕ, zero, suc, get_or, replicate, ℤ, pos, negsuc, Option, None}
use Rattle.regions.specs.Regions.{no_region}
use Rattle.region_table.specs.Tables.{max_regions}
use Rattle.system_record.specs.declared.SystemConfig.{SystemConfig}
use Rattle.system_record.specs.SystemRecord.{system_of, boot_answer}
use Rattle.machine_state.specs.declared.Cpu.{Cpu}
use Rattle.machine_state.specs.declared.CommRegion.{CommRegion}
use Rattle.machine_state.specs.declared.Phase.TheVariants.{Suspended}
use Rattle.machine_state.specs.declared.Cell.{Cell}
use Rattle.machine_state.specs.declared.CallKind.{CallKind}
use Rattle.machine_state.specs.declared.Stage.{Stage}
use Rattle.machine_state.specs.declared.Power.{Power}
use Rattle.machine_state.specs.declared.Power.TheVariants.{Unbooted, On}
use Rattle.machine_state.specs.declared.Machine.{Machine}
use Rattle.machine_state.specs.declared.Booted.{Booted}

-- the call that waits, and how far it has come; none where no call waits
abbrev pub Waiting : Type 0
Waiting = Option (CallKind × Stage)

-- "Up to 16 cells", and CPUs below 64
abbrev pub max_cells : ℕ
max_cells = 16

abbrev pub max_cpus : ℕ
max_cpus = 64

-- a CPU as a cell gets it: "unfailed, counters zero"
unfoldable pub fresh_cpu : ℕ → Bool → Cpu
fresh_cpu cell stopped = record { cell = cell; stopped = stopped; failed = false; counters = replicate 6 0 }

-- places that no cell has
unfoldable pub no_comm : CommRegion
no_comm = record { mapped = false; passive = false; reply_limit = 0; msg_to_cell = 0; reply_from_cell = 0; cell_state = 0 }

unfoldable pub no_cell : Cell
no_cell = record { phase = Suspended; name = replicate 32 0; cpus = 0; region_count = 0; regions = replicate max_regions no_region }

-- "the root is 0 and starts with all boot CPUs (the started CPUs), running, unfailed, counters zero"
unfoldable pub first_machine : Power → SystemConfig → Machine
first_machine power system = record {
  power = power;
  system = system;
  pool_used = system.pool.used;
  live_ids = 1;
  root_cpus = system.cpus;
  cells = replicate max_cells no_cell;
  comms = replicate max_cells no_comm;
  cpus = replicate max_cpus (fresh_cpu 0 false);
  waiting = None;
}

-- "0: an accepted start. After a refusal there is no started machine."
unfoldable pub power_after : ℤ → Power
power_after (pos zero) = On
power_after (pos (suc n)) = Unbooted
power_after (negsuc n) = Unbooted

unfoldable pub boot_of : List ℕ → Booted
boot_of r = record { code = boot_answer r; machine = first_machine (power_after (boot_answer r)) (system_of r) }

-- what a place past a table's end is read as; `Waiting` and `Cpu` may name such a place in a machine that no start reaches
abbrev pub past_cell : Cell
past_cell = record { phase = Suspended; name = []; cpus = 0; region_count = 0; regions = [] }

abbrev pub past_comm : CommRegion
past_comm = record { mapped = false; passive = false; reply_limit = 0; msg_to_cell = 0; reply_from_cell = 0; cell_state = 0 }

abbrev pub past_cpu : Cpu
past_cpu = record { cell = 0; stopped = false; failed = false; counters = [] }

-- what stands at a place of a table
abbrev pub cell_in : List Cell → ℕ → Cell
cell_in cells id = get_or cells id past_cell

abbrev pub comm_in : List CommRegion → ℕ → CommRegion
comm_in comms id = get_or comms id past_comm

abbrev pub cpu_in : List Cpu → ℕ → Cpu
cpu_in cpus k = get_or cpus k past_cpu
