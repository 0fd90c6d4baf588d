-- The rules' effects, part by part: what stands in each part of the machine after the effect of a call on one cell. `Laws.stored-is-effect`
-- says that these parts, stored at the cell, make the rule's machine.
use Rattle.std.specs.Prelude.{ℕ, ◌+◌, ◌-◌, ◌%◌, ◌^◌, nat_lt, Bool, true, false, List, slice_set}
use Rattle.base.specs.Lists.{any}
use Rattle.cpu_set.specs.CpuSet.{union, without}
use Rattle.regions.specs.Regions.{comm}
use Rattle.cell_record.specs.declared.CellConfig.{CellConfig}
use Rattle.cell_record.specs.CellRecord.{cell_regions}
use Rattle.machine_state.specs.declared.Cpu.{Cpu}
use Rattle.machine_state.specs.declared.CommRegion.{CommRegion}
use Rattle.machine_state.specs.declared.Phase.TheVariants as Phase
use Rattle.machine_state.specs.declared.Cell.{Cell}
use Rattle.machine_state.specs.declared.CallKind.{CallKind}
use Rattle.machine_state.specs.declared.CallKind.TheVariants.{Disable, Create, Start, SetLoadable, Destroy}
use Rattle.machine_state.specs.declared.Machine.{Machine}
use Rattle.machine_state.specs.Machine.{max_cells, no_comm, no_cell}
use Rattle.rules.specs.State.{root_id, shut_down}
use Rattle.rules.specs.Effects.{add_id, drop_id, pool_cost, new_cell, with_phase, with_state, clear_words, change_cpus}
use Rattle.cpu_table.specs.declared.CpuChange.TheVariants as Change
use Rattle.cpu_table.specs.CpuTable.{change_of}
use Rattle.effects.specs.declared.Figures.{Figures}
use Rattle.effects.specs.declared.Numbers.{Numbers}

abbrev pub is_disable : CallKind → Bool
is_disable Disable = true
is_disable Create = false
is_disable Start = false
is_disable SetLoadable = false
is_disable Destroy = false

-- one of two things, by whether the tables have a cell
unfoldable pub within : {A : Type 0} → ℕ → A → A → A
within id x y = elim (nat_lt id max_cells) [ true ↦ x | false ↦ y ]

-- what a record says that Create's effect needs beside the cell itself
abbrev pub figures_of : CellConfig → Figures
figures_of new = record { cpus = new.cpus; region_count = new.region_count; mapped = any comm (cell_regions new); passive = new.passive; reply_limit = new.reply_limit }

-- the pool, the live IDs, root's CPUs, and what is done to which CPUs. `c` is the cell, `new` are the record's figures
abbrev pub numbers_after : CallKind → ℕ → Cell → Figures → ℕ → ℕ → ℕ → Numbers
numbers_after Disable id c new pool ids root = record {
  pool_used = pool;
  live_ids = ids;
  root_cpus = root;
  cpus = 0;
  how = Change.Keep;
}
numbers_after Create id c new pool ids root = record {
  pool_used = (pool + pool_cost new.region_count) % 2 ^ 32;
  live_ids = add_id id ids;
  root_cpus = without root new.cpus;
  cpus = new.cpus;
  how = Change.Give id true;
}
numbers_after Start id c new pool ids root = record {
  pool_used = pool;
  live_ids = ids;
  root_cpus = root;
  cpus = c.cpus;
  how = Change.Start;
}
numbers_after SetLoadable id c new pool ids root = record {
  pool_used = pool;
  live_ids = ids;
  root_cpus = root;
  cpus = c.cpus;
  how = Change.Stop;
}
numbers_after Destroy id c new pool ids root = record {
  pool_used = pool - pool_cost c.region_count;
  live_ids = drop_id id ids;
  root_cpus = union root c.cpus;
  cpus = c.cpus;
  how = Change.Give root_id false;
}

-- the cell
abbrev pub changed_cell : CallKind → CellConfig → Cell → Cell
changed_cell Disable new c = c
changed_cell Create new c = new_cell new
changed_cell Start new c = with_phase Phase.Started c
changed_cell SetLoadable new c = with_phase Phase.Loading c
changed_cell Destroy new c = no_cell

-- the words
abbrev pub new_words : Figures → CommRegion
new_words new = record { mapped = new.mapped; passive = new.passive; reply_limit = new.reply_limit; msg_to_cell = 0; reply_from_cell = 0; cell_state = shut_down }

abbrev pub words_after : CallKind → Figures → CommRegion → CommRegion
words_after Disable new w = w
words_after Create new w = new_words new
words_after Start new w = clear_words w
words_after SetLoadable new w = with_state shut_down w
words_after Destroy new w = no_comm

-- the machine with these numbers and CPUs, and with the cell and the words stored at a place; past the tables' end nothing is
unfoldable pub parts_stored : Numbers → ℕ → Cell → CommRegion → List Cpu → Machine → Machine
parts_stored n place c w cpus m = record {
  power = m.power;
  system = m.system;
  pool_used = n.pool_used;
  live_ids = n.live_ids;
  root_cpus = n.root_cpus;
  cells = slice_set m.cells place c;
  comms = slice_set m.comms place w;
  cpus = cpus;
  waiting = m.waiting;
}

-- the CPUs after the change that the numbers name
abbrev pub cpus_after : Numbers → List Cpu → List Cpu
cpus_after n cpus = change_cpus n.cpus (change_of n.how) cpus
