-- The machine's terms. Document 01, "The machine": live and active cells, states, a CPU's owner; and the machine with another part.
use Rattle.std.specs.Prelude.{Bool, true, false, not, ◌&&◌, ◌||◌, List, [], ◌∷◌, ℕ, ltb, eqb, set, take, Option, None, Some}
use Rattle.base.specs.Lists.{from}
use Rattle.cpu_set.specs.CpuSet.{bit, member, number_of}
use Rattle.regions.specs.declared.MemRegion.{MemRegion}
use Rattle.machine_state.specs.declared.Cpu.{Cpu}
use Rattle.machine_state.specs.declared.CommRegion.{CommRegion}
use Rattle.machine_state.specs.declared.Cell.{Cell}
use Rattle.machine_state.specs.Machine.{Waiting}
use Rattle.machine_state.specs.declared.Power.{Power}
use Rattle.machine_state.specs.declared.Answer.{Answer}
use Rattle.machine_state.specs.declared.Machine.{Machine}
use Rattle.machine_state.specs.declared.Stepped.{Stepped}
use Rattle.machine_state.specs.Machine.{cell_in, comm_in, cpu_in, max_cells}

-- ---- what stands in the machine

-- "the root is 0"
abbrev pub root_id : ℕ
root_id = 0

-- the boot set: "all boot CPUs (the started CPUs)"
abbrev pub boot_cpu_set : Machine → ℕ
boot_cpu_set m = m.system.cpus

-- cell `id`, its communication words, its state word and its reply limit; CPU `cpu`
abbrev pub cell_at : Machine → ℕ → Cell
cell_at m id = cell_in m.cells id

abbrev pub comm_at : Machine → ℕ → CommRegion
comm_at m id = comm_in m.comms id

abbrev pub state_at : Machine → ℕ → ℕ
state_at m id = (comm_at m id).cell_state

abbrev pub limit_at : Machine → ℕ → ℕ
limit_at m id = (comm_at m id).reply_limit

abbrev pub cpu_at : Machine → ℕ → Cpu
cpu_at m cpu = cpu_in m.cpus cpu

-- the regions of a cell: those that its count names
abbrev pub regions_at : Machine → ℕ → List MemRegion
regions_at m id = take (cell_at m id).region_count (cell_at m id).regions

-- ---- cells

-- the IDs of the cells that are not root, and the number that is no cell's: "Up to 16 cells"
abbrev pub cell_ids : List ℕ
cell_ids = from 1 15

abbrev pub no_id : ℕ
no_id = max_cells

-- the first ID of a list that passes a test; `no_id` where none does
unfoldable pub first : (ℕ → Bool) → List ℕ → ℕ
first p [] = no_id
first p (id ∷ ids) = elim (p id) [ true ↦ id | false ↦ first p ids ]

-- the cell with this number; none where the number is no cell's
unfoldable pub some_id : ℕ → Option ℕ
some_id id = elim (ltb id no_id) [ true ↦ Some id | false ↦ None ]

-- a set of IDs has `id`; the set of the IDs that a test picks
unfoldable pub has_id : ℕ → ℕ → Bool
has_id ids id = elim (ltb id max_cells) [ true ↦ bit id ids | false ↦ false ]

abbrev pub ids_where : (ℕ → Bool) → ℕ
ids_where p = number_of max_cells p

-- "live (created, not destroyed)"
abbrev pub live : Machine → ℕ → Bool
live m id = has_id m.live_ids id

-- "State is 0 running, 1 running locked, 2 shut down, 3 failed; 2 and 3 are final"
abbrev pub running : ℕ
running = 0

abbrev pub running_locked : ℕ
running_locked = 1

abbrev pub shut_down : ℕ
shut_down = 2

abbrev pub failed : ℕ
failed = 3

abbrev pub is_final : ℕ → Bool
is_final state = eqb state shut_down || eqb state failed

abbrev pub is_locked : ℕ → Bool
is_locked state = eqb state running_locked

-- "A non-root cell with any other value is *active*"
unfoldable pub active : Machine → ℕ → Bool
active m id = not (eqb id root_id) && live m id && not (is_final (state_at m id))

-- a CPU's owner: the one live non-root cell whose record names it, or root where none does
unfoldable pub named_by : Machine → ℕ → ℕ → Bool
named_by m cpu id = live m id && member cpu (cell_at m id).cpus

unfoldable pub or_root : ℕ → ℕ
or_root id = elim (ltb id no_id) [ true ↦ id | false ↦ root_id ]

unfoldable pub cpu_owner : Machine → ℕ → ℕ
cpu_owner m cpu = or_root (first (named_by m cpu) cell_ids)

-- ---- the waiting call

-- a call waits
abbrev pub waits : Waiting → Bool
waits None = false
waits (Some call) = true

-- the cell that it waits for, root where no call waits
unfoldable pub waited_for : Waiting → ℕ
waited_for None = root_id
waited_for (Some (kind, stage)) = stage.cell

-- ---- the machine with another part

unfoldable pub with_waiting : Waiting → Machine → Machine
with_waiting waiting m = record m { waiting = waiting }

unfoldable pub with_power : Power → Machine → Machine
with_power power m = record m { power = power }

unfoldable pub with_pool : ℕ → Machine → Machine
with_pool pages m = record m { pool_used = pages }

unfoldable pub with_ids : ℕ → Machine → Machine
with_ids ids m = record m { live_ids = ids }

unfoldable pub with_root_cpus : ℕ → Machine → Machine
with_root_cpus cpus m = record m { root_cpus = cpus }

unfoldable pub with_cell : ℕ → Cell → Machine → Machine
with_cell id c m = record m { cells = set m.cells id c }

unfoldable pub with_comm : ℕ → CommRegion → Machine → Machine
with_comm id words m = record m { comms = set m.comms id words }

unfoldable pub with_cpus : List Cpu → Machine → Machine
with_cpus cpus m = record m { cpus = cpus }

abbrev pub with_cpu : ℕ → Cpu → Machine → Machine
with_cpu cpu p m = with_cpus (set m.cpus cpu p) m

-- an answer and the machine after it
unfoldable pub answered : Answer → Machine → Stepped
answered answer m = record { answer = answer; machine = m }
