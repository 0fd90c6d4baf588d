-- Effects of calls. Document 01, "Calls and their return codes", the paragraph "Effects", and what obeyed events do to CPUs and words
-- ("Events that are not obeyed", the paragraph after the table). Each takes a machine to the machine after it.
use Rattle.std.specs.Prelude.{Bool, true, false, not, ◌&&◌, ◌||◌, List, [], ◌∷◌, map, ℕ, zero, suc, ◌+◌, ◌-◌, ◌%◌, ◌^◌, eqb, get_or, set}
use Rattle.base.specs.Lists.{all, any, up_to}
use Rattle.cpu_set.specs.CpuSet.{member, union, without}
use Rattle.regions.specs.Regions.{comm}
use Rattle.cell_record.specs.declared.CellConfig.{CellConfig}
use Rattle.cell_record.specs.CellRecord.{cell_regions}
use Rattle.machine_state.specs.declared.Cpu.{Cpu}
use Rattle.machine_state.specs.declared.CommRegion.{CommRegion}
use Rattle.machine_state.specs.declared.Phase.{Phase}
use Rattle.machine_state.specs.declared.Phase.TheVariants.{Suspended, Loading, Started}
use Rattle.machine_state.specs.declared.Cell.{Cell}
use Rattle.machine_state.specs.declared.Power.TheVariants.{Disabled}
use Rattle.machine_state.specs.declared.CallKind.{CallKind}
use Rattle.machine_state.specs.declared.Machine.{Machine}
use Rattle.machine_state.specs.Machine.{fresh_cpu, no_comm, no_cell, cpu_in, max_cpus}
use Rattle.rules.specs.State.{root_id, cell_at, comm_at, cpu_at, cell_ids, has_id, ids_where, live, is_final, running, shut_down, failed, with_power, with_pool, with_ids, with_root_cpus, with_cell, with_comm, with_cpus, with_cpu}

-- ---- counters

-- "Counters are 32 bits wide and go round to zero": counter i with one added
unfoldable pub bump : ℕ → List ℕ → List ℕ
bump i counters = set counters i ((get_or counters i 0 + 1) % 2 ^ 32)

-- "An obeyed call or exit first adds one to its own counter and the total of that CPU": 0 is the total
unfoldable pub count_exit : ℕ → Cpu → Cpu
count_exit own p = record p { counters = bump own (bump 0 p.counters) }

-- the counter of each exit: 0 MMIO, 1 PIO, 2 IPI, 3 management come first, then calls
abbrev pub exit_counter : ℕ → ℕ
exit_counter kind = kind + 1

abbrev pub call_counter : ℕ
call_counter = 5

unfoldable pub counted : ℕ → ℕ → Machine → Machine
counted own cpu m = with_cpu cpu (count_exit own (cpu_at m cpu)) m

-- ---- words

-- the words with another message, reply or state
abbrev pub with_message : ℕ → CommRegion → CommRegion
with_message value c = record c { msg_to_cell = value }

abbrev pub with_reply : ℕ → CommRegion → CommRegion
with_reply value c = record c { reply_from_cell = value }

abbrev pub with_state : ℕ → CommRegion → CommRegion
with_state value c = record c { cell_state = value }

-- "store (any u32 to word 0, 1 or 2)"
unfoldable pub store_word : ℕ → ℕ → CommRegion → CommRegion
store_word zero value c = with_message value c
store_word (suc zero) value c = with_reply value c
store_word (suc (suc n)) value c = with_state value c

unfoldable pub stored : ℕ → ℕ → ℕ → Machine → Machine
stored cpu word value m = let cell = (cpu_at m cpu).cell in with_comm cell (store_word word value (comm_at m cell)) m

-- ---- faults

-- "A fault marks the CPU failed; when all CPUs of a non-root cell are failed and its state is not final, state becomes 3"
unfoldable pub fail_cpu : Cpu → Cpu
fail_cpu p = record p { failed = true }

unfoldable pub all_failed : ℕ → List Cpu → Bool
all_failed set cpus = all (λ k. not (member k set) || (cpu_in cpus k).failed) (up_to max_cpus)

unfoldable pub cell_failed : ℕ → Machine → Machine
cell_failed id m =
    elim (not (eqb id root_id) && all_failed (cell_at m id).cpus m.cpus && not (is_final (comm_at m id).cell_state)) [
      | true ↦ with_comm id (with_state failed (comm_at m id)) m
      | false ↦ m
    ]

unfoldable pub faulted : ℕ → Machine → Machine
faulted cpu m = cell_failed (cpu_at m cpu).cell (with_cpu cpu (fail_cpu (cpu_at m cpu)) m)

-- ---- what effects do to the CPUs of a set

-- every CPU of the set, changed
unfoldable pub change_in : ℕ → (Cpu → Cpu) → ℕ → Cpu → Cpu
change_in set change k p = elim (member k set) [ true ↦ change p | false ↦ p ]

unfoldable pub change_cpus : ℕ → (Cpu → Cpu) → List Cpu → List Cpu
change_cpus set change cpus = map (λ k. change_in set change k (cpu_in cpus k)) (up_to max_cpus)

unfoldable pub cpus_changed : ℕ → (Cpu → Cpu) → Machine → Machine
cpus_changed set change m = with_cpus (change_cpus set change m.cpus) m

-- Start: "CPUs running and unfailed"
unfoldable pub start_cpu : Cpu → Cpu
start_cpu p = record p { stopped = false; failed = false }

-- Set Loadable: "CPUs stopped (failed marks stay)"; a cell that is cut off: "its CPUs stop"
unfoldable pub stop_cpu : Cpu → Cpu
stop_cpu p = record p { stopped = true }

-- Create: "CPUs leave root, stopped, unfailed, counters zero". Destroy: "CPUs to root, running, unfailed, counters zero"
abbrev pub given_to : ℕ → Bool → Cpu → Cpu
given_to id stopped p = fresh_cpu id stopped

-- ---- Create

-- the set of live IDs with one more, and with one less
unfoldable pub add_id : ℕ → ℕ → ℕ
add_id id ids = ids_where (λ k. eqb k id || has_id ids k)

unfoldable pub drop_id : ℕ → ℕ → ℕ
drop_id id ids = ids_where (λ k. not (eqb k id) && has_id ids k)

-- "2 + region count"
abbrev pub pool_cost : ℕ → ℕ
pool_cost regions = 2 + regions

-- "phase suspended", with what the record says
unfoldable pub new_cell : CellConfig → Cell
new_cell new = record { phase = Suspended; name = new.name; cpus = new.cpus; region_count = new.region_count; regions = new.regions }

-- "state 2, messages 0"
unfoldable pub new_comm : CellConfig → CommRegion
new_comm new = record { mapped = any comm (cell_regions new); passive = new.passive; reply_limit = new.reply_limit; msg_to_cell = 0; reply_from_cell = 0; cell_state = shut_down }

-- Create: "smallest free ID from 1; pool use grows by 2 + region count; CPUs leave root, stopped, unfailed, counters zero; phase suspended;
-- state 2, messages 0"
unfoldable pub cell_created : ℕ → CellConfig → Machine → Machine
cell_created id new m =
    with_pool ((m.pool_used + pool_cost new.region_count) % 2 ^ 32)
    (with_ids (add_id id m.live_ids)
    (with_root_cpus (without m.root_cpus new.cpus)
    (cpus_changed new.cpus (given_to id true)
    (with_cell id (new_cell new)
    (with_comm id (new_comm new) m)))))

-- ---- Start, Set Loadable

unfoldable pub with_phase : Phase → Cell → Cell
with_phase phase c = record c { phase = phase }

unfoldable pub in_phase : ℕ → Phase → Machine → Machine
in_phase id phase m = with_cell id (with_phase phase (cell_at m id)) m

-- "all three words 0"
unfoldable pub clear_words : CommRegion → CommRegion
clear_words c = with_state running (with_reply 0 (with_message 0 c))

-- Start: "all three words 0, CPUs running and unfailed, phase started"
unfoldable pub cell_started : ℕ → Machine → Machine
cell_started id m = in_phase id Started (cpus_changed (cell_at m id).cpus start_cpu (with_comm id (clear_words (comm_at m id)) m))

-- Set Loadable: "CPUs stopped (failed marks stay), state 2, phase loading"
unfoldable pub cell_loadable : ℕ → Machine → Machine
cell_loadable id m = in_phase id Loading (cpus_changed (cell_at m id).cpus stop_cpu (with_comm id (with_state shut_down (comm_at m id)) m))

-- ---- a cell that its reply limit cuts off

-- C-14: "the cell's state becomes 3, its CPUs stop". It amends the rule that only a cell or a fault makes it failed
unfoldable pub cell_cut_off : ℕ → Machine → Machine
cell_cut_off id m = cpus_changed (cell_at m id).cpus stop_cpu (with_comm id (with_state failed (comm_at m id)) m)

-- ---- Destroy, Disable

-- Destroy: "pool given back, CPUs to root, running, unfailed, counters zero; the ID and its room are free again"
unfoldable pub cell_destroyed : ℕ → Machine → Machine
cell_destroyed id m =
    let c = cell_at m id in
    with_pool (m.pool_used - pool_cost c.region_count)
    (with_ids (drop_id id m.live_ids)
    (with_root_cpus (union m.root_cpus c.cpus)
    (cpus_changed c.cpus (given_to root_id false)
    (with_cell id no_cell
    (with_comm id no_comm m)))))

-- Disable: "all cells destroyed, then off"
unfoldable pub all_destroyed : List ℕ → Machine → Machine
all_destroyed [] m = m
all_destroyed (id ∷ ids) m = elim (live m id) [ true ↦ all_destroyed ids (cell_destroyed id m) | false ↦ all_destroyed ids m ]

unfoldable pub disabled : Machine → Machine
disabled m = with_power Disabled (all_destroyed cell_ids m)

-- ---- the effect of each call that may wait. `target` is its cell, of Create the new one; `new` is what a record of Create's says
unfoldable pub effect : CallKind → ℕ → CellConfig → Machine → Machine
effect CallKind.Disable target new m = disabled m
effect CallKind.Create target new m = cell_created target new m
effect CallKind.Start target new m = cell_started target m
effect CallKind.SetLoadable target new m = cell_loadable target m
effect CallKind.Destroy target new m = cell_destroyed target m
