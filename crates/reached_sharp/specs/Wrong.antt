-- Wrong managers, each a small change of the right one, against which the claims about reached states are held. `refusals` has two more: one that
-- does nothing and answers 0, and one that does all and answers 0.
use Rattle.std.specs.Prelude.{Bool, true, false, not, ◌&&◌, ℕ, ◌+◌, ◌^◌, eqb, get_or, set, negsuc}
use Rattle.base.specs.Rules.{EPERM}
use Rattle.cpu_set.specs.CpuSet.{member, subset}
use Rattle.regions.specs.declared.MemRegion.{MemRegion}
use Rattle.regions.specs.Regions.{no_region}
use Rattle.system_record.specs.declared.SystemConfig.{SystemConfig}
use Rattle.cell_record.specs.CellRecord.{cell_of, cell_regions}
use Rattle.cell_record.specs.declared.CellConfig.{CellConfig}
use Rattle.machine_state.specs.declared.Cell.{Cell}
use Rattle.machine_state.specs.declared.Event.TheVariants.{Call}
use Rattle.machine_state.specs.declared.Answer.{Answer}
use Rattle.machine_state.specs.declared.Answer.TheVariants.{Code}
use Rattle.machine_state.specs.declared.Machine.{Machine}
use Rattle.machine_state.specs.declared.Stepped.{Stepped}
use Rattle.machine_state.specs.Machine.{no_cell}
use Rattle.rules.specs.State.{cell_at, with_pool, with_root_cpus, with_cell, answered}
use Rattle.rules.specs.Effects.{cell_destroyed}
use Rattle.rules.specs.Create.{region_in_use, free_id}
use Rattle.rules.specs.Answers.{is_negative}
use Rattle.rules.specs.Asking.{ask}
use Rattle.machine_state.specs.declared.CallKind.TheVariants.{Create}
use Rattle.rules.specs.Calls.{hypervisor_disable, cell_create, cell_destroy}
use Rattle.rules.specs.Step.{step}
use Rattle.rules.specs.Run.{Manager}
use Rattle.refusals.specs.Wrong.{on_call, left_waiting}

abbrev not_refused : Stepped → Bool
not_refused s = not (is_negative s.answer)

-- a change at calls of one code alone
unfoldable pub at_code : ℕ → ℕ → Machine → Machine → Machine
at_code which code changed after = elim (eqb code which) [ true ↦ changed | false ↦ after ]

-- Create does not take the CPUs from root
unfoldable pub keeps_root_cpus : Manager
keeps_root_cpus = on_call not_refused (λ cpu code a1 before after. at_code cell_create code (with_root_cpus before.root_cpus after) after)

-- Create keeps nothing of the record
unfoldable pub loses_record : Manager
loses_record = on_call not_refused (λ cpu code a1 before after. at_code cell_create code (with_cell 1 no_cell after) after)

-- Destroy does not give the pool back, nor does Disable
unfoldable pub keeps_pool : Manager
keeps_pool = on_call not_refused (λ cpu code a1 before after. at_code cell_destroy code (with_pool before.pool_used after) after)

unfoldable pub keeps_pool_at_disable : Manager
keeps_pool_at_disable = on_call not_refused (λ cpu code a1 before after. at_code hypervisor_disable code (with_pool before.pool_used after) after)

-- a pool figure made up
unfoldable pub makes_up_pool : Manager
makes_up_pool = on_call not_refused (λ cpu code a1 before after. with_pool 42 after)

-- Destroy at the first step; the polls are only staged
unfoldable pub destroys_first : Manager
destroys_first = on_call left_waiting (λ cpu code a1 before after. at_code cell_destroy code (cell_destroyed a1 after) after)

-- all is done, and all is said to be refused
unfoldable pub says_refused : Manager
says_refused e bytes m = answered (Code EPERM) (step e bytes m).machine

-- -16
unfoldable pub answers_busy : Answer → Bool
answers_busy (Code (negsuc n)) = eqb n 15
answers_busy _ = false

-- Create goes on where -16 refuses it and a test passes on its caller and its record
unfoldable pub creates_where : (ℕ → CellConfig → Machine → Bool) → Manager
creates_where test (Call cpu code a1 a2) bytes m =
    let s = step (Call cpu code a1 a2) bytes m in
    elim (answers_busy s.answer && test cpu (cell_of bytes) m) [
      | true ↦ ask Create (free_id s.machine) 0 (cell_of bytes) s.machine
      | false ↦ s
    ]
creates_where test e bytes m = step e bytes m

-- Create does not look at regions that meet another cell's
unfoldable pub ignores_regions : Manager
ignores_regions = creates_where (λ caller new m. not (member caller new.cpus) && subset new.cpus m.root_cpus)

-- Create does not look at whose the CPUs are
unfoldable pub ignores_cpus : Manager
ignores_cpus = creates_where (λ caller new m. not (member caller new.cpus) && not (region_in_use (cell_regions new) m))

-- Create puts the first region half a page further
unfoldable pub half_a_page : MemRegion → MemRegion
half_a_page r = record r { phys = r.phys + 2048 }

unfoldable pub misplaced : Cell → Cell
misplaced c = record c { regions = set c.regions 0 (half_a_page (get_or c.regions 0 no_region)) }

unfoldable pub misplaces : Manager
misplaces = on_call not_refused (λ cpu code a1 before after. at_code cell_create code (with_cell 1 (misplaced (cell_at after 1)) after) after)

-- hypervisor memory is not looked at: every event meets a machine whose hypervisor is one page at the end of memory
unfoldable pub with_system : SystemConfig → Machine → Machine
with_system system m = record m { system = system }

unfoldable pub elsewhere : SystemConfig → SystemConfig
elsewhere c = record c { hypervisor = record { start = 2 ^ 47; size = 4096 } }

unfoldable pub ignores_hypervisor : Manager
ignores_hypervisor e bytes m =
    let s = step e bytes (with_system (elsewhere m.system) m) in answered s.answer (with_system m.system s.machine)
