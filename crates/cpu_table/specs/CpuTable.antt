-- What is done to a CPU, as a value that one function hands to another; each case is a rule's.
use Rattle.std.specs.Prelude.{◌≡◌, ℕ, ◌<◌, true, false, nat_lt, Option, Some, None}
use Rattle.cpu_set.specs.CpuSet.{member}
use Rattle.machine_state.specs.declared.Cpu.{Cpu}
use Rattle.machine_state.specs.declared.Machine.{Machine}
use Rattle.machine_state.specs.Machine.{max_cpus}
use Rattle.rules.specs.State.{cpu_at, with_cpu}
use Rattle.rules.specs.Effects.{count_exit, fail_cpu, start_cpu, stop_cpu, given_to}
use Rattle.cpu_table.specs.declared.CpuChange.{CpuChange}
use Rattle.cpu_table.specs.declared.CpuChange.TheVariants.{Keep, Count, Fail, Start, Stop, Give}

unfoldable pub change_of : CpuChange → Cpu → Cpu
change_of Keep p = p
change_of (Count own) p = count_exit own p
change_of Fail p = fail_cpu p
change_of Start p = start_cpu p
change_of Stop p = stop_cpu p
change_of (Give cell stopped) p = given_to cell stopped p

-- the machine with one CPU changed
unfoldable pub touched : ℕ → CpuChange → Machine → Machine
touched cpu how m = with_cpu cpu (change_of how (cpu_at m cpu)) m

-- a CPU's place in the table; 0 where it has none for its number
unfoldable pub cpu_index : ℕ → ℕ
cpu_index cpu = elim (nat_lt cpu max_cpus) [ true ↦ cpu | false ↦ 0 ]

-- a member of the set, which has a place in the table; none of a set that is empty
pub record FirstCpu (cpus : ℕ) (r : Option ℕ) : Type 0 where
  pub found : (k : ℕ) → r ≡ Some k → (k < max_cpus) × (member k cpus ≡ true)
  pub none : r ≡ None → cpus ≡ 0
