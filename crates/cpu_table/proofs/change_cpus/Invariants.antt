-- The loop's invariant: the table keeps its size, and a change of the CPUs that are left makes of it what a change of all makes of the first. A
-- turn takes a member out of the set.
use Rattle.std.proofs.Common.{◌≡◌, length}
use Rattle.cpu_set.specs.CpuSet.{count}
use Rattle.machine_state.specs.Machine.{max_cpus}
use Rattle.rules.specs.Effects.{change_cpus}
use Rattle.cpu_table.specs.CpuTable.{change_of}
use Rattle.cpu_table.proofs.change_cpus.Given as goal

abbrev pub invariant-loop-k : goal.invariant-loop-k
invariant-loop-k l =
    (length l.cpus ≡ max_cpus) × (change_cpus l.left (change_of l.how) l.cpus ≡ change_cpus l.set (change_of l.how) l.initial.cpus)

abbrev pub decreases-loop-k : goal.decreases-loop-k
decreases-loop-k l = count l.left
