-- The loop's invariant: the table keeps its size, and what is left makes of the machine what all of it makes of the first. The measure counts the parts that are left, each
-- above the CPUs of a set.
use Rattle.std.proofs.Common.{◌≡◌, ◌+◌, ◌*◌, length}
use Rattle.cpu_set.specs.CpuSet.{count}
use Rattle.cell_record.specs.CellRecord.{cell_of}
use Rattle.machine_state.specs.Machine.{max_cpus}
use Rattle.asking.specs.Moves.{effect_of, cut_off_at}
use Rattle.effects.specs.Applying.{remaining, parts_left}
use Rattle.apply.proofs.apply_parts.Given as goal

abbrev pub invariant-loop-part : goal.invariant-loop-part
invariant-loop-part l =
    (length l.m.cpus ≡ max_cpus)
    × (remaining l.left.cpus l.left.how l.left.cut l.left.effect (cell_of l.«record») l.m ≡ effect_of l.fn.effect (cell_of l.«record») (cut_off_at l.fn.cut l.initial.m))

abbrev pub decreases-loop-part : goal.decreases-loop-part
decreases-loop-part l = parts_left l.left.cut l.left.effect l.m.live_ids * 65 + count l.left.cpus
