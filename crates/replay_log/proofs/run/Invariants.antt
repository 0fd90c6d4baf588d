-- The loop's invariant: the run stands where the log up to `at`, fed to what was kept, stands (`Stands`). Each turn takes bytes of the log.
use Rattle.std.proofs.Common.{[], ◌-◌, length, take}
use Rattle.replay_log.proofs.Laws.{going}
use Rattle.replay_log.proofs.Standing.{Stands}
use Rattle.replay_log.proofs.run.Given as goal

abbrev pub invariant-loop-at : goal.invariant-loop-at
invariant-loop-at l =
    Stands l.log l.initial.out (going l.initial.machine (take l.initial.len l.initial.line) []) l.machine l.out l.line l.at l.len l.written

abbrev pub decreases-loop-at : goal.decreases-loop-at
decreases-loop-at l = length l.log - l.at
