-- `replay::replay_piece` ends: every turn takes some of the piece.
use Rattle.std.proofs.Common.{length}
use Rattle.replay.proofs.replay_piece.Given as goal

abbrev pub decreases-loop-rest : goal.decreases-loop-rest
decreases-loop-rest g l = length l.rest
