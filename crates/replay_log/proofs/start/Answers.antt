-- `replay_log::start` meets its contract: of a line no byte is kept. Assumes nothing.
use mathlib.Core.Path.{refl}
use Rattle.replay_log.specs.Feed.{going_of}
use Rattle.replay_log.proofs.start.Goals as goal

pub returns : goal.returns
unfolding going_of
returns c = refl
