-- `replay_log::line_length` meets its contract: the line feed that is found is the first. Assumes nothing.
use Rattle.std.proofs.Common.{◌∙◌}
use Rattle.replay_log.proofs.Turns.{first-feed}
use Rattle.replay_log.proofs.line_length.Goals as goal

pub returns-clause-value : goal.returns-clause-value
returns-clause-value c = c.unwrap_or.ensures ∙ first-feed c.args.bytes.now _ c.first_feed.ensures
