-- `fields::u64_at` meets its contract (`number-read`). Assumes nothing.
use mathlib.Core.Path.{◌∙◌}
use Rattle.fields.proofs.Laws.{number-read}
use Rattle.fields.proofs.u64_at.Goals as goal

pub returns : goal.returns
returns c = c.from_le_bytes.ensures ∙ number-read 7 _ _ _ _ c.part.ensures c.first_bytes.ensures
