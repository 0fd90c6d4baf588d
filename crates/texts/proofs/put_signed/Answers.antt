-- The test is the number's sign, and what `put_decimal` writes is its size. Assumes nothing.
use Rattle.std.proofs.Common.{◌∙◌}
use mir.Facts.{to_z-of_z}
use Rattle.texts.proofs.Laws.{put-below, put-from}
use Rattle.texts.proofs.put_signed.Goals as goal

pub returns-then-n-lt0 : goal.returns-then-n-lt0
returns-then-n-lt0 c = put-below (to_z-of_z c.ranges.n) c.if-n-lt0.true (c.from-size.ensures ∙ c.unsigned_abs.ensures.value) c.put_decimal.ensures

pub returns-else-n-lt0 : goal.returns-else-n-lt0
returns-else-n-lt0 c = put-from (to_z-of_z c.ranges.n) c.if-n-lt0.false (c.from-size.ensures ∙ c.unsigned_abs.ensures.value) c.put_decimal-else-n-lt0.ensures
