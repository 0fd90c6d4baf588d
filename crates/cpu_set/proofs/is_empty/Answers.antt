-- 0 is the only number of 64 bits that has no member. Assumes nothing.
use Rattle.cpu_set.proofs.Laws.{zero-is_empty}
use Rattle.cpu_set.proofs.is_empty.Goals as goal

pub returns : goal.returns
returns c = zero-is_empty _ c.ranges.a.fits
