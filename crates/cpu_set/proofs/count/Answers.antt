-- The set digits of a number of 64 bits are its members. Assumes nothing.
use Rattle.cpu_set.proofs.Laws.{ones-count}
use Rattle.cpu_set.proofs.count.Goals as goal

pub returns : goal.returns
returns c = ones-count _ c.ranges.a.fits
