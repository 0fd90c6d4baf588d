-- A word is pairs where its number of digits is even. Assumes nothing.
use Rattle.lines.proofs.PairLaws.{odd-pairs, even-pairs}
use Rattle.lines.proofs.hex.is_hex.Goals as goal

pub returns-then-w-eq1 : goal.returns-then-w-eq1
returns-then-w-eq1 c = odd-pairs _ c.if-w-eq1.true

pub returns : goal.returns
returns c = rw (c.is_empty.ensures, c.all_digits.ensures) (even-pairs c.args.w.now c.if-w-eq1.false)
