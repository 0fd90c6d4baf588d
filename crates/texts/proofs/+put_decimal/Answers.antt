-- What is written is the tenth's digits and then the last one, for which those leave room. Assumes nothing.
use Prim.Native.Nat.{◌<◌, ◌/◌}
use native.Mathlib.Omega.{arith}
use lib.ListN.{length}
use Rattle.texts.specs.Texts.{decimal}
use Rattle.texts.proofs.Laws.{put-digit, put-digits, tenth-short, put-length}
use Rattle.texts.proofs.+put_decimal.Goals as goal

pub returns-then-n-lt10 : goal.returns-then-n-lt10
returns-then-n-lt10 t c = put-digit _ _ _ c.if-n-lt10.true

pub bounds-out-end : goal.bounds-out-end
bounds-out-end t c =
    let room : length (decimal (c.args.n / 10)) < 20 = tenth-short c.args.n c.if-n-lt10.false c.ranges.n.fits in
    omega (arith, put-length c.put_decimal-end.ensures)

pub overflow_add-result-2 : goal.overflow_add-result-2
overflow_add-result-2 t c =
    let room : length (decimal (c.args.n / 10)) < 20 = tenth-short c.args.n c.if-n-lt10.false c.ranges.n.fits in
    omega arith

pub returns : goal.returns
returns t c = put-digits _ c.if-n-lt10.false c.ranges.n.fits c.put_decimal-end.ensures
