-- The loop's invariant: the number read so far, with the digits that are left, is the whole.
use Rattle.std.proofs.Common.{◌≡◌, ◌<◌, ◌^◌, drop}
use Rattle.lines.specs.Reading.{with_digits}
use Rattle.lines.proofs.numbers.digits_of.Given as goal

abbrev pub invariant-loop-b : goal.invariant-loop-b
invariant-loop-b l = record { fits : l.n < 2 ^ 64; whole : with_digits l.n (drop l.b-index l.w) ≡ with_digits 0 l.w }
