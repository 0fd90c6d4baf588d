-- The loop's invariant: the flag says whether every byte passed is a digit.
use Rattle.std.proofs.Common.{◌≡◌, take}
use Rattle.base.specs.Lists.{all}
use Rattle.lines.specs.Lines.{is_hex_digit}
use Rattle.lines.proofs.hex.all_digits.Given as goal

abbrev pub invariant-loop-b : goal.invariant-loop-b
invariant-loop-b l = l.ok ≡ all is_hex_digit (take l.b-index l.w)
