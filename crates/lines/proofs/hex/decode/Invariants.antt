-- The loop's invariant: of the bytes that are written, the first hold what is made so far, the rest are as they were.
use Rattle.std.proofs.Common.{◌≡◌, ◌++◌, take, drop}
use Rattle.lines.specs.Lines.{bytes_of}
use Rattle.lines.proofs.hex.decode.Given as goal

abbrev pub invariant-loop-n : goal.invariant-loop-n
invariant-loop-n l = l.b-items ≡ take l.n (bytes_of l.w) ++ drop l.n l.initial.b-items
