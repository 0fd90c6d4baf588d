-- `lines::read_line` meets its contract: the HEX of a line is pairs, and its record is the bytes that they make. Assumes nothing.
use mathlib.Core.Path.{ap, ◌∙◌}
use mathlib.Core.List.{List, ◌++◌}
use Prim.Native.Nat.{ℕ, min}
use lib.ListN.{length, take, drop}
use Rattle.lines.proofs.RecordLaws.{hex-pairs, hex-record}
use Rattle.lines.proofs.read_line.Goals as goal

pub decode-len-requires : goal.decode-len-requires
decode-len-requires c = hex-pairs _ _ c.cut_line-said.ensures.hex-is

pub returns : goal.returns
returns c =
    let n = c.decode-len.result in
    let bytes = c.args.«record».now in
    let e = hex-record _ _ c.cut_line-said.ensures.hex-is in
    record {
      event = c.cut_line-said.ensures.event-is;
      size = c.decode-len.ensures.value ∙ ap (λ (r : List ℕ). min (length r) (length bytes)) e;
      bytes = c.decode-len.ensures.out_after ∙ ap (λ (r : List ℕ). take n r ++ drop n bytes) e;
    }
