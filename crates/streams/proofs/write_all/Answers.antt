-- What a write takes is behind what was written before. Assumes nothing.
use Rattle.std.proofs.Common.{◌≡◌, ℕ, ◌+◌, ◌-◌, List, length, take, drop, length-drop, length-take, sym, subst, arith}
use Rattle.std.specs.declared.option.Option.{Option}
use Rattle.std.specs.Io.KnownBytes.{Appends}
use Rattle.std.proofs.KnownBytes.{Appends-trans}
use Rattle.std.proofs.Math.Seq.{take-add, take_all}
use Rattle.streams.proofs.write_all.Goals as goal

written-more : (a b c : Option (List ℕ)) (d n : ℕ) (bytes : List ℕ) → Appends a b (take d bytes) → Appends b c (take n (take (length bytes - d) (drop d bytes)))
    → Appends a c (take (d + n) bytes)
written-more a b c d n bytes before wrote =
    let rest : take (length bytes - d) (drop d bytes) ≡ drop d bytes = take_all (length bytes - d) (drop d bytes) (omega (arith, length-drop d bytes)) in
    subst (Appends a c) (sym (take-add d n bytes)) (Appends-trans a b c (take d bytes) (take n (drop d bytes)) before (rw rest at wrote))

pub loop-done-preserved : goal.loop-done-preserved
loop-done-preserved g c =
    let bytes = c.args.bytes.now in
    record {
      within = omega (arith, c.in-Ok.ensures.bound, length-take {A = ℕ}, length-drop {A = ℕ});
      written = written-more _ _ _ c.loop-done.done c.in-Ok.taken bytes c.loop-done.invariant.written c.in-Ok.ensures.bytes;
    }
