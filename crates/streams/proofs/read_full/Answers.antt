-- What a read gives is behind what came before, and consumed after it. Assumes nothing.
use Rattle.std.proofs.Common.{◌≡◌, ℕ, ◌+◌, ◌-◌, ◌≤◌, List, ◌++◌, length, take, drop, length-take, length-drop, sym, ap, ◌∙◌, subst, arith}
use borrow.Rule.Slice.PartMut.{put_mid, post_of, same_len_mid}
use Rattle.std.specs.declared.option.Option.{Option}
use Rattle.std.specs.Io.KnownBytes.{Consumes}
use Rattle.std.proofs.KnownBytes.{Consumes-trans}
use Rattle.std.proofs.lemmas.List.{take-append-le}
use Rattle.std.proofs.Math.Seq.{take-append-add}
use Rattle.streams.proofs.read_full.Goals as goal

read-more : (a b c : Option (List ℕ)) (d n : ℕ) (old part : List ℕ) → d ≤ length old → n ≤ length part
    → Consumes a b (take d old) → Consumes b c (take n part) → Consumes a c (take (d + n) (put_mid d (length old - d) old part))
read-more a b c d n old part inside came before read =
    let front : length (take d old) ≡ d = omega (arith, length-take d old) in
    let both : take (d + n) (put_mid d (length old - d) old part) ≡ take d old ++ take n part =
    ap (λ (k : ℕ). take (k + n) (put_mid d (length old - d) old part)) (sym front)
    ∙ take-append-add (take d old) (part ++ post_of d (length old - d) old) n
    ∙ ap (λ (l : List ℕ). take d old ++ l) (take-append-le n part (post_of d (length old - d) old) came) in
    subst (Consumes a c) (sym both) (Consumes-trans a b c (take d old) (take n part) before read)

pub loop-done-preserved : goal.loop-done-preserved
loop-done-preserved g c =
    let old = c.loop-done.bytes in
    let came = c.in-Ok.ensures.bound.0 in
    let same = same_len_mid c.loop-done.done (length old - c.loop-done.done) old c.read.new.buf c.read.auto.buf in
    record {
      within = omega (arith, length-take (length old - c.loop-done.done) (drop c.loop-done.done old), length-drop c.loop-done.done old);
      same_room = same ∙ c.loop-done.invariant.same_room;
      consumed = read-more _ _ _ c.loop-done.done c.in-Ok.came old c.read.new.buf c.loop-done.invariant.within came c.loop-done.invariant.consumed c.in-Ok.ensures.bytes.0;
    }
