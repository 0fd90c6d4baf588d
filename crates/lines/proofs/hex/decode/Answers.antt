-- By the loop's invariant. Assumes nothing.
use Rattle.std.proofs.Common.{arith, ◌≡◌, ◌*◌, ◌+◌, ◌++◌, ℕ, List, take, drop, ap, ◌∙◌}
use Rattle.std.proofs.lemmas.List.{length-take, drop_all, append-nil}
use Rattle.lines.specs.Lines.{bytes_of}
use Rattle.lines.proofs.PairLaws.{digit_at, length-bytes, byte-stored}
use Rattle.lines.proofs.hex.decode.Goals as goal

pub hex_digit-high-requires : goal.hex_digit-high-requires
hex_digit-high-requires c = digit_at c.args.w.now (2 * c.loop-n.n) c.requires (omega (arith, length-take c.min-end.result c.args.out.now))

pub hex_digit-low-requires : goal.hex_digit-low-requires
hex_digit-low-requires c = digit_at c.args.w.now (2 * c.loop-n.n + 1) c.requires (omega (arith, length-take c.min-end.result c.args.out.now))

pub loop-n-preserved : goal.loop-n-preserved
loop-n-preserved c =
    let before = take c.min-end.result c.args.out.now in
    byte-stored c.args.w.now before c.loop-n.b-items c.loop-n.n _ _ (omega (arith, length-take c.min-end.result c.args.out.now)) c.loop-n-test.true
    c.hex_digit-high.ensures.value
    c.hex_digit-low.ensures.value
    c.loop-n.invariant

pub returns : goal.returns
returns c =
    let end = c.min-end.result in
    let n = c.loop-n.n in
    let made = bytes_of c.args.w.now in
    let whole : n ≡ end = omega (arith, length-take end c.args.out.now) in
    let none = drop_all n (take end c.args.out.now) c.loop-n-test.false in
    record {
      value = omega (arith, length-bytes c.args.w.now);
      out_after =
          ap (λ (l : List ℕ). l ++ drop end c.args.out.now)
          (c.loop-n.invariant ∙ ap (λ (l : List ℕ). take n made ++ l) none ∙ append-nil (take n made) ∙ ap (λ i. take i made) whole);
    }
