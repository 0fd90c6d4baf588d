-- `a ^ (a & b)` takes from `a` the members that it has in common with `b`. Assumes nothing.
use mathlib.Core.Bool.{Bool, true, false, not, xor, ◌&&◌}
use mathlib.Core.Path.{◌≡◌, refl, ap, ◌∙◌}
use lib.Bits.{bit_and, bit_xor, and_lt, xor_lt}
use Rattle.cpu_set.specs.CpuSet.{member, without}
use Rattle.cpu_set.proofs.Laws.{equals-set_of, member-and, member-xor}
use Rattle.cpu_set.proofs.without.Goals as goal

taken : (x y : Bool) → xor x (x && y) ≡ (x && not y)
unfolding xor
taken true true = refl
taken true false = refl
taken false y = refl

pub returns : goal.returns
unfolding without
returns c =
    let a = c.args.a in
    let b = c.args.b in
    let h = c.ranges.a.fits in
    equals-set_of (bit_xor a (bit_and a b)) (xor_lt 64 a (bit_and a b) h (and_lt 64 a b h c.ranges.b.fits)) _
    (λ k l. member-xor k a (bit_and a b) ∙ ap (xor (member k a)) (member-and k a b) ∙ taken (member k a) (member k b))
