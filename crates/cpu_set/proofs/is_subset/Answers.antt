-- `a & b` has the common members, which are the members of `a` where each is one of `b`. Assumes nothing.
use mathlib.Core.Bool.{Bool, true, false, not, ◌&&◌, ◌||◌, beq}
use mathlib.Core.Path.{◌≡◌, refl, ap, ◌∙◌}
use lib.Bits.{bit_and, and_lt}
use Rattle.base.specs.Lists.{up_to}
use Rattle.base.proofs.Lists.{all_same}
use Rattle.cpu_set.specs.CpuSet.{member, subset}
use Rattle.cpu_set.proofs.Laws.{same-members, member-and}
use Rattle.cpu_set.proofs.is_subset.Goals as goal

implies : (x y : Bool) → beq (x && y) x ≡ (not x || y)
implies true true = refl
implies true false = refl
implies false y = refl

pub returns : goal.returns
unfolding subset
returns c =
    let a = c.args.a in
    let b = c.args.b in
    same-members (bit_and a b) a (and_lt 64 a b c.ranges.a.fits c.ranges.b.fits) c.ranges.a.fits
    ∙ all_same _ _ (λ k. ap (λ (x : Bool). beq x (member k a)) (member-and k a b) ∙ implies (member k a) (member k b)) (up_to 64)
