-- `a & b` has the common members, so it is 0 where there is none. Assumes nothing.
use mathlib.Core.Bool.{not}
use mathlib.Core.Path.{sym, ap, ◌∙◌}
use lib.Bits.{bit_and, and_lt}
use Rattle.base.specs.Lists.{up_to}
use Rattle.base.proofs.Lists.{all_same}
use Rattle.cpu_set.specs.CpuSet.{meets, is_empty}
use Rattle.base.proofs.Lists.{any-not-all}
use Rattle.cpu_set.proofs.Laws.{zero-is_empty, member-and}
use Rattle.cpu_set.proofs.intersects.Goals as goal

pub returns : goal.returns
unfolding meets is_empty
returns c =
    let a = c.args.a in
    let b = c.args.b in
    ap not
    (zero-is_empty (bit_and a b) (and_lt 64 a b c.ranges.a.fits c.ranges.b.fits)
    ∙ all_same _ _ (λ k. ap not (member-and k a b)) (up_to 64))
    ∙ sym (any-not-all _ (up_to 64))
