-- A number is the set of its members, and those of `a | b` are those of either. Assumes nothing.
use lib.Bits.{bit_or, or_lt}
use Rattle.cpu_set.specs.CpuSet.{union}
use Rattle.cpu_set.proofs.Laws.{equals-set_of, member-or}
use Rattle.cpu_set.proofs.union.Goals as goal

pub returns : goal.returns
unfolding union
returns c =
    let a = c.args.a in
    let b = c.args.b in
    equals-set_of (bit_or a b) (or_lt 64 a b c.ranges.a.fits c.ranges.b.fits) _ (λ k l. member-or k a b)
