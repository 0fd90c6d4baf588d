-- From 64 up nothing is a member. Below 64 the last digit of the shifted number is the bit, which is what `member` tests. Assumes nothing.
use mathlib.Core.Path.{sym}
use native.Mathlib.Omega.{arith}
use Rattle.base.proofs.Tests.{is_false}
use Rattle.cpu_set.proofs.Laws.{member-lt, member-bit}
use Rattle.cpu_set.proofs.contains.Goals as goal

pub returns-then-cpu-ge64 : goal.returns-then-cpu-ge64
returns-then-cpu-ge64 c = sym (is_false _ (λ t. omega (arith, member-lt _ _ t)))

pub returns : goal.returns
returns c = sym (member-bit _ _ c.ranges.set.fits)
