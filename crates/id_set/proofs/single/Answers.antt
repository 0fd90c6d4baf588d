-- `id_set::single` meets its contract: a power of two has one member, 0 none. Assumes nothing.
use mathlib.Core.Path.{◌≡◌, sym, ap, ◌∙◌}
use Prim.Native.Nat.{ℕ, ◌*◌, ◌%◌, ◌^◌, ◌<◌}
use native.Mathlib.Nat.{one-mul}
use native.Mathlib.Omega.{arith}
use lib.Pow.{shl_exact}
use borrow.Author.Tests.{ne_eqb}
use Rattle.cpu_set.specs.CpuSet.{member}
use Rattle.id_set.proofs.Ids.{power-member, zero-member}
use Rattle.id_set.proofs.single.Goals as goal

power : (k : ℕ) → k < 64 → (1 * 2 ^ k) % 2 ^ 64 ≡ 2 ^ k
power k h = shl_exact {a = 1} 1 k 64 (omega arith) (omega arith) ∙ one-mul (2 ^ k)

pub returns-then-id-lt64 : goal.returns-then-id-lt64
returns-then-id-lt64 c = λ k h. let id = c.args.id in ap (member k) (power id c.if-id-lt64.true) ∙ power-member id k c.if-id-lt64.true h

pub returns-else-id-lt64 : goal.returns-else-id-lt64
returns-else-id-lt64 c = λ k h. zero-member k h ∙ sym (ne_eqb k c.args.id (λ e. omega arith))
