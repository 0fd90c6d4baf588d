-- `cpu_table::first_cpu` meets its contract: the bit at the count of trailing zeros is set, and a number with none of its 64 bits set is 0.
-- Assumes nothing.
use Rattle.std.proofs.Common.{◌≡◌, ℕ, ◌^◌, ◌<◌, ◌≤◌, true, false, sym, ◌∙◌, mod-eq_of_lt, arith}
use lib.Count.{count_trailing_zeros}
use mathlib.Core.Logic.{⊎_elim}
use Rattle.std.proofs.Common.{Some, subst}
use Rattle.std.proofs.lemmas.Option.{none-some, same_Some}
use Rattle.base.proofs.Tests.{le-or-lt}
use Rattle.cpu_set.specs.CpuSet.{member, number_of}
use Rattle.cpu_set.proofs.Laws.{low_bits, member-bit}
use Rattle.id_set.proofs.Zeros.{trailing-clear, trailing-set}
use Rattle.cpu_table.specs.CpuTable.{FirstCpu}
use Rattle.cpu_table.proofs.first_cpu.Goals as goal

module _ (a : ℕ) (fits : a < 2 ^ 64) where
  abbrev place : ℕ
  place = count_trailing_zeros 64 a

  none : 64 ≤ place → a ≡ 0
  unfolding number_of
  none h = sym (mod-eq_of_lt fits) ∙ low_bits 64 a (λ k. false) (λ k l. trailing-clear 64 a k (omega arith))

  inside : (a ≡ 0 → ⊥) → place < 64
  inside n = ⊎_elim (λ h. absurd (n (none h))) (λ h. h) (le-or-lt 64 place)

  found : (a ≡ 0 → ⊥) → FirstCpu a (Some place)
  found n =
      let here = member-bit place a fits ∙ trailing-set 64 a (inside n) in record {
        found = λ k e. let s = same_Some place k e in (subst (λ (i : ℕ). i < 64) s (inside n), subst (λ (i : ℕ). member i a ≡ true) s here);
        none = λ e. absurd (none-some place (sym e));
      }

pub returns-then-set-eq0 : goal.returns-then-set-eq0
returns-then-set-eq0 c = record { found = λ k e. absurd (none-some k e); none = λ e. c.if-set-eq0.true }

pub returns-else-set-eq0 : goal.returns-else-set-eq0
returns-else-set-eq0 c = found c.args.set c.ranges.set.fits c.if-set-eq0.false
