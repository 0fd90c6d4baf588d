-- `id_set::lowest` meets its contract: every bit below the count of trailing zeros is clear, and the bit at the count is set, unless the set is
-- empty. Assumes nothing.
use mathlib.Core.Bool.{false, true, not}
use native.Mathlib.Decide.{ℕ_discrete}
use borrow.Author.Tests.{eq-eqb, ne_eqb}
use lib.Dec.{eqb}
use Rattle.std.specs.Bool.{then_some}
use mathlib.Core.Path.{◌≡◌, refl, sym, ap, subst, ◌∙◌}
use mathlib.Core.Logic.{⊎_elim}
use Prim.Native.Nat.{ℕ, ◌^◌, ◌<◌}
use native.Mathlib.Omega.{arith}
use lib.Count.{count_trailing_zeros, trailing_le}
use Rattle.std.proofs.Common.{Some, None}
use Rattle.std.proofs.lemmas.Option.{none-some, same_Some}
use Rattle.base.proofs.Tests.{le-or-lt}
use Rattle.machine_state.specs.Machine.{max_cells}
use Rattle.rules.specs.State.{has_id, some_id}
use Rattle.rules.proofs.SomeIds.{from-some, from-none}
use Rattle.id_set.specs.Ids.{Lowest}
use Rattle.id_set.proofs.Ids.{has-bit, no-ids, none-of}
use Rattle.id_set.proofs.Laws.{first-is}
use Rattle.id_set.proofs.Zeros.{trailing-clear, trailing-set}
use Rattle.id_set.proofs.lowest.Goals as goal

module _ (ids : ℕ) (fits : ids < 2 ^ 16) where
  abbrev place : ℕ
  place = count_trailing_zeros 16 ids

  below : (k : ℕ) → k < place → has_id ids k ≡ false
  below k h = let high = trailing_le 16 ids in has-bit ids k (omega arith) ∙ trailing-clear 16 ids k h

  here : place < 16 → has_id ids place ≡ true
  here h = has-bit ids place h ∙ trailing-set 16 ids h

  inside : (ids ≡ 0 → ⊥) → place < 16
  inside n = ⊎_elim (λ l. absurd (n (no-ids ids fits (λ k h. below k (omega arith))))) (λ l. l) (le-or-lt 16 place)

  found : (ids ≡ 0 → ⊥) → Lowest ids (Some place)
  found n = record {
    is = sym (ap some_id (sym (first-is (has_id ids) 16 0 place refl (omega arith) (trailing_le 16 ids) (λ k l h. below k h) here)) ∙ from-some place (inside n));
    found = λ id e. let s = same_Some place id e in (subst (λ (k : ℕ). k < max_cells) s (inside n), subst (λ (k : ℕ). has_id ids k ≡ true) s (here (inside n)));
    none = λ e. absurd (none-some place (sym e));
  }

-- an empty set has no lowest
empty : (ids : ℕ) → ids ≡ 0 → Lowest ids None
empty ids e = record {
  is = sym (ap some_id (sym (first-is (has_id ids) 16 0 16 refl (omega arith) (omega arith) (λ k l h. none-of ids k h e) (λ h. absurd (omega arith)))) ∙ from-none 16 (omega arith));
  found = λ id s. absurd (none-some id s);
  none = λ s. e;
}

pub returns : goal.returns
returns c = subst (Lowest c.args.ids) (sym c.then_some.ensures) (by-test (ℕ_discrete c.args.ids 0))
  where
    by-test : Dec (c.args.ids ≡ 0) → Lowest c.args.ids (then_some (not (eqb c.args.ids 0)) (place c.args.ids c.ranges.ids.fits))
    by-test (yes e) = rw (eq-eqb c.args.ids 0 e) (empty c.args.ids e)
    by-test (no n) = rw (ne_eqb c.args.ids 0 n) (found c.args.ids c.ranges.ids.fits n)
