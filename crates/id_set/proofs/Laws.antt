-- Searches through the cells' IDs: what the first that passes a test is, and that a search by an iterator is one by the definitions. Assumes nothing.
use mathlib.Core.Path.{◌≡◌, refl, sym, ap, ap₂, ◌∙◌}
use mathlib.Core.Bool.{Bool, true, false, cond, ◌&&◌, ◌||◌}
use Prim.Native.Nat.{ℕ, zero, suc, ◌+◌, ◌≤◌, ◌<◌}
use native.Mathlib.Decide.{ℕ_discrete}
use native.Mathlib.Omega.{arith}
use Rattle.std.proofs.Common.{Option, Some, None}
use Rattle.std.specs.List.{find, range_with_len}
use Rattle.std.specs.Option.{option_map}
use Rattle.base.specs.Lists.{all, any, from}
use Rattle.machine_state.specs.Machine.{max_cells}
use Rattle.rules.specs.State.{first, some_id, cell_ids}
use Rattle.rules.proofs.SomeIds.{from-some}

-- the number that passes the test while none before it does, or 16, is the first
pub first-is : (p : ℕ → Bool) (n i r : ℕ) → i + n ≡ max_cells → i ≤ r → r ≤ max_cells → ((k : ℕ) → i ≤ k → k < r → p k ≡ false)
    → (r < max_cells → p r ≡ true) → r ≡ first p (from i n)
unfolding first from
first-is p zero i r e l h below here = omega arith
first-is p (suc n) i r e l h below here =
    go (ℕ_discrete i r) (λ m. first-is p n (suc i) r (omega arith) m h (λ k b. below k (omega arith)) here)
  where
    go : Dec (i ≡ r) → (suc i ≤ r → r ≡ first p (from (suc i) n)) → r ≡ first p (from i (suc n))
    go (yes q) later = rw (ap p q ∙ here (omega arith), first) (sym q)
    go (no q) later = rw (below i (omega arith) (omega arith), first) (later (omega arith))

-- tests that agree on the numbers of a list find the same
pub first-alike : (p q : ℕ → Bool) (i n : ℕ) → ((k : ℕ) → i ≤ k → k < i + n → p k ≡ q k) → first p (from i n) ≡ first q (from i n)
unfolding first from
first-alike p q i zero e = refl
first-alike p q i (suc n) e =
    λ j. elim (e i (omega arith) (omega arith) j) [ true ↦ i | false ↦ first-alike p q (suc i) n (λ k l h. e k (omega arith) (omega arith)) j ]

pub any-alike : (p q : ℕ → Bool) (i n : ℕ) → ((k : ℕ) → i ≤ k → k < i + n → p k ≡ q k) → any p (from i n) ≡ any q (from i n)
unfolding from
any-alike p q i zero e = refl
any-alike p q i (suc n) e =
    ap₂ (λ (x y : Bool). x || y) (e i (omega arith) (omega arith)) (any-alike p q (suc i) n (λ k l h. e k (omega arith) (omega arith)))

pub all-alike : (p q : ℕ → Bool) (i n : ℕ) → ((k : ℕ) → i ≤ k → k < i + n → p k ≡ q k) → all p (from i n) ≡ all q (from i n)
unfolding from
all-alike p q i zero e = refl
all-alike p q i (suc n) e =
    ap₂ (λ (x y : Bool). x && y) (e i (omega arith) (omega arith)) (all-alike p q (suc i) n (λ k l h. e k (omega arith) (omega arith)))

-- a search by an iterator over the numbers from i up to the tables' size
find-first : (p : ℕ → Bool) (i n : ℕ) → i + n ≡ max_cells → find p (range_with_len i n) ≡ some_id (first p (from i n))
unfolding first from some_id
find-first p i zero e = refl
find-first p i (suc n) e = go (p i) (find-first p (i + 1) n (omega arith))
  where
    go : (b : Bool) → find p (range_with_len (i + 1) n) ≡ some_id (first p (from (i + 1) n))
        → cond b (Some i) (find p (range_with_len (i + 1) n)) ≡ some_id (elim b as (λ x. ℕ) [ true ↦ i | false ↦ first p (from (suc i) n) ])
    go true q = sym (from-some i (omega arith))
    go false q = q ∙ ap (λ (k : ℕ). some_id (first p (from k n))) (omega arith)

-- what an iterator over the IDs finds is the first
pub found-first : (p : ℕ → Bool) (r : Option ℕ) → option_map (λ x. x) r ≡ find p (range_with_len 1 15) → r ≡ some_id (first p cell_ids)
found-first p (Some x) e = e ∙ find-first p 1 15 refl
found-first p None e = e ∙ find-first p 1 15 refl
