-- Laws of chains over the numbers below n: what `(0..n).all(..)`, `(0..n).any(..)` and `array::from_fn(..)` give, where a call of the closure
-- leaves it as it was and computes a function. Assumes nothing.
use mathlib.Core.Path.{◌≡◌, refl, ap, ◌∙◌, subst}
use mathlib.Core.Bool.{Bool}
use mathlib.Core.List.{List, ◌∷◌, map}
use Prim.Native.Nat.{ℕ, zero, suc, ◌+◌, ◌<◌}
use native.Mathlib.Nat.{not-suc-le-zero, sub-zero, zero-add}
use native.Mathlib.Numerals.{add-one}
use native.Mathlib.Omega.{arith}
use lib.ListN.{get_or}
use denote.Param.Members.{Mut, Called}
use Rattle.std.specs.declared.ops.Range.{Range}
use Rattle.std.specs.Array.{IsFromFnResult, IsFromFnResultFrom}
use Rattle.std.specs.Iterator.{ChecksAll, ChecksAny}
use Rattle.std.specs.List.{range_with_len}
use Rattle.std.proofs.iter.Yields.{nat_range_steps}
use Rattle.std.proofs.lemmas.Iterator.{YieldsList-from_range}
use Rattle.std.proofs.lemmas.Iterator.Search.{all_from_yields_List, any_from_yields_List}
use Rattle.base.specs.Lists.{all, any, from, up_to}
use Rattle.base.proofs.Lists.{map-up_to}

-- the numbers of a range are those of the definitions
from-range : (k n : ℕ) → range_with_len k n ≡ from k n
unfolding from
from-range k zero = refl
from-range k (suc n) = ap {B = List ℕ} (λ m. k ∷ range_with_len m n) (add-one k) ∙ ap {B = List ℕ} (λ l. k ∷ l) (from-range (suc k) n)

pub up_to-range : (n : ℕ) → range_with_len 0 n ≡ up_to n
up_to-range n = from-range 0 n

module _ {F : Type 0} {g : Mut F (ℕ × Unit {0}) Bool} {f : F} {u : Range ℕ} (test : ℕ → Bool) (n : ℕ) (r : Bool) where
  pub all-below : ChecksAll nat_range_steps g (record { start = 0; end = n }) f r u
      → ((i : ℕ) (b : Bool) (q : F) → Called g f (i, tt) b q → (q ≡ f) × (b ≡ test i)) → r ≡ all test (up_to n)
  all-below ran fact =
      all_from_yields_List {v = λ x. x} test u f r ran (YieldsList-from_range 0 n n refl (sub-zero n)) fact ∙ ap (all test) (up_to-range n)

  pub any-below : ChecksAny nat_range_steps g (record { start = 0; end = n }) f r u
      → ((i : ℕ) (b : Bool) (q : F) → Called g f (i, tt) b q → (q ≡ f) × (b ≡ test i)) → r ≡ any test (up_to n)
  any-below ran fact =
      any_from_yields_List {v = λ x. x} test u f r ran (YieldsList-from_range 0 n n refl (sub-zero n)) fact ∙ ap (any test) (up_to-range n)

module _ {F B : Type 0} {g : Mut F (ℕ × Unit {0}) B} {f : F} (h : ℕ → B) (n : ℕ) (d : B) (ys : List B)
    (fact : (i : ℕ) (y : B) (q : F) → i < n → Called g f (i, tt) y q → (q ≡ f) × (y ≡ h i)) where
  made : (k i m : ℕ) (now : F) → now ≡ f → k + m ≡ n → IsFromFnResultFrom g now ys k m → i < m → get_or ys (k + i) d ≡ h (k + i)
  made k i zero now e s t l = absurd (not-suc-le-zero l)
  made k zero (suc m) now e s t l =
      let c = fact k t.1 t.0 (omega arith) (subst (λ (p : F). Called g p (k, tt) t.1 t.0) e t.3) in
      let at : k + 0 ≡ k = omega arith in
      rw at (t.2.1 d ∙ c.1)
  made k (suc i) (suc m) now e s t l =
      let c = fact k t.1 t.0 (omega arith) (subst (λ (p : F). Called g p (k, tt) t.1 t.0) e t.3) in
      let at : k + suc i ≡ k + 1 + i = omega arith in
      rw at (made (k + 1) i m t.0 c.0 (omega arith) t.4 (omega arith))

  pub made-at : IsFromFnResult g f ys n → (i : ℕ) → i < n → get_or ys i d ≡ h i
  made-at t i l = subst (λ (k : ℕ). get_or ys k d ≡ h k) (zero-add i) (made 0 i n f refl (zero-add n) t.each l)

  pub made-below : IsFromFnResult g f ys n → ys ≡ map h (up_to n)
  made-below t = map-up_to h n d ys t.long (λ i l. made-at t i l)
