-- Laws of tests: a test is true exactly where its fact holds, and two tests are equal where each gives the other.
-- Each follows by the two cases of a test. Assumes nothing.
use mathlib.Core.Bool.{Bool, true, false, not, ◌&&◌, ◌||◌}
use mathlib.Core.Path.{◌≡◌, refl, sym, subst, ◌∙◌}
use mathlib.Core.Logic.{◌⊎◌, inl, inr}
use Prim.Native.Nat.{ℕ, ◌≤◌, ◌<◌}
use borrow.Author.Tests.{leb-true, leb-false}
use lib.Dec.{T, leb, eqb, leb→le, le→leb, eqb_refl}

pub equal-tests : (a b : Bool) → (T a → T b) → (T b → T a) → a ≡ b
equal-tests true true f g = refl
equal-tests true false f g = absurd (f tt)
equal-tests false true f g = absurd (g tt)
equal-tests false false f g = refl

pub is_true : (b : Bool) → T b → b ≡ true
is_true true t = refl
is_true false t = absurd t

pub is_false : (b : Bool) → (T b → ⊥) → b ≡ false
is_false true f = absurd (f tt)
is_false false f = refl

pub holds : {b : Bool} → b ≡ true → T b
holds e = subst T (sym e) tt

-- what a test found is so of what it tests
pub told : {found is t : Bool} → found ≡ is → found ≡ t → is ≡ t
told e f = sym e ∙ f

pub fails : {b : Bool} → b ≡ false → T b → ⊥
fails e t = subst T e t

pub and_intro : (a b : Bool) → T a → T b → T (a && b)
and_intro true b s t = t
and_intro false b s t = s

pub and_left : (a b : Bool) → T (a && b) → T a
and_left true b t = tt
and_left false b t = t

pub and_right : (a b : Bool) → T (a && b) → T b
and_right true b t = t
and_right false b t = absurd t

pub or_cases : (a b : Bool) → T (a || b) → T a ⊎ T b
or_cases true b t = inl tt
or_cases false b t = inr t

pub eq→eqb : (m n : ℕ) → m ≡ n → T (eqb m n)
eq→eqb m n e = subst (λ (k : ℕ). T (eqb m k)) e (eqb_refl m)

-- two comparisons are equal where each order gives the other
pub equal-leb : (a b c d : ℕ) → (a ≤ b → c ≤ d) → (c ≤ d → a ≤ b) → leb a b ≡ leb c d
equal-leb a b c d f g =
    equal-tests (leb a b) (leb c d) (λ t. le→leb c d (f (leb→le a b t))) (λ t. le→leb a b (g (leb→le c d t)))

-- two comparisons together are a third where they give it and it gives each
pub both-leb : (a b c d e f : ℕ) → (a ≤ b → c ≤ d → e ≤ f) → (e ≤ f → a ≤ b) → (e ≤ f → c ≤ d) → (leb a b && leb c d) ≡ leb e f
both-leb a b c d e f p q r =
    equal-tests (leb a b && leb c d) (leb e f)
    (λ t. le→leb e f (p (leb→le a b (and_left (leb a b) (leb c d) t)) (leb→le c d (and_right (leb a b) (leb c d) t))))
    (λ t. and_intro (leb a b) (leb c d) (le→leb a b (q (leb→le e f t))) (le→leb c d (r (leb→le e f t))))

pub le-or-lt : (a b : ℕ) → (a ≤ b) ⊎ (b < a)
le-or-lt a b = by-test (leb a b) refl
  where
    by-test : (t : Bool) → leb a b ≡ t → (a ≤ b) ⊎ (b < a)
    by-test true e = inl (leb-true a b e)
    by-test false e = inr (leb-false a b e)

-- a test that follows from another
pub implies-intro : (x y : Bool) → (T x → T y) → T (not x || y)
implies-intro true y f = f tt
implies-intro false y f = tt

pub implies-elim : (x y : Bool) → T (not x || y) → T x → T y
implies-elim true y t m = t
implies-elim false y t m = absurd m
