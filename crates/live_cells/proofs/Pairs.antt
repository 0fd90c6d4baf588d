-- Pairs of two lists: some pair passes a test, whichever list is looked at first; and the regions of a record. Assumes nothing.
use mathlib.Core.Path.{◌≡◌, refl, sym, ap, ◌∙◌}
use mathlib.Core.Bool.{Bool, true, false, ◌||◌}
use mathlib.Core.List.{List, [], ◌∷◌, map}
use Prim.Native.Nat.{ℕ}
use Rattle.base.specs.Lists.{any, up_to}
use Rattle.regions.specs.declared.MemRegion.{MemRegion}
use Rattle.region_table.specs.Tables.{region_at, regions_of}

module _ {A B : Type 0} (p : A → B → Bool) where
  none_of : (xs : List A) → any (λ x. any (p x) []) xs ≡ false
  none_of [] = refl
  none_of (x ∷ xs) = none_of xs

  one_more : (y : B) (ys : List B) (xs : List A) → any (λ x. any (p x) (y ∷ ys)) xs ≡ (any (λ x. p x y) xs || any (λ x. any (p x) ys) xs)
  one_more y ys [] = refl
  one_more y ys (x ∷ xs) = ap (λ (b : Bool). (p x y || any (p x) ys) || b) (one_more y ys xs) ∙ shuffle (p x y) (any (p x) ys) _ _
    where
      shuffle : (a b c d : Bool) → ((a || b) || (c || d)) ≡ ((a || c) || (b || d))
      shuffle true b c d = refl
      shuffle false true true d = refl
      shuffle false true false d = refl
      shuffle false false c d = refl

  pub any-exchange : (xs : List A) (ys : List B) → any (λ y. any (λ x. p x y) xs) ys ≡ any (λ x. any (p x) ys) xs
  any-exchange xs [] = sym (none_of xs)
  any-exchange xs (y ∷ ys) = ap (λ (b : Bool). any (λ x. p x y) xs || b) (any-exchange xs ys) ∙ sym (one_more y ys xs)

-- some region of a record passes a test
any-map : {A B : Type 0} (p : B → Bool) (f : A → B) (xs : List A) → any (λ x. p (f x)) xs ≡ any p (map f xs)
any-map p f [] = refl
any-map p f (x ∷ xs) = ap (λ (b : Bool). p (f x) || b) (any-map p f xs)

pub any-regions-of : (p : MemRegion → Bool) (base n : ℕ) (bytes : List ℕ) → any (λ i. p (region_at base bytes i)) (up_to n) ≡ any p (regions_of base n bytes)
unfolding regions_of
any-regions-of p base n bytes = any-map p (region_at base bytes) (up_to n)
