-- Tests of all and of some elements of a list, for one element that is in it. Each follows by induction on the place of the element, or on the
-- list. Assumes nothing.
use Rattle.std.proofs.Common.{◌≡◌, refl, sym, ap, ◌∙◌, Bool, true, false, ◌||◌, true≢false, ◌⊎◌, inl, inr, List, [], ◌∷◌}
use Rattle.std.proofs.lemmas.Bool.{and_parts, both_ways, false_from_ne_true, or_cases, or_left, or_right}
use mathlib.Core.List.{Memᴰ}
use mathlib.Core.List.Memᴰ
use Rattle.base.specs.Lists.{all, any, pairwise}

-- ---- tests joined

-- a choice by a test that is known
pub chosen : {A : Type 0} {b : Bool} (x y : A) → b ≡ true → elim b [ true ↦ x | false ↦ y ] ≡ x
chosen x y e = rw e

pub passed : {A : Type 0} {b : Bool} (x y : A) → b ≡ false → elim b [ true ↦ x | false ↦ y ] ≡ y
passed x y e = rw e

-- ---- elements

module _ {A : Type 0} where
  pub all_of : (p : A → Bool) (xs : List A) → all p xs ≡ true → (x : A) → Memᴰ x xs → p x ≡ true
  all_of p [] e x i = absurd (Memᴰ.not-nil i)
  all_of p (y ∷ ys) e x i = go (and_parts (p y) (all p ys) e) (Memᴰ.cases_cons i) (all_of p ys)
    where
      go : (p y ≡ true) × (all p ys ≡ true) → (x ≡ y) ⊎ Memᴰ x ys → (all p ys ≡ true → (x : A) → Memᴰ x ys → p x ≡ true) → p x ≡ true
      go (s, t) (inl q) more = ap p q ∙ s
      go (s, t) (inr j) more = more t x j

  pub any_of : (p : A → Bool) (xs : List A) (x : A) → Memᴰ x xs → p x ≡ true → any p xs ≡ true
  any_of p [] x i e = absurd (Memᴰ.not-nil i)
  any_of p (y ∷ ys) x i e = go (Memᴰ.cases_cons i) (λ j. any_of p ys x j e)
    where
      go : (x ≡ y) ⊎ Memᴰ x ys → (Memᴰ x ys → any p ys ≡ true) → (p y || any p ys) ≡ true
      go (inl q) more = or_left _ (any p ys) (sym (ap p q) ∙ e)
      go (inr j) more = or_right (p y) _ (more j)

  pub none_of : (p : A → Bool) (xs : List A) → any p xs ≡ false → (x : A) → Memᴰ x xs → p x ≡ false
  none_of p xs e x i = false_from_ne_true _ (λ t. both_ways _ e (any_of p xs x i t))

  -- an element that passes, where some does
  pub record Passes (p : A → Bool) (xs : List A) : Type 0 where
    pub element : A
    pub is_in : Memᴰ element xs
    pub passes : p element ≡ true

  pub some_of : (p : A → Bool) (xs : List A) → any p xs ≡ true → Passes p xs
  some_of p [] e = absurd (true≢false (sym e))
  some_of p (y ∷ ys) e = go (or_cases (p y) (any p ys) e) (some_of p ys)
    where
      go : (p y ≡ true) ⊎ (any p ys ≡ true) → (any p ys ≡ true → Passes p ys) → Passes p (y ∷ ys)
      go (inl t) more = record { element = y; is_in = Memᴰ.head refl; passes = t }
      go (inr t) more = record { element = (more t).element; is_in = Memᴰ.tail (more t).is_in; passes = (more t).passes }

  -- two elements of a list whose elements are pairwise so: one of them before the other, or they are the same
  pub pair_of : (p : A → A → Bool) (xs : List A) → pairwise p xs ≡ true → (x y : A) → Memᴰ x xs → Memᴰ y xs
      → (x ≡ y) ⊎ ((p x y ≡ true) ⊎ (p y x ≡ true))
  unfolding pairwise
  pair_of p [] e x y i j = absurd (Memᴰ.not-nil i)
  pair_of p (z ∷ zs) e x y i j = go (and_parts (all (p z) zs) (pairwise p zs) e) (Memᴰ.cases_cons i) (Memᴰ.cases_cons j) (pair_of p zs)
    where
      go : (all (p z) zs ≡ true) × (pairwise p zs ≡ true) → (x ≡ z) ⊎ Memᴰ x zs → (y ≡ z) ⊎ Memᴰ y zs
          → (pairwise p zs ≡ true → (x y : A) → Memᴰ x zs → Memᴰ y zs → (x ≡ y) ⊎ ((p x y ≡ true) ⊎ (p y x ≡ true)))
          → (x ≡ y) ⊎ ((p x y ≡ true) ⊎ (p y x ≡ true))
      go (s, t) (inl q) (inl r) more = inl (q ∙ sym r)
      go (s, t) (inl q) (inr k) more = inr (inl (ap (λ (w : A). p w y) q ∙ all_of (p z) zs s y k))
      go (s, t) (inr k) (inl r) more = inr (inr (ap (λ (w : A). p w x) r ∙ all_of (p z) zs s x k))
      go (s, t) (inr k) (inr l) more = more t x y k l
