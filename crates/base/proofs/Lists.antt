-- Laws of "all", "some", "pairwise" and the numbers below n: of a chain over a list, and of a loop that goes through it one element at a time.
-- Each follows by induction on the list. Assumes nothing.
use mathlib.Core.Bool.{Bool, true, false, not, ◌&&◌, ◌||◌, and-true, or-false}
use mathlib.Core.Path.{◌≡◌, refl, sym, ap, ap₂, ◌∙◌, subst}
use mathlib.Core.Logic.{⊎_elim}
use mathlib.Core.List.{List, [], ◌∷◌, ◌++◌, map}
use Prim.Native.Nat.{ℕ, zero, suc, ◌+◌, ◌-◌, ◌<◌, ◌≤◌, min}
use native.Mathlib.Nat.{add-zero, zero-add, add-suc, suc-add, not-suc-le-zero, le_of_suc-le-suc, le_of_eq}
use native.Mathlib.Numerals.{add-one}
use native.Mathlib.Decide.{ℕ_discrete}
use native.Mathlib.Omega.{arith}
use lib.Dec.{T, eqb, eqb→eq}
use lib.ListN.{length, take, drop, get_or, set, length-set, length-drop, drop_of_length-le}
use lib.Seq.{take-suc, take_all, take-nil, ext_get_or, get_or-set_same, get_or-set_other}
use Rattle.std.proofs.lemmas.List.Folds.{list_all-append, list_any-append}
use Rattle.base.specs.Lists.{all, any, pairwise, part, from, up_to, same}
use Rattle.base.proofs.Tests.{and_intro, and_left, and_right, eq→eqb, equal-tests, is_true, is_false, holds, le-or-lt}

or-not : (a b : Bool) → (a || not b) ≡ not (not a && b)
or-not true b = refl
or-not false b = refl

-- four tests in another order
four : (a b c d : Bool) → (a && (b && true) && (c && d)) ≡ (a && c && (b && d))
four true true c d = refl
four true false true d = refl
four true false false d = refl
four false b c d = refl

module _ {A : Type 0} where
  pub all_append : (p : A → Bool) (xs ys : List A) → all p (xs ++ ys) ≡ (all p xs && all p ys)
  all_append p xs ys = list_all-append p xs ys

  pub any_append : (p : A → Bool) (xs ys : List A) → any p (xs ++ ys) ≡ (any p xs || any p ys)
  any_append p xs ys = list_any-append p xs ys

  all_more : (p : A → Bool) (xs : List A) (i : ℕ) (d : A) → i < length xs
      → (all p (take i xs) && p (get_or xs i d)) ≡ all p (take (i + 1) xs)
  all_more p xs i d h =
      rw (add-one, take-suc xs i d, list_all-append p (take i xs) (get_or xs i d ∷ []))
      (ap (λ (b : Bool). all p (take i xs) && b) (sym (and-true (p (get_or xs i d)))))

  any-more : (p : A → Bool) (xs : List A) (i : ℕ) (d : A) → i < length xs
      → (any p (take i xs) || p (get_or xs i d)) ≡ any p (take (i + 1) xs)
  any-more p xs i d h =
      rw (add-one, take-suc xs i d, list_any-append p (take i xs) (get_or xs i d ∷ []))
      (ap (λ (b : Bool). any p (take i xs) || b) (sym (or-false (p (get_or xs i d)))))

  pub all_none : (p : A → Bool) (xs : List A) → true ≡ all p (take 0 xs)
  all_none p xs = refl

  pub any_none : (p : A → Bool) (xs : List A) → false ≡ any p (take 0 xs)
  any_none p xs = refl

  pairwise-last : (p : A → A → Bool) (xs : List A) (y : A)
      → pairwise p (xs ++ (y ∷ [])) ≡ (pairwise p xs && all (λ x. p x y) xs)
  unfolding pairwise
  pairwise-last p [] y = refl
  pairwise-last p (x ∷ xs) y =
      rw (pairwise-last p xs y, list_all-append (p x) xs (y ∷ []))
      (four (all (p x) xs) (p x y) (pairwise p xs) (all (λ z. p z y) xs))

  pairwise-more : (p : A → A → Bool) (xs : List A) (i : ℕ) (d : A) → i < length xs
      → (pairwise p (take i xs) && all (λ x. p x (get_or xs i d)) (take i xs)) ≡ pairwise p (take (i + 1) xs)
  pairwise-more p xs i d h = rw (add-one, take-suc xs i d) (sym (pairwise-last p (take i xs) (get_or xs i d)))

  pub pairwise-none : (p : A → A → Bool) (xs : List A) → true ≡ pairwise p (take 0 xs)
  unfolding pairwise
  pairwise-none p xs = refl

  -- One turn of a loop that gathers a test in a flag: the flag is right for the elements passed, and t is the test at the next one
  pub all-turn : (p : A → Bool) (xs : List A) (i : ℕ) (d : A) (flag t : Bool) → flag ≡ all p (take i xs) → t ≡ p (get_or xs i d)
      → i < length xs → (flag && t) ≡ all p (take (i + 1) xs)
  all-turn p xs i d flag t e q h = rw (e, q) (all_more p xs i d h)

  pub any-turn : (p : A → Bool) (xs : List A) (i : ℕ) (d : A) (flag t : Bool) → flag ≡ any p (take i xs) → t ≡ p (get_or xs i d)
      → i < length xs → (flag || t) ≡ any p (take (i + 1) xs)
  any-turn p xs i d flag t e q h = rw (e, q) (any-more p xs i d h)

  pub pairwise-turn : (p : A → A → Bool) (xs : List A) (i : ℕ) (d : A) (flag t : Bool) → flag ≡ pairwise p (take i xs)
      → t ≡ all (λ x. p x (get_or xs i d)) (take i xs) → i < length xs → (flag && t) ≡ pairwise p (take (i + 1) xs)
  pairwise-turn p xs i d flag t e q h = rw (e, q) (pairwise-more p xs i d h)

  -- some element passes where not all fail
  pub any-not-all : (p : A → Bool) (xs : List A) → any p xs ≡ not (all (λ x. not (p x)) xs)
  any-not-all p [] = refl
  any-not-all p (x ∷ xs) = rw (any-not-all p xs) (or-not (p x) (all (λ y. not (p y)) xs))

  pub all_same : (p q : A → Bool) → ((x : A) → p x ≡ q x) → (xs : List A) → all p xs ≡ all q xs
  all_same p q e [] = refl
  all_same p q e (x ∷ xs) = ap₂ (λ (a b : Bool). a && b) (e x) (all_same p q e xs)

module _ {ℓ} {A : Type ℓ} where
  -- a loop that has passed n of the elements, n being the least of a count and the length, has passed the count's elements
  pub take-used : (xs : List A) (count n m i : ℕ) → length xs ≡ m → n ≡ min count m → i ≤ n → n ≤ i → take i xs ≡ take count xs
  take-used xs count n m i l e h g = ⊎_elim small large (le-or-lt count m)
    where
      small : count ≤ m → take i xs ≡ take count xs
      small s = let e : i ≡ count = omega arith in ap (λ (k : ℕ). take k xs) e

      large : m < count → take i xs ≡ take count xs
      large s = take_all i xs (omega arith) ∙ sym (take_all count xs (omega arith))

  -- a part that goes to the end is the rest
  pub part-rest : (n : ℕ) (xs : List A) → take (length xs - n) (drop n xs) ≡ drop n xs
  part-rest n xs = take_all (length xs - n) (drop n xs) (le_of_eq (length-drop n xs))

  -- a part that begins past the end, and one that the end cuts short
  pub part-past : (at n : ℕ) (xs : List A) → length xs ≤ at → [] ≡ part at n xs
  part-past at n xs h = rw (drop_of_length-le xs h, take-nil)

  pub part-short : (at n : ℕ) (xs : List A) → length xs - at ≤ n → take (length xs - at) (drop at xs) ≡ part at n xs
  part-short at n xs h = part-rest at xs ∙ sym (take_all n (drop at xs) (subst (λ (m : ℕ). m ≤ n) (sym (length-drop at xs)) h))

-- the numbers below n, and what holds of all of them
module _ (p : ℕ → Bool) where
  from-intro : (k n : ℕ) → ((i : ℕ) → i < n → T (p (k + i))) → T (all p (from k n))
  unfolding from
  from-intro k zero f = tt
  from-intro k (suc n) f =
      and_intro (p k) (all p (from (suc k) n)) (subst (λ (m : ℕ). T (p m)) (add-zero k) (f 0 (omega arith)))
      (from-intro (suc k) n (λ i h. subst (λ (m : ℕ). T (p m)) (add-suc k i ∙ sym (suc-add k i)) (f (suc i) (omega arith))))

  from-elim : (k n : ℕ) → T (all p (from k n)) → (i : ℕ) → i < n → T (p (k + i))
  unfolding from
  from-elim k zero t i h = absurd (not-suc-le-zero h)
  from-elim k (suc n) t zero h = subst (λ (m : ℕ). T (p m)) (sym (add-zero k)) (and_left (p k) (all p (from (suc k) n)) t)
  from-elim k (suc n) t (suc i) h =
      subst (λ (m : ℕ). T (p m)) (suc-add k i ∙ sym (add-suc k i))
      (from-elim (suc k) n (and_right (p k) (all p (from (suc k) n)) t) i (le_of_suc-le-suc h))

  pub up_to-intro : (n : ℕ) → ((i : ℕ) → i < n → T (p i)) → T (all p (up_to n))
  up_to-intro n f = from-intro 0 n (λ i h. subst (λ (m : ℕ). T (p m)) (sym (zero-add i)) (f i h))

  pub up_to-elim : (n : ℕ) → T (all p (up_to n)) → (i : ℕ) → i < n → T (p i)
  up_to-elim n t i h = subst (λ (m : ℕ). T (p m)) (zero-add i) (from-elim 0 n t i h)

-- equal lists, as a test and as a fact
pub same-eq : (xs ys : List ℕ) → T (same xs ys) → xs ≡ ys
same-eq [] [] t = refl
same-eq [] (y ∷ ys) t = absurd t
same-eq (x ∷ xs) [] t = absurd t
same-eq (x ∷ xs) (y ∷ ys) t =
    ap₂ (λ (a : ℕ) (l : List ℕ). a ∷ l) (eqb→eq x y (and_left (eqb x y) (same xs ys) t))
    (same-eq xs ys (and_right (eqb x y) (same xs ys) t))

same_refl : (xs : List ℕ) → T (same xs xs)
same_refl [] = tt
same_refl (x ∷ xs) = and_intro (eqb x x) (same xs xs) (eq→eqb x x refl) (same_refl xs)

pub eq-same : (xs ys : List ℕ) → xs ≡ ys → T (same xs ys)
eq-same xs ys e = subst (λ (l : List ℕ). T (same xs l)) e (same_refl xs)

-- a flag that is true exactly where two lists are equal is their test
pub same_flag : (b : Bool) (xs ys : List ℕ) → (b ≡ true → xs ≡ ys) → (xs ≡ ys → b ≡ true) → b ≡ same xs ys
same_flag b xs ys f g =
    equal-tests b (same xs ys) (λ t. eq-same xs ys (f (is_true b t))) (λ t. holds (g (same-eq xs ys t)))

pub differ : (xs ys : List ℕ) → (length xs ≡ length ys → ⊥) → false ≡ same xs ys
differ xs ys n = sym (is_false (same xs ys) (λ t. n (ap length (same-eq xs ys t))))

-- a function over the numbers below n, as a list: its length, and what stands at each place
module _ {ℓ} {A : Type ℓ} (f : ℕ → A) where
  length_from : (k n : ℕ) → length (map f (from k n)) ≡ n
  unfolding from
  length_from k zero = refl
  length_from k (suc n) = ap suc (length_from (suc k) n)

  get_or-from : (k n i : ℕ) (d : A) → i < n → get_or (map f (from k n)) i d ≡ f (k + i)
  unfolding from
  get_or-from k zero i d h = absurd (not-suc-le-zero h)
  get_or-from k (suc n) zero d h = ap f (sym (add-zero k))
  get_or-from k (suc n) (suc i) d h = get_or-from (suc k) n i d (le_of_suc-le-suc h) ∙ ap f (suc-add k i ∙ sym (add-suc k i))

  pub length-up_to : (n : ℕ) → length (map f (up_to n)) ≡ n
  length-up_to n = length_from 0 n

  pub get_or-up_to : (n i : ℕ) (d : A) → i < n → get_or (map f (up_to n)) i d ≡ f i
  get_or-up_to n i d h = get_or-from 0 n i d h ∙ ap f (zero-add i)

  -- a list of n elements that agree with the function at each place
  pub map-up_to : (n : ℕ) (d : A) (xs : List A) → length xs ≡ n → ((i : ℕ) → i < n → get_or xs i d ≡ f i) → xs ≡ map f (up_to n)
  map-up_to n d xs l e =
      ext_get_or d xs (map f (up_to n)) (l ∙ sym (length-up_to n))
      (λ i h. e i (subst (λ (m : ℕ). i < m) l h) ∙ sym (get_or-up_to n i d (subst (λ (m : ℕ). i < m) l h)))

from_more : (k n : ℕ) → from k (suc n) ≡ from k n ++ ((k + n) ∷ [])
unfolding from
from_more k zero = ap (λ (m : ℕ). m ∷ []) (sym (add-zero k))
from_more k (suc n) = ap (λ (l : List ℕ). k ∷ l) (from_more (suc k) n ∙ ap (λ (m : ℕ). from (suc k) n ++ (m ∷ [])) (suc-add k n ∙ sym (add-suc k n)))

up_to-more : (n : ℕ) → up_to (n + 1) ≡ up_to n ++ (n ∷ [])
up_to-more n = ap up_to (add-one n) ∙ from_more 0 n ∙ ap (λ (m : ℕ). up_to n ++ (m ∷ [])) (zero-add n)

-- ---- loops over the numbers below n

pub all-up_to-turn : (p : ℕ → Bool) (i : ℕ) (flag t : Bool) → flag ≡ all p (up_to i) → t ≡ p i → (flag && t) ≡ all p (up_to (i + 1))
all-up_to-turn p i flag t e q =
    rw (e, q, up_to-more i, list_all-append p (up_to i) (i ∷ [])) (ap (λ (b : Bool). all p (up_to i) && b) (sym (and-true (p i))))

pub all-up_to-none : (p : ℕ → Bool) → true ≡ all p (up_to 0)
unfolding from
all-up_to-none p = refl

pub any-up_to-none : (p : ℕ → Bool) → false ≡ any p (up_to 0)
unfolding from
any-up_to-none p = refl

pub any-up_to-turn : (p : ℕ → Bool) (i : ℕ) (flag t : Bool) → flag ≡ any p (up_to i) → t ≡ p i → (flag || t) ≡ any p (up_to (i + 1))
any-up_to-turn p i flag t e q =
    rw (e, q, up_to-more i, list_any-append p (up_to i) (i ∷ [])) (ap (λ (b : Bool). any p (up_to i) || b) (sym (or-false (p i))))

-- every two elements pass where each passes with those before it, by the place of each
module _ {A : Type 0} (p : A → A → Bool) (d : A) (xs : List A) where
  abbrev row : ℕ → Bool
  row i = all (λ x. p x (get_or xs i d)) (take i xs)

  rows : (n : ℕ) → n ≤ length xs → all row (up_to n) ≡ pairwise p (take n xs)
  unfolding from pairwise
  rows zero h = refl
  rows (suc n) h =
      ap (all row) (from_more 0 n) ∙ list_all-append row (up_to n) ((0 + n) ∷ [])
      ∙ ap₂ (λ (a b : Bool). a && b) (rows n (omega arith)) (and-true (row (0 + n)) ∙ ap row (zero-add n))
      ∙ sym (pairwise-last p (take n xs) (get_or xs n d)) ∙ ap (pairwise p) (sym (take-suc xs n d (omega arith)))

  pub pairwise-rows : all (λ i. all (λ x. p x (get_or xs i d)) (take i xs)) (up_to (length xs)) ≡ pairwise p xs
  pairwise-rows = rows (length xs) (omega arith) ∙ ap (pairwise p) (take_all (length xs) xs (omega arith))

-- ---- a loop that changes a list in place, one element a turn: f k is what it makes of the element at k

module _ {ℓ} {A : Type ℓ} (f : ℕ → A → A) (d : A) (xs : List A) where
  -- i turns have made `now` of xs
  abbrev pub Mapped : ℕ → List A → Type ℓ
  Mapped i now =
      (length now ≡ length xs)
      × ((k : ℕ) → k < i → get_or now k d ≡ f k (get_or xs k d))
      × ((k : ℕ) → i ≤ k → get_or now k d ≡ get_or xs k d)

  pub mapped-none : Mapped 0 xs
  mapped-none = (refl, (λ k h. absurd (not-suc-le-zero h)), (λ k h. refl))

  pub mapped-more : (i : ℕ) (now : List A) (v : A) → i < length xs → v ≡ f i (get_or now i d) → Mapped i now → Mapped (i + 1) (set now i v)
  mapped-more i now v h e m = (
    length-set now i v ∙ m.0,
    (λ k l. passed k l (ℕ_discrete k i)),
    (λ k l. get_or-set_other now i k v d (λ q. omega arith) ∙ m.2 k (omega arith)),
  )
    where
      inside : i < length now
      inside = subst (λ (n : ℕ). i < n) (sym m.0) h

      passed : (k : ℕ) → k < i + 1 → Dec (k ≡ i) → get_or (set now i v) k d ≡ f k (get_or xs k d)
      passed k l (yes q) = rw q (get_or-set_same now i v d inside ∙ e ∙ ap (f i) (m.2 i (omega arith)))
      passed k l (no n) = get_or-set_other now i k v d n ∙ m.1 k (omega arith)

  pub mapped-all : (n i : ℕ) (now : List A) → length xs ≡ n → n ≤ i → Mapped i now → now ≡ map (λ k. f k (get_or xs k d)) (up_to n)
  mapped-all n i now l h m = map-up_to (λ k. f k (get_or xs k d)) n d now (m.0 ∙ l) (λ k q. m.1 k (omega arith))
