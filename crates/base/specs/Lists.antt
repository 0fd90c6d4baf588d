-- Words for lists that the definitions use: "all", "some", the numbers below n, a part of a record.
use Rattle.std.specs.Prelude.{Bool, true, ◌&&◌, List, [], ◌∷◌, ℕ, zero, suc, eqb, take, drop}
use Rattle.std.specs.Cmp.Lexicographic.{pointwise}
use Rattle.std.specs.List.{list_all, list_any}

module _ {A : Type 0} where
  -- every element passes the test
  abbrev pub all : (A → Bool) → List A → Bool
  all p xs = list_all p xs

  -- some element passes the test
  abbrev pub any : (A → Bool) → List A → Bool
  any p xs = list_any p xs

  -- each element passes the test with every later one
  unfoldable pub pairwise : (A → A → Bool) → List A → Bool
  pairwise p [] = true
  pairwise p (x ∷ xs) = all (p x) xs && pairwise p xs

module _ {ℓ} {A : Type ℓ} where
  -- the n elements that begin at place `at`
  abbrev pub part : ℕ → ℕ → List A → List A
  part at n xs = take n (drop at xs)

-- n numbers from k on
unfoldable pub from : ℕ → ℕ → List ℕ
from k zero = []
from k (suc n) = k ∷ from (suc k) n

-- the numbers below n
abbrev pub up_to : ℕ → List ℕ
up_to n = from 0 n

-- the same numbers in the same order
abbrev pub same : List ℕ → List ℕ → Bool
same xs ys = pointwise eqb xs ys
