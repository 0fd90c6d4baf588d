-- CPU sets. Document 01, "Each place and its form": CPU sets are u64 masks; CPU k is a member where bit k is set, for k below 64.
-- Every set operation is defined by its members. The code uses masks and shifts and is proved equal to this.
use Rattle.std.specs.Prelude.{Bool, true, false, not, ◌&&◌, ◌||◌, ℕ, zero, suc, ◌+◌, ◌/◌, ◌%◌, ◌^◌, ltb, eqb}
use Rattle.base.specs.Lists.{all, any, up_to}

-- bit k of a number
abbrev pub bit : ℕ → ℕ → Bool
bit k n = eqb (n / 2 ^ k % 2) 1

-- CPU k is in the set s. No set has a CPU from 64 up
unfoldable pub member : ℕ → ℕ → Bool
member k s = elim (ltb k 64) [ true ↦ bit k s | false ↦ false ]

-- the number whose bits below n are those that the test picks
unfoldable pub number_of : ℕ → (ℕ → Bool) → ℕ
number_of zero p = 0
number_of (suc n) p = elim (p n) [ true ↦ number_of n p + 2 ^ n | false ↦ number_of n p ]

-- the set of the CPUs that the test picks
abbrev pub set_of : (ℕ → Bool) → ℕ
set_of p = number_of 64 p

-- every member of a is a member of b
unfoldable pub subset : ℕ → ℕ → Bool
subset a b = all (λ k. not (member k a) || member k b) (up_to 64)

-- some CPU is a member of both
unfoldable pub meets : ℕ → ℕ → Bool
meets a b = any (λ k. member k a && member k b) (up_to 64)

-- no CPU is a member
unfoldable pub is_empty : ℕ → Bool
is_empty a = all (λ k. not (member k a)) (up_to 64)

-- the members of a or of b: CPUs returned to root
unfoldable pub union : ℕ → ℕ → ℕ
union a b = set_of (λ k. member k a || member k b)

-- the members of a that are not of b: CPUs taken from root
unfoldable pub without : ℕ → ℕ → ℕ
without a b = set_of (λ k. member k a && not (member k b))

-- every member of a is below n
unfoldable pub below : ℕ → ℕ → Bool
below a n = all (λ k. not (member k a) || ltb k n) (up_to 64)

-- how many numbers below n the test picks
unfoldable pub count_below : ℕ → (ℕ → Bool) → ℕ
count_below zero p = 0
count_below (suc n) p = elim (p n) [ true ↦ suc (count_below n p) | false ↦ count_below n p ]

-- how many CPUs are members
unfoldable pub count : ℕ → ℕ
count a = count_below 64 (λ k. member k a)
