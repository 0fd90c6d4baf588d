-- Laws of CPU sets: a number of 64 bits is the set of its members, and a bit operation works on each member apart.
-- Each follows from the number's binary digits, taken one at a time. Assumes nothing.
use mathlib.Core.Bool.{Bool, true, false, not, xor, ◌&&◌, ◌||◌, beq}
use mathlib.Core.Path.{◌≡◌, refl, sym, ap, ap₂, ◌∙◌}
use Prim.Native.Nat.{ℕ, zero, suc, ◌+◌, ◌*◌, ◌/◌, ◌%◌, ◌^◌, ◌≤◌, ◌<◌}
use native.Mathlib.Decide.{ℕ_discrete}
use native.Mathlib.Nat.{not-suc-le-zero, mod-one, mod-lt, mod-eq_of_lt, div-eq_of_lt, lt_of_lt_of_le, lt_of_le_of_lt, zero-div, pow-suc, mul_comm}
use native.Mathlib.Numerals.{one-add}
use native.Mathlib.Omega.{arith}
use lib.Dec.{T, eqb, ltb, eqb→eq}
use lib.Arith.{digits_lt}
use lib.Pow.{pow_mono, mod-pow-add, shr-shr, shr_le}
use lib.Bits.{bit_and, bit_or, bit_xor, and_shr, or_shr, xor_shr, and_mod, or_mod, xor_mod}
use lib.Count.{ones, ones_in, ones_cat}
use borrow.Author.Tests.{ltb-true, ltb-false}
use Rattle.base.specs.Lists.{all, up_to}
use Rattle.base.proofs.Tests.{equal-tests, fails, eq→eqb}
use Rattle.base.proofs.Lists.{up_to-intro, up_to-elim, all_same}
use Rattle.cpu_set.specs.CpuSet.{bit, member, number_of, set_of, count_below, count, is_empty}

-- ---- a binary digit as a test: `bit k a` is `odd (a / 2 ^ k)`

abbrev odd : ℕ → Bool
odd n = eqb (n % 2) 1

abbrev digit : Bool → ℕ
digit true = 1
digit false = 0

digit_lt : (b : Bool) → digit b < 2
digit_lt true = omega arith
digit_lt false = omega arith

bit-digit : (k a : ℕ) → a / 2 ^ k % 2 ≡ digit (bit k a)
bit-digit k a = go (a / 2 ^ k % 2) (mod-lt (a / 2 ^ k) (omega arith))
  where
    go : (d : ℕ) → d < 2 → d ≡ digit (eqb d 1)
    go zero h = refl
    go (suc zero) h = refl
    go (suc (suc d)) h = absurd (omega arith)

-- ---- numbers by their bits

number_step : (n : ℕ) (p : ℕ → Bool) → number_of (suc n) p ≡ digit (p n) * 2 ^ n + number_of n p
unfolding number_of
number_step n p = go (p n)
  where
    go : (b : Bool) → elim b [ true ↦ number_of n p + 2 ^ n | false ↦ number_of n p ] ≡ digit b * 2 ^ n + number_of n p
    go true = omega arith
    go false = omega arith

number_lt : (n : ℕ) (p : ℕ → Bool) → number_of n p < 2 ^ n
unfolding number_of
number_lt zero p = omega arith
number_lt (suc n) p = rw (number_step, pow-suc, mul_comm (2 ^ n) 2) (digits_lt (digit_lt (p n)) (number_lt n p))

-- the low n digits of a are those that the test picks
pub low_bits : (n a : ℕ) (p : ℕ → Bool) → ((k : ℕ) → k < n → bit k a ≡ p k) → a % 2 ^ n ≡ number_of n p
unfolding number_of
low_bits zero a p e = mod-one a
low_bits (suc n) a p e =
    ap (λ (m : ℕ). a % 2 ^ m) (sym (one-add n)) ∙ mod-pow-add a 1 n
    ∙ ap₂ (λ (d r : ℕ). d * 2 ^ n + r) (bit-digit n a ∙ ap digit (e n (omega arith))) (low_bits n a p (λ k h. e k (omega arith)))
    ∙ sym (number_step n p)

-- as many digits are set as the test picks
ones-number : (n : ℕ) (p : ℕ → Bool) → ones (number_of n p) ≡ count_below n p
unfolding number_of count_below ones ones_in
ones-number zero p = refl
ones-number (suc n) p =
    ap ones (number_step n p) ∙ ones_cat n (digit (p n)) (number_of n p) (number_lt n p)
    ∙ ap (λ (m : ℕ). ones (digit (p n)) + m) (ones-number n p) ∙ go (p n)
  where
    go : (b : Bool) → ones (digit b) + count_below n p ≡ elim b [ true ↦ suc (count_below n p) | false ↦ count_below n p ]
    go true = omega arith
    go false = omega arith

-- ---- members

pub member-lt : (k a : ℕ) → T (member k a) → k < 64
unfolding member
member-lt k a = go (ltb k 64) refl
  where
    go : (b : Bool) → ltb k 64 ≡ b → T (elim b [ true ↦ bit k a | false ↦ false ]) → k < 64
    go true e t = ltb-true k 64 e
    go false e t = absurd t

-- a number of 64 bits has no bit from 64 up
pub shr_high : (k a : ℕ) → a < 2 ^ 64 → 64 ≤ k → a / 2 ^ k ≡ 0
shr_high k a h l = div-eq_of_lt (lt_of_lt_of_le h (pow_mono l))

pub member-bit : (k a : ℕ) → a < 2 ^ 64 → member k a ≡ bit k a
unfolding member
member-bit k a h = go (ltb k 64) refl
  where
    go : (b : Bool) → ltb k 64 ≡ b → elim b [ true ↦ bit k a | false ↦ false ] ≡ bit k a
    go true e = refl
    go false e = sym (ap odd (shr_high k a h (ltb-false k 64 e)))

-- a number of 64 bits is the set of its members
pub equals-set_of : (a : ℕ) → a < 2 ^ 64 → (p : ℕ → Bool) → ((k : ℕ) → k < 64 → member k a ≡ p k) → a ≡ set_of p
equals-set_of a h p e = sym (mod-eq_of_lt h) ∙ low_bits 64 a p (λ k l. sym (member-bit k a h) ∙ e k l)

-- so two are equal where they have the same members
pub same-members : (a b : ℕ) → a < 2 ^ 64 → b < 2 ^ 64 → eqb a b ≡ all (λ k. beq (member k a) (member k b)) (up_to 64)
same-members a b h l =
    equal-tests (eqb a b) _
    (λ t. up_to-intro (λ k. beq (member k a) (member k b)) 64 (λ k m. rw (eqb→eq a b t) (beq-refl (member k b))))
    (λ t. eq→eqb a b
    (equals-set_of a h (λ k. member k b) (λ k m. beq-eq (member k a) (member k b) (up_to-elim _ 64 t k m))
    ∙ sym (equals-set_of b l (λ k. member k b) (λ k m. refl))))
  where
    beq-refl : (x : Bool) → T (beq x x)
    beq-refl true = tt
    beq-refl false = tt

    beq-eq : (x y : Bool) → T (beq x y) → x ≡ y
    beq-eq true true t = refl
    beq-eq true false t = absurd t
    beq-eq false true t = absurd t
    beq-eq false false t = refl

pub ones-count : (a : ℕ) → a < 2 ^ 64 → ones a ≡ count a
unfolding count
ones-count a h = ap ones (equals-set_of a h (λ k. member k a) (λ k l. refl)) ∙ ones-number 64 (λ k. member k a)

-- ---- a bit operation that does `f` on each digit does `f` on each member

module _ (op : ℕ → ℕ → ℕ) (f : Bool → Bool → Bool)
    (shr : (a b k : ℕ) → op a b / 2 ^ k ≡ op (a / 2 ^ k) (b / 2 ^ k))
    (low : (a b k : ℕ) → op a b % 2 ^ k ≡ op (a % 2 ^ k) (b % 2 ^ k))
    (both : eqb (op 1 1) 1 ≡ f true true) (left : eqb (op 1 0) 1 ≡ f true false) (right : eqb (op 0 1) 1 ≡ f false true)
    (neither : eqb (op 0 0) 1 ≡ f false false) (nothing : false ≡ f false false) where
  on-digits : (x y : Bool) → eqb (op (digit x) (digit y)) 1 ≡ f x y
  on-digits true true = both
  on-digits true false = left
  on-digits false true = right
  on-digits false false = neither

  on-bits : (k a b : ℕ) → bit k (op a b) ≡ f (bit k a) (bit k b)
  on-bits k a b =
      ap odd (shr a b k) ∙ ap (λ (d : ℕ). eqb d 1) (low (a / 2 ^ k) (b / 2 ^ k) 1)
      ∙ ap₂ (λ (d e : ℕ). eqb (op d e) 1) (bit-digit k a) (bit-digit k b) ∙ on-digits (bit k a) (bit k b)

  on-members : (k a b : ℕ) → member k (op a b) ≡ f (member k a) (member k b)
  unfolding member
  on-members k a b = go (ltb k 64)
    where
      go : (t : Bool) → elim t [ true ↦ bit k (op a b) | false ↦ false ]
          ≡ f (elim t [ true ↦ bit k a | false ↦ false ]) (elim t [ true ↦ bit k b | false ↦ false ])
      go true = on-bits k a b
      go false = nothing

pub member-and : (k a b : ℕ) → member k (bit_and a b) ≡ (member k a && member k b)
member-and = on-members bit_and ◌&&◌ and_shr and_mod refl refl refl refl refl

pub member-or : (k a b : ℕ) → member k (bit_or a b) ≡ (member k a || member k b)
member-or = on-members bit_or ◌||◌ or_shr or_mod refl refl refl refl refl

pub member-xor : (k a b : ℕ) → member k (bit_xor a b) ≡ xor (member k a) (member k b)
unfolding xor
member-xor = on-members bit_xor xor xor_shr xor_mod refl refl refl refl refl

pub member-shr : (k a n : ℕ) → a < 2 ^ 64 → member k (a / 2 ^ n) ≡ member (n + k) a
member-shr k a n h =
    member-bit k (a / 2 ^ n) (lt_of_le_of_lt (shr_le a n) h) ∙ ap odd (shr-shr a n k) ∙ sym (member-bit (n + k) a h)

-- ---- the empty set

pub zero-is_empty : (a : ℕ) → a < 2 ^ 64 → eqb a 0 ≡ is_empty a
unfolding is_empty
zero-is_empty a h =
    same-members a 0 h (omega arith)
    ∙ all_same _ _ (λ k. ap (beq (member k a)) (member-bit k 0 (omega arith) ∙ ap odd (zero-div (2 ^ k))) ∙ go (member k a))
    (up_to 64)
  where
    go : (x : Bool) → beq x false ≡ not x
    go true = refl
    go false = refl

-- ---- the members of a set that a test picks

same-picks : (n : ℕ) (p q : ℕ → Bool) → number_of n p ≡ number_of n q → (k : ℕ) → k < n → p k ≡ q k
same-picks zero p q e k h = absurd (not-suc-le-zero h)
same-picks (suc n) p q e k h =
    go (p n) (q n) refl refl (sym (number_step n p) ∙ e ∙ number_step n q) (λ f. same-picks n p q f k)
  where
    low : (k < n → p k ≡ q k) → Dec (k ≡ n) → p n ≡ q n → p k ≡ q k
    low f (yes i) t = rw i t
    low f (no i) t = f (omega arith)

    go : (a b : Bool) → p n ≡ a → q n ≡ b → digit a * 2 ^ n + number_of n p ≡ digit b * 2 ^ n + number_of n q
        → (number_of n p ≡ number_of n q → k < n → p k ≡ q k) → p k ≡ q k
    go true true s t f g = low (g (omega arith)) (ℕ_discrete k n) (s ∙ sym t)
    go true false s t f g = absurd (omega (arith, number_lt n q))
    go false true s t f g = absurd (omega (arith, number_lt n p))
    go false false s t f g = low (g (omega arith)) (ℕ_discrete k n) (s ∙ sym t)

pub bit-number : (n : ℕ) (p : ℕ → Bool) (k : ℕ) → k < n → bit k (number_of n p) ≡ p k
bit-number n p k h =
    same-picks n (λ i. bit i (number_of n p)) p
    (sym (low_bits n (number_of n p) (λ i. bit i (number_of n p)) (λ i l. refl)) ∙ mod-eq_of_lt (number_lt n p)) k h

pub member-set_of : (p : ℕ → Bool) (k : ℕ) → k < 64 → member k (set_of p) ≡ p k
unfolding member
member-set_of p k h = go (ltb k 64) refl
  where
    go : (b : Bool) → ltb k 64 ≡ b → elim b [ true ↦ bit k (set_of p) | false ↦ false ] ≡ p k
    go true e = bit-number 64 p k h
    go false e = absurd (omega (arith, ltb-false k 64 e))

-- at most n numbers below n are picked; and a test that picks some of another's, and not all, picks fewer
pub count-le : (n : ℕ) (p : ℕ → Bool) → count_below n p ≤ n
unfolding count_below
count-le zero p = omega arith
count-le (suc n) p = go (p n) (count-le n p)
  where
    go : (b : Bool) → count_below n p ≤ n → elim b as (λ x. ℕ) [ true ↦ suc (count_below n p) | false ↦ count_below n p ] ≤ suc n
    go true h = omega arith
    go false h = omega arith

module _ (p q : ℕ → Bool) where
  step-le : (a b : ℕ) (x y : Bool) → (x ≡ true → y ≡ true) → a ≤ b
      → elim x as (λ x. ℕ) [ true ↦ suc a | false ↦ a ] ≤ elim y as (λ x. ℕ) [ true ↦ suc b | false ↦ b ]
  step-le a b true true i h = omega arith
  step-le a b true false i h = absurd (fails (sym (i refl)) tt)
  step-le a b false true i h = omega arith
  step-le a b false false i h = h

  step-lt : (a b : ℕ) (x y : Bool) → (x ≡ true → y ≡ true) → a < b
      → elim x as (λ x. ℕ) [ true ↦ suc a | false ↦ a ] < elim y as (λ x. ℕ) [ true ↦ suc b | false ↦ b ]
  step-lt a b true true i h = omega arith
  step-lt a b true false i h = absurd (fails (sym (i refl)) tt)
  step-lt a b false true i h = omega arith
  step-lt a b false false i h = h

  some-le : (n : ℕ) → ((k : ℕ) → k < n → p k ≡ true → q k ≡ true) → count_below n p ≤ count_below n q
  unfolding count_below
  some-le zero some = omega arith
  some-le (suc n) some = step-le _ _ (p n) (q n) (some n (omega arith)) (some-le n (λ i l. some i (omega arith)))

  pub count_less : (n : ℕ) → ((k : ℕ) → k < n → p k ≡ true → q k ≡ true) → (k : ℕ) → k < n → p k ≡ false → q k ≡ true → count_below n p < count_below n q
  unfolding count_below
  count_less zero some k h low high = absurd (omega arith)
  count_less (suc n) some k h low high =
      go (ℕ_discrete k n) (λ l. count_less n (λ i l. some i (omega arith)) k l low high)
    where
      go : Dec (k ≡ n) → (k < n → count_below n p < count_below n q) → count_below (suc n) p < count_below (suc n) q
      go (yes e) less = rw (sym (ap p e) ∙ low, sym (ap q e) ∙ high, count_below) (omega (arith, some-le n (λ i l. some i (omega arith))))
      go (no e) less = step-lt _ _ (p n) (q n) (some n (omega arith)) (less (omega arith))
