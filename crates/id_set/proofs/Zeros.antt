-- The count of trailing zeros, bit by bit, and the bits of a complement: for every width, one digit at a time. Assumes nothing.
use mathlib.Core.Bool.{true, false, not}
use mathlib.Core.Path.{◌≡◌, refl, sym, ap, ◌∙◌}
use Prim.Native.Nat.{ℕ, zero, suc, ◌-◌, ◌*◌, ◌/◌, ◌%◌, ◌^◌, ◌<◌}
use native.Mathlib.Nat.{not-suc-le-zero, mod-lt, div-one, pow-suc}
use native.Mathlib.Numerals.{one-add}
use native.Mathlib.Omega.{arith}
use lib.Dec.{eqb}
use lib.Pow.{shr-shr}
use lib.Count.{under, count_trailing_zeros}
use Rattle.cpu_set.specs.CpuSet.{bit}

-- the lowest bit is the number's last digit, and the others are those of its half
lowest : (a : ℕ) → bit 0 a ≡ eqb (a % 2) 1
lowest a = ap (λ (n : ℕ). eqb (n % 2) 1) (div-one a)

higher : (k a : ℕ) → bit (suc k) a ≡ bit k (a / 2)
higher k a = ap (λ (n : ℕ). eqb (a / 2 ^ n % 2) 1) (sym (one-add k)) ∙ ap (λ (n : ℕ). eqb (n % 2) 1) (sym (shr-shr a 1 k))

-- every bit below the count is clear
pub trailing-clear : (n a k : ℕ) → k < count_trailing_zeros n a → bit k a ≡ false
unfolding count_trailing_zeros
trailing-clear zero a k h = absurd (not-suc-le-zero h)
trailing-clear (suc n) a k h = go (a % 2) refl k h (trailing-clear n (a / 2))
  where
    go : (d : ℕ) → a % 2 ≡ d → (k : ℕ) → k < under d (count_trailing_zeros n (a / 2))
        → ((k : ℕ) → k < count_trailing_zeros n (a / 2) → bit k (a / 2) ≡ false) → bit k a ≡ false
    go zero e zero h half = lowest a ∙ ap (λ (m : ℕ). eqb m 1) e
    go zero e (suc k) h half = higher k a ∙ half k (omega arith)
    go (suc d) e k h half = absurd (not-suc-le-zero h)

-- and the bit at the count is set, unless none of the n is
pub trailing-set : (n a : ℕ) → count_trailing_zeros n a < n → bit (count_trailing_zeros n a) a ≡ true
unfolding count_trailing_zeros
trailing-set zero a h = absurd (not-suc-le-zero h)
trailing-set (suc n) a h = go (a % 2) refl (mod-lt a (omega arith)) h (trailing-set n (a / 2))
  where
    go : (d : ℕ) → a % 2 ≡ d → a % 2 < 2 → under d (count_trailing_zeros n (a / 2)) < suc n
        → (count_trailing_zeros n (a / 2) < n → bit (count_trailing_zeros n (a / 2)) (a / 2) ≡ true) → bit (under d (count_trailing_zeros n (a / 2))) a ≡ true
    go zero e l h half = higher (count_trailing_zeros n (a / 2)) a ∙ half (omega arith)
    go (suc zero) e l h half = lowest a ∙ ap (λ (m : ℕ). eqb m 1) e
    go (suc (suc d)) e l h half = absurd (omega arith)

-- the complement has the bits that the number has not
pub complement-bit : (n a k : ℕ) → a < 2 ^ n → k < n → bit k ((2 ^ n - 1) - a) ≡ not (bit k a)
complement-bit zero a k h l = absurd (not-suc-le-zero l)
complement-bit (suc n) a zero h l = lowest ((2 ^ suc n - 1) - a) ∙ go (a % 2) refl ∙ ap not (sym (lowest a))
  where
    twice : 2 ^ suc n ≡ 2 ^ n * 2
    twice = pow-suc 2 n

    go : (d : ℕ) → a % 2 ≡ d → eqb (((2 ^ suc n - 1) - a) % 2) 1 ≡ not (eqb d 1)
    go zero e = let o : ((2 ^ suc n - 1) - a) % 2 ≡ 1 = omega (arith, twice, h) in ap (λ (m : ℕ). eqb m 1) o
    go (suc zero) e = let o : ((2 ^ suc n - 1) - a) % 2 ≡ 0 = omega (arith, twice, h) in ap (λ (m : ℕ). eqb m 1) o
    go (suc (suc d)) e = absurd (omega arith)
complement-bit (suc n) a (suc k) h l =
    higher k ((2 ^ suc n - 1) - a) ∙ ap (bit k) half ∙ complement-bit n (a / 2) k (omega (arith, pow-suc 2 n)) (omega arith)
    ∙ ap not (sym (higher k a))
  where
    half : ((2 ^ suc n - 1) - a) / 2 ≡ (2 ^ n - 1) - a / 2
    half = omega (arith, pow-suc 2 n)
