-- Laws of pairs: they are pairs where their number is even and each is a digit, and the byte at a place is made of the two digits there.
-- By induction, two digits at a time. Assumes nothing.
use mathlib.Core.Path.{◌≡◌, refl, sym, ap, ◌∙◌}
use mathlib.Core.Bool.{not, and-false, Bool, true, false, ◌&&◌}
use mathlib.Core.Logic.{◌⊎◌, inl, inr, ⊎_elim}
use mathlib.Core.List.{List, [], ◌∷◌, ◌++◌}
use Prim.Native.Nat.{ℕ, zero, suc, ◌+◌, ◌-◌, ◌*◌, ◌/◌, ◌%◌, ◌<◌, ◌≤◌}
use native.Mathlib.Nat.{not-suc-le-zero, le_of_suc-le-suc}
use native.Mathlib.Numerals.{add-one}
use native.Mathlib.Omega.{arith}
use borrow.Author.Tests.{lt-leb, le-leb, eq-eqb, ne_eqb}
use lib.Dec.{T, leb, eqb, leb→le}
use lib.ListN.{length, take, drop, get_or, set}
use Rattle.base.specs.Lists.{all}
use Rattle.base.proofs.Tests.{is_true, holds, and_left, and_right, or_cases}
use Rattle.lines.specs.Lines.{is_digit, is_letter, is_hex_digit, hex_digit, is_pairs, is_hex, bytes_of}

turned : (x y e r : Bool) → (x && y && (e && r)) ≡ (e && (x && (y && r)))
turned true true e r = refl
turned true false true r = refl
turned true false false r = refl
turned false y true r = refl
turned false y false r = refl

pairs-all : (w : List ℕ) → is_pairs w ≡ (eqb (length w % 2) 0 && all is_hex_digit w)
unfolding is_pairs
pairs-all [] = refl
pairs-all (a ∷ []) = refl
pairs-all (a ∷ b ∷ bs) =
    rw (pairs-all bs, even) (turned (is_hex_digit a) (is_hex_digit b) (eqb (length bs % 2) 0) (all is_hex_digit bs))
  where
    even : suc (suc (length bs)) % 2 ≡ length bs % 2
    even = omega arith

-- the test of HEX: an even number of digits, and some
pub odd-pairs : (w : List ℕ) → length w % 2 ≡ 1 → false ≡ is_hex w
unfolding is_hex
odd-pairs w h = rw (pairs-all w, ne_eqb (length w % 2) 0 (λ q. omega arith)) (sym (and-false (leb 1 (length w))))

pub even-pairs : (w : List ℕ) → (length w % 2 ≡ 1 → ⊥) → (not (eqb (length w) 0) && all is_hex_digit w) ≡ is_hex w
unfolding is_hex is_pairs
even-pairs [] h = refl
even-pairs (a ∷ w) h =
    rw (ne_eqb (suc (length w)) 0 (λ q. omega arith), le-leb 1 (suc (length w)) (omega arith), pairs-all (a ∷ w), eq-eqb (suc (length w) % 2) 0 (omega arith))

-- a digit is one of 0 to 9 or one of a to f
module _ (b : ℕ) (e : is_hex_digit b ≡ true) where
  digit-cases : ((0x30 ≤ b) × (b ≤ 0x39)) ⊎ ((0x61 ≤ b) × (b ≤ 0x66))
  digit-cases = ⊎_elim (λ t. inl (both 0x30 0x39 t)) (λ t. inr (both 0x61 0x66 t)) (or_cases (is_digit b) (is_letter b) (holds e))
    where
      both : (l h : ℕ) → T (leb l b && leb b h) → (l ≤ b) × (b ≤ h)
      both l h t = (leb→le l b (and_left (leb l b) (leb b h) t), leb→le b h (and_right (leb l b) (leb b h) t))

  pub low_digit : b ≤ 0x39 → (0x30 ≤ b) × (b - 0x30 ≡ hex_digit b) × (b - 0x30 < 16)
  unfolding hex_digit
  low_digit h = (from, rw (le-leb 0x30 b from, le-leb b 0x39 h, hex_digit), omega arith)
    where
      from : 0x30 ≤ b
      from = ⊎_elim (λ t. t.0) (λ t. omega arith) digit-cases

  pub high_digit : 0x39 < b → (0x57 ≤ b) × (b - 0x57 ≡ hex_digit b) × (b - 0x57 < 16)
  unfolding hex_digit
  high_digit h = (omega (arith, letter), rw (le-leb 0x30 b (omega arith), lt-leb b 0x39 h, hex_digit), omega (arith, letter))
    where
      letter : (0x61 ≤ b) × (b ≤ 0x66)
      letter = ⊎_elim (λ t. omega arith) (λ t. t) digit-cases

all-at : (p : ℕ → Bool) (xs : List ℕ) (i : ℕ) → T (all p xs) → i < length xs → T (p (get_or xs i 0))
all-at p [] i t h = absurd (not-suc-le-zero h)
all-at p (x ∷ xs) zero t h = and_left (p x) (all p xs) t
all-at p (x ∷ xs) (suc i) t h = all-at p xs i (and_right (p x) (all p xs) t) (le_of_suc-le-suc h)

all_digits : (w : List ℕ) → is_pairs w ≡ true → T (all is_hex_digit w)
all_digits w e = and_right (eqb (length w % 2) 0) (all is_hex_digit w) (holds (sym (pairs-all w) ∙ e))

pub digit_at : (w : List ℕ) (i : ℕ) → is_pairs w ≡ true → i < length w → is_hex_digit (get_or w i 0) ≡ true
digit_at w i e h = is_true _ (all-at is_hex_digit w i (all_digits w e) h)

pub length-bytes : (w : List ℕ) → length (bytes_of w) ≡ length w / 2
unfolding bytes_of
length-bytes [] = refl
length-bytes (a ∷ []) = refl
length-bytes (a ∷ b ∷ bs) = rw (length-bytes bs) (omega arith)

-- the byte at a place
byte_at : (w : List ℕ) (n : ℕ) → 2 * n + 1 < length w
    → 16 * hex_digit (get_or w (2 * n) 0) + hex_digit (get_or w (2 * n + 1) 0) ≡ get_or (bytes_of w) n 0
unfolding bytes_of
byte_at [] n h = absurd (not-suc-le-zero h)
byte_at (a ∷ []) n h = absurd (not-suc-le-zero (rw add-one at (le_of_suc-le-suc h)))
byte_at (a ∷ b ∷ bs) zero h = refl
byte_at (a ∷ b ∷ bs) (suc n) h = rw (one, two) (byte_at bs n (omega arith))
  where
    one : 2 * suc n ≡ suc (suc (2 * n))
    one = omega arith

    two : suc (suc (2 * n)) + 1 ≡ suc (suc (2 * n + 1))
    two = omega arith

-- one turn of a walk that writes a list over another
store : (xs ys : List ℕ) (i : ℕ) → i < length xs → i < length ys
    → set (take i xs ++ drop i ys) i (get_or xs i 0) ≡ take (suc i) xs ++ drop (suc i) ys
store [] ys i h k = absurd (not-suc-le-zero h)
store (x ∷ xs) [] i h k = absurd (not-suc-le-zero k)
store (x ∷ xs) (y ∷ ys) zero h k = refl
store (x ∷ xs) (y ∷ ys) (suc i) h k = ap (λ (l : List ℕ). x ∷ l) (store xs ys i (le_of_suc-le-suc h) (le_of_suc-le-suc k))

pub byte-stored : (w ys out : List ℕ) (n high low : ℕ) → 2 * n + 1 < length w → n < length ys
    → high ≡ hex_digit (get_or w (2 * n) 0) → low ≡ hex_digit (get_or w (2 * n + 1) 0) → out ≡ take n (bytes_of w) ++ drop n ys
    → set out n (16 * high + low) ≡ take (n + 1) (bytes_of w) ++ drop (n + 1) ys
byte-stored w ys out n high low h k e f q =
    rw (q, e, f, byte_at w n h, add-one n) (store (bytes_of w) ys n (omega (arith, length-bytes w)) k)
