-- Laws of fields: a number by its bytes, and zeros behind a list. One law over the width: a field of m + n bytes is its low m bytes and,
-- 256 ^ m times, the n bytes behind them. By induction on the list. Assumes nothing.
use mathlib.Core.Path.{◌≡◌, refl, sym, ap, ap₂, ◌∙◌, subst}
use mathlib.Core.Bool.{Bool, true, false, ◌&&◌}
use mathlib.Core.List.{List, [], ◌∷◌, ◌++◌}
use Prim.Native.Nat.{ℕ, zero, suc, ◌+◌, ◌-◌, ◌*◌, ◌^◌, ◌%◌, ◌<◌, ◌≤◌, min}
use native.Mathlib.Nat.{zero-add, suc-add, add_assoc, mul-add, mul_assoc, mul_comm, mul-zero, one-mul, pow-suc}
use native.Mathlib.Numerals.{add-one}
use native.Mathlib.Omega.{arith}
use lib.Dec.{leb}
use lib.ListN.{length, take, drop, get_or, replicate, drop_of_length-le, length-append, length-take, length-replicate}
use lib.Seq.{take-nil, drop-nil, drop-drop, drop-cons, get_or-take, ext_get_or, take_all}
use Rattle.std.specs.Int.{sum_through, byte_worth}
use Rattle.std.proofs.lemmas.List.Sums.{prefix_len-le-length}
use Rattle.base.specs.Lists.{part}
use Rattle.base.proofs.Lists.{part-rest}
use Rattle.fields.specs.Fields.{little_endian, field, padded, leading, graphic, zeros, is_name}

number-split : (m n : ℕ) (s : List ℕ)
    → little_endian (take (m + n) s) ≡ little_endian (take m s) + 256 ^ m * little_endian (take n (drop m s))
unfolding little_endian
number-split zero n s = rw (zero-add, one-mul, zero-add)
number-split (suc m) n [] = rw (suc-add, take-nil, mul-zero)
number-split (suc m) n (b ∷ bs) =
    rw (suc-add, number-split m n bs, pow-suc, mul-add, mul_comm (256 ^ m) 256, mul_assoc, add_assoc)

-- zeros behind a list change no byte of it that is read with 0 past the end
zero-tail : (bs : List ℕ) (n i : ℕ) → get_or (bs ++ replicate n 0) i 0 ≡ get_or bs i 0
zero-tail [] zero i = refl
zero-tail [] (suc n) zero = refl
zero-tail [] (suc n) (suc i) = zero-tail [] n i
zero-tail (b ∷ bs) n zero = refl
zero-tail (b ∷ bs) n (suc i) = zero-tail bs n i

-- the byte at an offset, as a number
byte-number : (at : ℕ) (bs : List ℕ) → little_endian (take 1 (drop at bs)) ≡ get_or bs at 0
unfolding little_endian
byte-number at [] = rw drop-nil
byte-number zero (b ∷ bs) = omega arith
byte-number (suc at) (b ∷ bs) = byte-number at bs

pub field-split : (m n at : ℕ) (r : List ℕ) → field (m + n) at r ≡ field m at r + 256 ^ m * field n (at + m) r
unfolding field
field-split m n at r = number-split m n (drop at r) ∙ rw drop-drop

-- a field of two halves, each read by itself
pub field-halves : (w at : ℕ) (r : List ℕ) (low high : ℕ) → low ≡ field w at r → high ≡ field w (at + w) r
    → low + 256 ^ w * high ≡ field (w + w) at r
field-halves w at r low high l h = rw (l, h) (sym (field-split w w at r))

pub field-byte : (at : ℕ) (r : List ℕ) → field 1 at r ≡ get_or r at 0
unfolding field
field-byte at r = byte-number at r

pub field_past : (w at : ℕ) (r : List ℕ) → length r ≤ at → 0 ≡ field w at r
unfolding field little_endian
field_past w at r h = rw (drop_of_length-le r h, take-nil)

-- the sum of the first bytes by their worth, each 256 times that of the one before, is their number
worth : (k : ℕ) (bs : List ℕ) → sum_through (λ i. byte_worth i (get_or bs i 0)) k ≡ little_endian (take (suc k) bs)
worth zero bs = sym (byte-number 0 bs)
worth (suc k) bs =
    ap₂ (λ (x y : ℕ). x + y) (worth k bs) (mul_comm (get_or bs (suc k) 0) (256 ^ suc k) ∙ ap (λ (y : ℕ). 256 ^ suc k * y) (sym (byte-number (suc k) bs)))
    ∙ sym (number-split (suc k) 1 bs) ∙ ap (λ (n : ℕ). little_endian (take n bs)) (add-one (suc k))

-- zeros behind a list do not change its number
no-number : (n m : ℕ) → little_endian (take n (replicate m 0)) ≡ 0
unfolding little_endian
no-number zero m = refl
no-number (suc n) zero = refl
no-number (suc n) (suc m) = rw (no-number n m)

tail-number : (n m : ℕ) (bs : List ℕ) → little_endian (take n (bs ++ replicate m 0)) ≡ little_endian (take n bs)
unfolding little_endian
tail-number n m [] = rw take-nil (no-number n m)
tail-number zero m (b ∷ bs) = refl
tail-number (suc n) m (b ∷ bs) = rw (tail-number n m bs)

-- a number is read from its bytes, with zeros where the record ends before them
pub number-read : (k at : ℕ) (r bs p : List ℕ) → p ≡ part at (suc k) r → bs ≡ padded (suc k) p
    → sum_through (λ i. byte_worth i (get_or bs i 0)) k ≡ field (suc k) at r
unfolding padded field
number-read k at r bs p e f =
    worth k bs ∙ ap (λ (l : List ℕ). little_endian (take (suc k) l)) f ∙ ap little_endian (again (p ++ replicate (suc k) 0)) ∙ tail-number (suc k) (suc k) p
    ∙ ap (λ (l : List ℕ). little_endian (take (suc k) l)) e ∙ ap little_endian (again (drop at r))
  where
    again : (l : List ℕ) → take (suc k) (take (suc k) l) ≡ take (suc k) l
    again l = take_all (suc k) (take (suc k) l) (omega (arith, length-take (suc k) l))

-- a list of n numbers is its first n bytes where it agrees with them at each place
pub padded-at : (n : ℕ) (bs xs : List ℕ) → length xs ≡ n → ((i : ℕ) → i < n → get_or xs i 0 ≡ get_or bs i 0) → xs ≡ padded n bs
unfolding padded
padded-at n bs xs l e =
    ext_get_or 0 xs (take n (bs ++ replicate n 0)) (l ∙ sym len) (λ i h. e i (bound i h) ∙ sym (get_or-take n (bs ++ replicate n 0) i 0 (bound i h) ∙ past i (bound i h)))
  where
    len : length (take n (bs ++ replicate n 0)) ≡ n
    len = simp (length-take, length-append, length-replicate) (omega arith)

    bound : (i : ℕ) → i < length xs → i < n
    bound i h = subst (λ (m : ℕ). i < m) l h

    past : (i : ℕ) → i < n → get_or (bs ++ replicate n 0) i 0 ≡ get_or bs i 0
    past i h = zero-tail bs n i

-- where a list has n elements, its first n are those without zeros behind it
pub padded-enough : (n : ℕ) (bs xs : List ℕ) → xs ≡ take n bs → n ≤ length bs → xs ≡ padded n bs
padded-enough n bs xs e h =
    padded-at n bs xs (ap length e ∙ length-take n bs ∙ few) (λ i l. ap (λ (ys : List ℕ). get_or ys i 0) e ∙ get_or-take n bs i 0 l)
  where
    few : min n (length bs) ≡ n
    few = omega arith

-- one turn of the walk over the bytes 0x21..0x7e at the start of a list, and its end
pub leading-more : (bs : List ℕ) (i : ℕ) → i < length bs → graphic (get_or bs i 0) ≡ true
    → i + leading (drop i bs) ≡ (i + 1) + leading (drop (i + 1) bs)
leading-more bs i h g = rw (add-one, drop-cons bs i 0, g) (omega arith)

pub leading-stop : (bs : List ℕ) (i : ℕ) → i < length bs → graphic (get_or bs i 0) ≡ false → i ≡ i + leading (drop i bs)
leading-stop bs i h g = rw (drop-cons bs i 0, g) (omega arith)

pub leading_end : (bs : List ℕ) (i : ℕ) → length bs ≤ i → i ≡ i + leading (drop i bs)
leading_end bs i h = rw (drop_of_length-le bs h) (omega arith)

-- at most all of a list's bytes stand at its start
pub leading_le : (bs : List ℕ) → leading bs ≤ length bs
leading_le bs = prefix_len-le-length graphic bs

-- a name, by the count of its bytes and what follows them
pub name-parts : (bs : List ℕ) (n : ℕ) (z : Bool) → n ≡ leading bs → z ≡ zeros (take (length bs - n) (drop n bs))
    → (leb 1 n && leb n 31 && z) ≡ is_name bs
unfolding is_name
name-parts bs n z e f = rw (f, part-rest, e)

-- a field of w bytes is below 256 ^ w
pub field_bound : (w at : ℕ) (r : List ℕ) → ((i : ℕ) → get_or r i 0 < 256) → field w at r < 256 ^ w
unfolding field little_endian
field_bound zero at r b = omega arith
field_bound (suc w) at r b =
    let one : field 1 at r < 256 = rw (field-byte at r) (b at) in
    let rest = field_bound w (at + 1) r b in
    let e : field (1 + w) at r ≡ field 1 at r + 256 * field w (at + 1) r = field-split 1 w at r in
    subst (λ (n : ℕ). field n at r < 256 ^ suc w) (sym (suc_one w)) (rw (e, pow-suc, mul_comm (256 ^ w) 256) (below (field 1 at r) (field w (at + 1) r) (256 ^ w) one rest))
  where
    suc_one : (n : ℕ) → suc n ≡ 1 + n
    suc_one n = omega arith

    below : (x y n : ℕ) → x < 256 → y < n → x + 256 * y < 256 * n
    below x y n h k = omega arith

-- where fewer than 8 bytes are left, the first and the rest
pub few-left : (at : ℕ) (r : List ℕ) (low high : ℕ) → ((i : ℕ) → get_or r i 0 < 256) → length r ≤ at + 8 → low ≡ get_or r at 0 → high ≡ field 8 (at + 1) r
    → low + 256 * (high % 256 ^ 7) ≡ field 8 at r
few-left at r low high b h l e =
    let first : field 8 at r ≡ field 1 at r + 256 * field 7 (at + 1) r = field-split 1 7 at r in
    let last : field 8 (at + 1) r ≡ field 7 (at + 1) r + 256 ^ 7 * field 1 ((at + 1) + 7) r = field-split 7 1 (at + 1) r in
    let past : length r ≤ (at + 1) + 7 = omega arith in
    let none : 0 ≡ field 1 ((at + 1) + 7) r = field_past 1 ((at + 1) + 7) r past in
    let bound : field 7 (at + 1) r < 256 ^ 7 = field_bound 7 (at + 1) r b in
    let byte : field 1 at r ≡ get_or r at 0 = field-byte at r in
    sum low high (field 1 at r) (field 7 (at + 1) r) (field 1 ((at + 1) + 7) r) (l ∙ sym byte) (e ∙ last) none bound ∙ sym first
  where
    sum : (low high x y z : ℕ) → low ≡ x → high ≡ y + 256 ^ 7 * z → 0 ≡ z → y < 256 ^ 7 → low + 256 * (high % 256 ^ 7) ≡ x + 256 * y
    sum low high x y z l h n b = omega arith
