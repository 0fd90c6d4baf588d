-- Laws of numbers: the digits are read from the left, and what is no digit, or makes 2 ^ 64 or more, ends the reading for good.
-- Assumes nothing.
use mathlib.Core.Path.{◌≡◌, refl, sym, ap, ◌∙◌}
use mathlib.Core.Bool.{Bool, true, false, ◌&&◌, and-false, and-true, false≢true}
use mathlib.Core.List.{List, [], ◌∷◌}
use Prim.Native.Nat.{ℕ, suc, ◌+◌, ◌-◌, ◌*◌, ◌^◌, ◌<◌, ◌≤◌}
use native.Mathlib.Nat.{le_trans, le_refl}
use native.Mathlib.Numerals.{add-one}
use native.Mathlib.Omega.{arith}
use borrow.Author.Tests.{lt-ltb, le-ltb, ltb-false, eqb-true}
use lib.Dec.{ltb, eqb, ltb→lt}
use lib.ListN.{length, get_or, drop, drop_of_length-le}
use lib.Seq.{drop-cons}
use Rattle.base.specs.Lists.{all}
use Rattle.base.proofs.Tests.{is_true, holds, and_left, and_right}
use Rattle.lines.specs.Lines.{is_digit, value_from, value, is_decimal, is_number}
use Rattle.lines.specs.Reading.{number_if, word_number, with_digit, with_digits}
use Rattle.std.specs.declared.option.Option.{Option}
use Rattle.std.specs.Prelude.{Some, None, SomeIff, Result, Ok, Err}
use Rattle.std.specs.Result.{OkIff, result_ok}

-- a number that is there, and none
no_number : (ok : Bool) (n : ℕ) → ok ≡ false → None ≡ number_if ok n
no_number ok n e = rw e

some_number : (ok : Bool) (n : ℕ) → ok ≡ true → Some n ≡ number_if ok n
some_number ok n e = rw e

is-none : (ok : Bool) (n : ℕ) → None ≡ number_if ok n → ok ≡ false
is-none true n e = cc
is-none false n e = refl

is-some : (ok : Bool) (n v : ℕ) → Some v ≡ number_if ok n → (ok ≡ true) × (v ≡ n)
is-some true n v e = (refl, cc)
is-some false n v e = cc

-- a word that was read: it is a number, and which; or it is none
pub number-told : (bits : ℕ) (w : List ℕ) {o : Option ℕ} (v : ℕ) → o ≡ word_number bits w → o ≡ Some v → (is_number bits w ≡ true) × (v ≡ value w)
unfolding word_number
number-told bits w v e q = is-some (is_number bits w) (value w) v (sym q ∙ e)

pub none-told : (bits : ℕ) (w : List ℕ) {o : Option ℕ} → o ≡ word_number bits w → o ≡ None → is_number bits w ≡ false
unfolding word_number
none-told bits w e q = is-none (is_number bits w) (value w) (sym q ∙ e)

-- ---- one digit more

abbrev next : ℕ → ℕ → ℕ
next n b = 10 * n + (b - 0x30)

pub no-digit : (n b : ℕ) → is_digit b ≡ false → None ≡ with_digit n b
unfolding with_digit
no-digit n b e = no_number _ _ (rw e)

pub too_large : (n b : ℕ) → is_digit b ≡ true → 2 ^ 64 ≤ next n b → None ≡ with_digit n b
unfolding with_digit
too_large n b e l = no_number _ _ (rw (e, le-ltb _ _ l))

pub one_more : (n b : ℕ) → is_digit b ≡ true → next n b < 2 ^ 64 → Some (next n b) ≡ with_digit n b
unfolding with_digit
one_more n b e l = some_number _ _ (rw (e, lt-ltb _ _ l))

-- a digit that is added where the sum stays below 2 ^ 64
pub added : (n b k d : ℕ) (r : Option ℕ) → is_digit b ≡ true → k ≡ n * 10 → d ≡ b - 0x30 → SomeIff r (k + d < 2 ^ 64) (k + d) → r ≡ with_digit n b
added n b k d None e p q s = too_large n b e (omega arith)
added n b k d (Some v) e p q s =
    let sum : v ≡ next n b = omega (arith, s) in
    ap Some sum ∙ one_more n b e (omega (arith, s))

-- ---- the digits of a word

value_grows : (n : ℕ) (bs : List ℕ) → n ≤ value_from n bs
unfolding value_from
value_grows n [] = le_refl n
value_grows n (b ∷ bs) = le_trans h (value_grows (next n b) bs)
  where
    h : n ≤ next n b
    h = omega arith

digit-passed : (n b : ℕ) (bs : List ℕ) → is_digit b ≡ true → with_digits (next n b) bs ≡ with_digits n (b ∷ bs)
unfolding with_digits value_from
digit-passed n b bs e = rw e

digit-refused : (n b : ℕ) (bs : List ℕ) (t : Bool) → is_digit b ≡ t → (t && ltb (next n b) (2 ^ 64)) ≡ false → None ≡ with_digits n (b ∷ bs)
unfolding with_digits value_from
digit-refused n b bs false e f = no_number _ _ (rw e)
digit-refused n b bs true e f =
    no_number _ _
    (rw (le-ltb _ _ (le_trans (ltb-false (next n b) (2 ^ 64) f) (value_grows (next n b) bs))) (and-false (is_digit b && all is_digit bs)))

-- one turn of the walk over the digits
module _ (w : List ℕ) (n i : ℕ) (h : i < length w) where
  pub digits-stop : None ≡ with_digit n (get_or w i 0) → None ≡ with_digits n (drop i w)
  unfolding with_digit
  digits-stop e = rw (drop-cons w i 0 h) (digit-refused n (get_or w i 0) (drop (suc i) w) (is_digit (get_or w i 0)) refl (is-none _ _ e))

  pub digits-turn : (v : ℕ) → Some v ≡ with_digit n (get_or w i 0) → (v < 2 ^ 64) × (with_digits v (drop (i + 1) w) ≡ with_digits n (drop i w))
  unfolding with_digit
  digits-turn v e =
      let ok = is-some (is_digit (get_or w i 0) && ltb (next n (get_or w i 0)) (2 ^ 64)) (next n (get_or w i 0)) v e in (
        rw ok.1 (ltb→lt _ _ (and_right (is_digit (get_or w i 0)) (ltb (next n (get_or w i 0)) (2 ^ 64)) (holds ok.0))),
        rw (ok.1, add-one, drop-cons w i 0 h)
            (digit-passed n (get_or w i 0) (drop (suc i) w) (is_true _ (and_left (is_digit (get_or w i 0)) (ltb (next n (get_or w i 0)) (2 ^ 64)) (holds ok.0)))),
      )

pub digits-end : (w : List ℕ) (n i : ℕ) → length w ≤ i → n < 2 ^ 64 → Some n ≡ with_digits n (drop i w)
unfolding with_digits value_from
digits-end w n i h l = rw (drop_of_length-le w h) (some_number _ _ (lt-ltb _ _ l))

-- ---- a word

pub no-digits : (bits : ℕ) (w : List ℕ) → eqb (length w) 0 ≡ true → None ≡ word_number bits w
unfolding word_number is_number is_decimal
no-digits bits [] h = refl
no-digits bits (b ∷ bs) h = absurd (omega (arith, eqb-true (suc (length bs)) 0 h))

pub zero-first : (bits : ℕ) (w : List ℕ) → (eqb (get_or w 0 0) 0x30 && ltb 1 (length w)) ≡ true → None ≡ word_number bits w
unfolding word_number is_number is_decimal
zero-first bits [] e = refl
zero-first bits (b ∷ []) e = absurd (false≢true (sym (and-false (eqb b 0x30)) ∙ e))
zero-first bits (b ∷ c ∷ bs) e =
    no_number _ _ (rw (is_true (eqb b 0x30) (and_left (eqb b 0x30) (ltb 1 (suc (suc (length bs)))) (holds e)), and-false (is_digit b)))

pub all_digits : (w : List ℕ) → eqb (length w) 0 ≡ false → (eqb (get_or w 0 0) 0x30 && ltb 1 (length w)) ≡ false → with_digits 0 w ≡ word_number 64 w
unfolding word_number is_number is_decimal with_digits
all_digits [] h e = absurd (false≢true (sym h))
all_digits (b ∷ []) h e = rw (and-true (is_digit b))
all_digits (b ∷ c ∷ bs) h e = rw (not-zero, and-true (is_digit b))
  where
    not-zero : eqb b 0x30 ≡ false
    not-zero = sym (and-true (eqb b 0x30)) ∙ ap (λ (t : Bool). eqb b 0x30 && t) (sym (lt-ltb 1 (suc (suc (length bs))) (omega arith))) ∙ e

-- ---- a number of 64 bits as one of 32

pub wide : (w : List ℕ) → is_number 64 w ≡ false → is_number 32 w ≡ false
unfolding is_number
wide w e = by-test (is_decimal w) e
  where
    by-test : (d : Bool) → (d && ltb (value w) (2 ^ 64)) ≡ false → (d && ltb (value w) (2 ^ 32)) ≡ false
    by-test false f = refl
    by-test true f = le-ltb (value w) (2 ^ 32) (omega (arith, ltb-false (value w) (2 ^ 64) f))

pub none-32 : (w : List ℕ) → None ≡ word_number 64 w → None ≡ word_number 32 w
unfolding word_number
none-32 w e = no_number (is_number 32 w) (value w) (wide w (is-none (is_number 64 w) (value w) e))

pub large-32 : (w : List ℕ) (v : ℕ) → Some v ≡ word_number 64 w → 2 ^ 32 ≤ v → None ≡ word_number 32 w
unfolding word_number is_number
large-32 w v e h =
    let ok = is-some (is_number 64 w) (value w) v e in
    no_number _ _ (rw (le-ltb (value w) (2 ^ 32) (rw ok.1 at h)) (and-false (is_decimal w)))

pub small-32 : (w : List ℕ) (v : ℕ) → Some v ≡ word_number 64 w → v < 2 ^ 32 → Some v ≡ word_number 32 w
unfolding word_number is_number
small-32 w v e h =
    let ok = is-some (is_number 64 w) (value w) v e in
    let d : is_decimal w ≡ true = is_true (is_decimal w) (and_left (is_decimal w) (ltb (value w) (2 ^ 64)) (holds ok.0)) in
    let l : ltb (value w) (2 ^ 32) ≡ true = lt-ltb (value w) (2 ^ 32) (rw ok.1 at h) in
    rw (ok.1) (some_number (is_decimal w && ltb (value w) (2 ^ 32)) (value w) (rw (d, l)))

-- what a narrowing of a number of 64 bits gives
pub narrowed : {E : Type 0} (w : List ℕ) (v : ℕ) (r : Result ℕ E) → Some v ≡ word_number 64 w → OkIff r (v < 2 ^ 32) v → result_ok r ≡ word_number 32 w
narrowed w v (Ok x) e s = ap Some s.1 ∙ small-32 w v e s.0
narrowed w v (Err x) e s = large-32 w v e (omega (arith, s))
