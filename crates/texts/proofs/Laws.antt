-- Laws of lines: texts written one after the other, decimals digit by digit, and how long a line is. Assumes nothing.
use mathlib.Core.Path.{◌≡◌, refl, sym, ap, ◌∙◌}
use mathlib.Core.Bool.{Bool, true, false}
use mathlib.Core.List.{List, [], ◌∷◌, ◌++◌, append_assoc}
use Prim.Native.Nat.{ℕ, zero, suc, ◌+◌, ◌-◌, ◌/◌, ◌%◌, ◌^◌, ◌<◌, ◌≤◌, zero-le}
use native.Mathlib.Nat.{zero-add, suc-add, add-suc, add-zero}
use native.Mathlib.Omega.{arith}
use borrow.Author.Tests.{lt-ltb, le-ltb}
use lib.Dec.{ltb}
use lib.IntN.{ℤ, pos, negsuc, nat_abs}
use lib.Signed.{lt_z}
use lib.ListN.{length, take, drop, set, length-append}
use lib.Seq.{sets, length-sets, sets-eq}
use borrow.Rule.Slice.PartMut.{put_mid, post_of, Post-is}
use Rattle.machine_state.specs.declared.Answer.{Answer}
use Rattle.machine_state.specs.declared.Answer.TheVariants.{Code, Wait, Done, Off, Bad, Stopped, Held, Denied, Idle}
use Rattle.texts.specs.Texts.{decimal_in, decimal, signed, answer_text, answer_line, put_line, put_count}
use Rattle.texts.specs.Put.{Put, word_of, number_of}

-- a text written behind another is the two written at once
sets-append : (a b l : List ℕ) (i : ℕ) → sets (sets l i a) (i + length a) b ≡ sets l i (a ++ b)
sets-append [] b l i = rw add-zero
sets-append (v ∷ a) b l i = rw (add-suc, ← suc-add) (sets-append a b (set l i v) (suc i))

pub put_both : (a b : List ℕ) {at r s : ℕ} {l m n : List ℕ} → Put at a l r m → Put r b m s n → Put at (a ++ b) l s n
put_both a b {at} {r} {s} {l} p q = record {
  place = rw length-append (omega arith);
  bytes = q.bytes ∙ rw (p.place, p.bytes) (sets-append a b l at);
}

pub put_byte : (a : List ℕ) (v : ℕ) {at r : ℕ} {l m : List ℕ} → Put at a l r m → Put at (a ++ (v ∷ [])) l (r + 1) (set m r v)
put_byte a v p = put_both a (v ∷ []) p (record { place = refl; bytes = refl })

pub put-length : {a l m : List ℕ} {at r : ℕ} → Put at a l r m → length m ≡ length l
put-length {a} {l} {m} {at} p = ap length p.bytes ∙ length-sets l at a

-- the place behind a text, in a buffer with room for a line
pub room : (text : List ℕ) (k : ℕ) {r : ℕ} {l m : List ℕ} → Put 0 text l r m → length text + k ≤ 32 → 32 ≤ length l → r + k ≤ length m
room text k p h f = omega (arith, p.place, put-length p)

-- a text that is copied over a part of the buffer
pub put-copied : (text out : List ℕ) (at : ℕ) {new : List ℕ} → new ≡ text → at + length text ≤ length out
    → Put at text out (at + length text) (put_mid at (at + length text - at) out new)
put-copied text out at e h = record {
  place = refl;
  bytes = ap (λ (l : List ℕ). take at out ++ (l ++ post_of at (at + length text - at) out)) e
      ∙ ap (λ (l : List ℕ). take at out ++ (text ++ l)) (Post-is at (at + length text) out (omega arith))
      ∙ sym (append_assoc (take at out) text (drop (at + length text) out))
      ∙ sym (sets-eq text out at h);
}

-- a line at the start of a buffer that has room for it
pub line-put : (line : List ℕ) {l m : List ℕ} {r : ℕ} → length line ≤ 32 → 32 ≤ length l → Put 0 line l r m
    → (r ≡ put_count 32 line l) × (m ≡ put_line 32 line l)
unfolding put_line put_count
line-put line {l} s h p =
    rw (le-ltb (length l) 32 h, put_line, put_count)
    (p.place ∙ zero-add (length line), p.bytes ∙ sets-eq line l 0 (omega arith) ∙ ap (λ (n : ℕ). line ++ drop n l) (zero-add (length line)))

-- a buffer that has not
pub line_kept : (line l : List ℕ) → length l < 32 → (0 ≡ put_count 32 line l) × (l ≡ put_line 32 line l)
unfolding put_line put_count
line_kept line l h = rw (lt-ltb (length l) 32 h, put_line, put_count) (refl, refl)

-- one digit, and one digit more
digit : (n : ℕ) → n < 10 → decimal n ≡ (0x30 + n) ∷ []
unfolding decimal_in
digit n h = rw (lt-ltb n 10 h, decimal_in)

enough : (k n : ℕ) → n < 10 ^ suc k → decimal_in (suc k) n ≡ decimal_in (suc (suc k)) n
unfolding decimal_in
enough zero n h = rw (lt-ltb n 10 h, decimal_in)
enough (suc k) n h =
    ap (λ (l : List ℕ). elim (ltb n 10) as (λ x. List ℕ) [ true ↦ (0x30 + n) ∷ [] | false ↦ l ++ ((0x30 + n % 10) ∷ []) ])
    (enough k (n / 10) (omega arith))

digits : (n : ℕ) → 10 ≤ n → n < 2 ^ 64 → decimal n ≡ decimal (n / 10) ++ ((0x30 + n % 10) ∷ [])
unfolding decimal_in
digits n h f =
    let e : decimal_in 19 (n / 10) ≡ decimal (n / 10) = enough 18 (n / 10) (omega arith) in
    rw (← e, le-ltb n 10 h, decimal_in)

pub put-digit : (n at : ℕ) (l : List ℕ) → n < 10 → Put at (decimal n) l (at + 1) (set l at (0x30 + n))
put-digit n at l h = rw (digit n h) (record { place = refl; bytes = refl })

pub put-digits : (n : ℕ) {at r : ℕ} {l m : List ℕ} → 10 ≤ n → n < 2 ^ 64 → Put at (decimal (n / 10)) l r m
    → Put at (decimal n) l (r + 1) (set m r (0x30 + n % 10))
put-digits n h f p = rw (digits n h f) (put_byte (decimal (n / 10)) (0x30 + n % 10) p)

-- how long the texts are
short-in : (k n : ℕ) → length (decimal_in k n) ≤ k
unfolding decimal_in
short-in zero n = omega arith
short-in (suc k) n = by-test (ltb n 10) (short-in k (n / 10))
  where
    by-test : (t : Bool) → length (decimal_in k (n / 10)) ≤ k
        → length {A = ℕ} (elim t as (λ x. List ℕ) [ true ↦ (0x30 + n) ∷ [] | false ↦ decimal_in k (n / 10) ++ ((0x30 + n % 10) ∷ []) ]) ≤ suc k
    by-test true h = omega arith
    by-test false h = rw length-append (omega arith)

pub decimal-short : (n : ℕ) → length (decimal n) ≤ 20
decimal-short n = short-in 20 n

-- the digits of a number's tenth leave room for one more
pub tenth-short : (n : ℕ) → 10 ≤ n → n < 2 ^ 64 → length (decimal (n / 10)) < 20
tenth-short n h f =
    let l : length (decimal n) ≡ length (decimal (n / 10)) + 1 = rw (digits n h f) (length-append (decimal (n / 10)) ((0x30 + n % 10) ∷ [])) in
    omega (arith, decimal-short n)

pub signed-short : (z : ℤ) → length (signed z) ≤ 21
unfolding signed
signed-short (pos n) = omega (arith, decimal-short n)
signed-short (negsuc n) = omega (arith, decimal-short (suc n))

-- every line fits
pub answer-short : (a : Answer) → length (answer_line a) ≤ 32
unfolding answer_text
answer-short (Code code) = simp length-append (omega (arith, signed-short code))
answer-short (Wait cell) = simp length-append (omega (arith, decimal-short cell))
answer-short Done = omega arith
answer-short Off = omega arith
answer-short Bad = omega arith
answer-short Stopped = omega arith
answer-short Held = omega arith
answer-short Denied = omega arith
answer-short Idle = omega arith

-- a number below zero and any other, its size written in decimals; `y` is the number as it is read from its bits
signed_below : (z : ℤ) → lt_z z (pos 0) ≡ true → signed z ≡ 0x2d ∷ decimal (nat_abs z)
unfolding signed
signed_below (pos n) e = cc (le-ltb n 0 zero-le)
signed_below (negsuc n) e = refl

signed-from : (z : ℤ) → lt_z z (pos 0) ≡ false → signed z ≡ decimal (nat_abs z)
unfolding signed
signed-from (pos n) e = refl
signed-from (negsuc n) e = cc

pub put-below : {y z : ℤ} {n at r : ℕ} {l m : List ℕ} → y ≡ z → lt_z y (pos 0) ≡ true → n ≡ nat_abs y
    → Put (at + 1) (decimal n) (set l at 0x2d) r m → Put at (signed z) l r m
put-below {y} {n = n} b e s p =
    rw (← b, signed_below y e, ← s) (put_both (0x2d ∷ []) (decimal n) (record { place = refl; bytes = refl }) p)

pub put-from : {y z : ℤ} {n at r : ℕ} {l m : List ℕ} → y ≡ z → lt_z y (pos 0) ≡ false → n ≡ nat_abs y
    → Put at (decimal n) l r m → Put at (signed z) l r m
put-from {y} b e s p = rw (← b, signed-from y e, ← s) p

-- ---- a word, the number behind it and the line feed

-- an answer's text is its word and its number
pub answer-parts : (a : Answer) → word_of a ++ number_of a ≡ answer_text a
unfolding answer_text
answer-parts (Code code) = refl
answer-parts (Wait cell) = refl
answer-parts Done = refl
answer-parts Off = refl
answer-parts Bad = refl
answer-parts Stopped = refl
answer-parts Held = refl
answer-parts Denied = refl
answer-parts Idle = refl

pub word-short : (a : Answer) → length (word_of a) ≤ 7
unfolding answer_text
word-short (Code code) = omega arith
word-short (Wait cell) = omega arith
word-short Done = omega arith
word-short Off = omega arith
word-short Bad = omega arith
word-short Stopped = omega arith
word-short Held = omega arith
word-short Denied = omega arith
word-short Idle = omega arith

pub number-short : (a : Answer) → length (number_of a) ≤ 21
number-short (Code code) = signed-short code
number-short (Wait cell) = omega (arith, decimal-short cell)
number-short Done = omega arith
number-short Off = omega arith
number-short Bad = omega arith
number-short Stopped = omega arith
number-short Held = omega arith
number-short Denied = omega arith
number-short Idle = omega arith

pub line-short : (w : List ℕ) (a : Answer) → length w ≤ 7 → length ((w ++ number_of a) ++ (0x0a ∷ [])) ≤ 32
line-short w a h = rw (length-append (w ++ number_of a) (0x0a ∷ []), length-append w (number_of a)) (omega (arith, number-short a))

-- a text, and a line feed behind it: there is room for it, and the line is written
pub feed-room : (text : List ℕ) {l m : List ℕ} {r : ℕ} → length (text ++ (0x0a ∷ [])) ≤ 32 → 32 ≤ length l → Put 0 text l r m → r + 1 ≤ length m
feed-room text h f p = room text 1 p (rw (length-append text (0x0a ∷ [])) at h) f

pub fed-line : (text : List ℕ) {l m n : List ℕ} {r s : ℕ} → length (text ++ (0x0a ∷ [])) ≤ 32 → 32 ≤ length l → Put 0 text l r m → Put r (0x0a ∷ []) m s n
    → (s ≡ put_count 32 (text ++ (0x0a ∷ [])) l) × (n ≡ put_line 32 (text ++ (0x0a ∷ [])) l)
fed-line text h f p q = line-put (text ++ (0x0a ∷ [])) h f (put_both text (0x0a ∷ []) p q)

-- what was put lies inside the buffer
pub count_fits : (line l : List ℕ) → length line ≤ 32 → put_count 32 line l ≤ length (put_line 32 line l)
unfolding put_count put_line
count_fits line l h = by-room (ltb (length l) 32) refl
  where
    by-room : (t : Bool) → ltb (length l) 32 ≡ t → put_count 32 line l ≤ length (put_line 32 line l)
    by-room true e = rw (e, put_count, put_line) zero-le
    by-room false e = rw (e, put_count, put_line) (let n = length-append line (drop (length line) l) in omega arith)
