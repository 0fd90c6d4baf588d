-- The buffers of a run: bytes put behind a line as far as they fit, a record put to the start of its buffer, an answer's line put behind what
-- is written, and the sums that keep the run's places inside. Assumes nothing.
use mathlib.Core.Path.{◌≡◌, refl, sym, ap, ◌∙◌}
use mathlib.Core.Bool.{Bool, true, false}
use mathlib.Core.Logic.{◌⊎◌, inl, inr}
use mathlib.Core.List.{List, [], ◌++◌}
use Prim.Native.Nat.{ℕ, ◌+◌, ◌-◌, ◌^◌, ◌≤◌, ◌<◌, min}
use native.Mathlib.Nat.{}
use mathlib.Core.List.{append-nil}
use native.Mathlib.Omega.{arith}
use lib.Dec.{ltb}
use lib.ListN.{length, take, drop, drop_of_length-le, length-take, length-drop, length-append}
use lib.Seq.{take_all, take-length, take-append-add, length-take-le, take_at, drop_at, drop-append-add, drop-drop}
use borrow.Author.Tests.{le-ltb}
use Rattle.base.proofs.Tests.{le-or-lt}
use Rattle.lines.specs.Lines.{max_record, line_record}
use Rattle.lines.proofs.Laws.{record-short}
use Rattle.machine_state.specs.declared.Answer.{Answer}
use Rattle.texts.specs.Texts.{answer_line, put_line, put_count}
use Rattle.texts.proofs.Laws.{answer-short}
use Rattle.replay_log.specs.Feed.{kept_bytes}

-- bytes put behind a line as far as they fit
take_min : (k : ℕ) (s : List ℕ) → take (min k (length s)) s ≡ take k s
take_min k s = by_size (le-or-lt k (length s))
  where
    by_size : (k ≤ length s) ⊎ (length s < k) → take (min k (length s)) s ≡ take k s
    by_size (inl h) = let e : min k (length s) ≡ k = omega arith in ap (λ (n : ℕ). take n s) e
    by_size (inr h) =
        let e : min k (length s) ≡ length s = omega arith in
        let low : length s ≤ k = omega arith in
        ap (λ (n : ℕ). take n s) e ∙ take-length s ∙ sym (take_all k s low)

pub min-fits : (size at n given : ℕ) → at ≤ size → n ≡ min (size - at) given → (at + n ≤ size) × (n ≤ given)
min-fits size at n given h e = (omega arith, omega arith)

pub appended : (d : List ℕ) (at n : ℕ) (s : List ℕ) → at ≤ length d → n ≡ min (length d - at) (length s)
    → take at d ++ take n s ≡ take (length d) (take at d ++ s)
appended d at n s h e =
    let room : at + (length d - at) ≡ length d = omega arith in
    ap (λ (k : ℕ). take at d ++ take k s) e ∙ ap (λ (r : List ℕ). take at d ++ r) (take_min (length d - at) s)
    ∙ sym (take-append-add (take at d) s (length d - at))
    ∙ ap (λ (k : ℕ). take k (take at d ++ s)) (ap (λ (k : ℕ). k + (length d - at)) (length-take-le at d h) ∙ room)

-- a record put to the start of a buffer of as many bytes as the longest has: all of it fits
module _ (line buffer after : List ℕ) (n : ℕ) (size : length buffer ≡ max_record) (is_count : n ≡ min (length (line_record line)) (length buffer))
    (is_after : after ≡ take n (line_record line) ++ drop n buffer) where
  whole : n ≡ length (line_record line)
  whole = let short = record-short line in omega arith

  pub record-inside : n ≤ length buffer
  record-inside = let short = record-short line in omega arith

  front : take n (line_record line) ≡ line_record line
  front = take_all n (line_record line) (let e = whole in omega arith)

  pub record-read : take n after ≡ line_record line
  record-read =
      ap (take n) (is_after ∙ ap (λ (r : List ℕ). r ++ drop n buffer) front) ∙ take_at (line_record line) (drop n buffer) n (sym whole)

-- an answer's line put behind what is written, where there is room for it
module _ (answer : Answer) (out after : List ℕ) (w n : ℕ) (is_room : 32 ≤ length out - w)
    (is_count : n ≡ put_count 32 (answer_line answer) (take (length out - w) (drop w out)))
    (is_after : after ≡ put_line 32 (answer_line answer) (take (length out - w) (drop w out))) where
  -- the whole rest of the buffer is lent
  lent : take (length out - w) (drop w out) ≡ drop w out
  lent = take_all (length out - w) (drop w out) (let e = length-drop w out in omega arith)

  enough : ltb (length (drop w out)) 32 ≡ false
  enough = le-ltb (length (drop w out)) 32 (let e = length-drop w out in omega arith)

  pub put_count_lem : n ≡ length (answer_line answer)
  unfolding put_count
  put_count_lem = is_count ∙ ap (put_count 32 (answer_line answer)) lent ∙ rw (enough, put_count)

  pub put-after : after ≡ answer_line answer ++ drop (length (answer_line answer)) (drop w out)
  unfolding put_line
  put-after = is_after ∙ ap (put_line 32 (answer_line answer)) lent ∙ rw (enough, put_line)

  -- the buffer after the loan
  module _ (out' : List ℕ) (is_back : out' ≡ take w out ++ (after ++ drop (length out - w) (drop w out))) where
    rest : List ℕ
    rest = drop (length (answer_line answer)) (drop w out)

    back : out' ≡ take w out ++ (answer_line answer ++ rest)
    unfolding rest
    back =
        let all : length (drop w out) ≤ length out - w = (let e = length-drop w out in omega arith) in
        is_back ∙ ap (λ (r : List ℕ). take w out ++ (after ++ r)) (drop_of_length-le (drop w out) all)
        ∙ ap (λ (r : List ℕ). take w out ++ r) (append-nil after ∙ put-after)

    pub put-inside : w + n ≤ length out
    put-inside =
        let e = put_count_lem in
        let h = answer-short answer in
        omega arith

    low : w ≤ length out
    low = let e = put-inside in omega arith

    pub put-text : take (w + n) out' ≡ take w out ++ answer_line answer
    put-text =
        ap (take (w + n)) back ∙ ap (λ (k : ℕ). take (k + n) (take w out ++ (answer_line answer ++ rest))) (sym (length-take-le w out low))
        ∙ take-append-add (take w out) (answer_line answer ++ rest) n
        ∙ ap (λ (r : List ℕ). take w out ++ r) (take_at (answer_line answer) rest n (sym put_count_lem))

    pub put_rest : drop (w + n) out' ≡ drop (w + n) out
    unfolding rest
    put_rest =
        ap (drop (w + n)) back ∙ ap (λ (k : ℕ). drop (k + n) (take w out ++ (answer_line answer ++ rest))) (sym (length-take-le w out low))
        ∙ drop-append-add (take w out) (answer_line answer ++ rest) n ∙ drop_at (answer_line answer) rest n (sym put_count_lem)
        ∙ drop-drop (length (answer_line answer)) w out ∙ ap (λ (k : ℕ). drop (w + k) out) (sym put_count_lem)

    pub put-size : length out' ≡ length out
    unfolding rest
    put-size =
        let sum = length-append (take w out) (answer_line answer ++ rest) in
        let inner = length-append (answer_line answer) rest in
        let first = length-take-le w out low in
        let last = length-drop (length (answer_line answer)) (drop w out) in
        let before = length-drop w out in
        let inside = put-inside in
        let count = put_count_lem in
        ap length back ∙ sum
        ∙ sizes (length (take w out)) (length (answer_line answer ++ rest)) (length (answer_line answer)) (length rest) (length (drop w out)) (length out) n first inner last before inside count
      where
        sizes : (a b c d f total n : ℕ) → a ≡ w → b ≡ c + d → d ≡ f - c → f ≡ total - w → w + n ≤ total → n ≡ c → a + b ≡ total
        sizes a b c d f total n ea eb ed ef h en = omega arith

-- the first bytes of a line, where the count was cut to what is kept
pub kept-bytes : (line : List ℕ) (len n : ℕ) → length line ≡ kept_bytes → n ≡ min len kept_bytes → take n line ≡ take len line
kept-bytes line len n size e = ap (λ (k : ℕ). take k line) (e ∙ ap (min len) (sym size)) ∙ take_min len line

-- what is kept of a line is short
pub begun-short : (line : List ℕ) (len : ℕ) → len ≤ kept_bytes → length (take len line) ≤ kept_bytes
begun-short line len h = let e = length-take len line in omega arith

-- a line that ends leaves its line feed behind
pub next-inside : (end given : ℕ) → end < given → end + 1 ≤ given
next-inside end given h = omega arith

pub sum_fits : (w n size : ℕ) → w + n ≤ size → size < 2 ^ 64 → w + n < 2 ^ 64
sum_fits w n size h f = omega arith

-- what lies behind a place lies behind a later one
pub drop-further : (out out₀ : List ℕ) (w n : ℕ) → drop w out ≡ drop w out₀ → drop (w + n) out ≡ drop (w + n) out₀
drop-further out out₀ w n e = sym (drop-drop n w out) ∙ ap (drop n) e ∙ drop-drop n w out₀

-- nothing put is nothing changed
pub put-none : (out : List ℕ) → (0 ≡ put_count 32 [] out) × (out ≡ put_line 32 [] out)
unfolding put_count put_line
put-none out = by-room (ltb (length out) 32) refl
  where
    by-room : (t : Bool) → ltb (length out) 32 ≡ t → (0 ≡ put_count 32 [] out) × (out ≡ put_line 32 [] out)
    by-room true e = (rw (e, put_count), rw (e, put_line))
    by-room false e = (rw (e, put_count), rw (e, put_line))
