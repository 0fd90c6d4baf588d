-- Laws of lines for the layers above: a record has at most half as many bytes as a line; and past the first byte behind the longest line nothing
-- matters, since a longer one is malformed. Assumes nothing.
use mathlib.Core.Path.{◌≡◌, refl, sym, ap, ◌∙◌}
use mathlib.Core.Bool.{Bool, true, false}
use mathlib.Core.Logic.{⊎_elim}
use mathlib.Core.List.{List, [], ◌∷◌}
use Prim.Native.Nat.{ℕ, suc, ◌+◌, ◌<◌, ◌≤◌}
use native.Mathlib.Omega.{arith}
use borrow.Author.Tests.{lt-leb, leb-true}
use lib.Dec.{leb, eqb}
use lib.ListN.{length, take, length-take}
use lib.Seq.{take_all}
use Rattle.base.proofs.Tests.{le-or-lt}
use Rattle.machine_state.specs.declared.Event.TheVariants.{Malformed}
use Rattle.lines.specs.Lines.{max_line, max_record, space, into_first, line_words, is_create, event_of, record_of, line_event, line_record}
use Rattle.lines.specs.Reading.{hex_word, line_hex}
use Rattle.lines.proofs.PairLaws.{length-bytes}
use Rattle.lines.proofs.RecordLaws.{hex-record}

-- ---- the length of a record

abbrev total : List (List ℕ) → ℕ
total [] = 0
total (w ∷ ws) = length w + total ws

longer : (b : ℕ) (ws : List (List ℕ)) → total (into_first b ws) ≤ suc (total ws)
unfolding into_first
longer b [] = omega arith
longer b (w ∷ ws) = omega arith

words-total : (s : List ℕ) → total (line_words s) ≤ length s
unfolding line_words
words-total [] = omega arith
words-total (b ∷ bs) = by-test (eqb b space) (words-total bs)
  where
    by-test : (t : Bool) → total (line_words bs) ≤ length bs
        → total (elim t as (λ x. List (List ℕ)) [ true ↦ [] ∷ line_words bs | false ↦ into_first b (line_words bs) ]) ≤ suc (length bs)
    by-test true h = omega arith
    by-test false h = omega (arith, longer b (line_words bs))

hex-total : (ws : List (List ℕ)) → length (hex_word ws) ≤ total ws
unfolding hex_word
hex-total [] = omega arith
hex-total (w ∷ []) = omega arith
hex-total (w ∷ a ∷ []) = omega arith
hex-total (w ∷ a ∷ b ∷ []) = by-test (is_create w a b)
  where
    by-test : (t : Bool) → length {A = ℕ} (elim t as (λ x. List ℕ) [ true ↦ b | false ↦ [] ]) ≤ length w + (length a + (length b + 0))
    by-test true = omega arith
    by-test false = omega arith
hex-total (w ∷ a ∷ b ∷ c ∷ ws) = omega arith

hex-short : (line : List ℕ) → length (line_hex line) ≤ max_line
unfolding line_hex
hex-short line = by-test (leb (length line) max_line) refl
  where
    by-test : (t : Bool) → leb (length line) max_line ≡ t
        → length {A = ℕ} (elim t as (λ x. List ℕ) [ true ↦ hex_word (line_words line) | false ↦ [] ]) ≤ max_line
    by-test true e = omega (arith, hex-total (line_words line), words-total line, leb-true (length line) max_line e)
    by-test false e = omega arith

pub record-short : (line : List ℕ) → length (line_record line) ≤ max_record
record-short line = rw (sym (hex-record line (line_hex line) refl), length-bytes (line_hex line)) (omega (arith, hex-short line))

-- ---- what stands past the longest line

module _ {A : Type 0} (f : List ℕ → A) (z : A) where
  abbrev unless_long : List ℕ → A
  unless_long line = elim (leb (length line) max_line) [ true ↦ f line | false ↦ z ]

  past : (line : List ℕ) → max_line < length line → unless_long line ≡ z
  past line h = rw (lt-leb (length line) max_line h, unless_long)

  cut : (line : List ℕ) → unless_long (take (suc max_line) line) ≡ unless_long line
  cut line = ⊎_elim short long (le-or-lt (length line) max_line)
    where
      short : length line ≤ max_line → unless_long (take (suc max_line) line) ≡ unless_long line
      short h = ap unless_long (take_all (suc max_line) line (omega arith))

      long : max_line < length line → unless_long (take (suc max_line) line) ≡ unless_long line
      long h = past (take (suc max_line) line) (omega (arith, length-take (suc max_line) line)) ∙ sym (past line h)

pub event-cut : (line : List ℕ) → line_event (take (suc max_line) line) ≡ line_event line
unfolding line_event
event-cut line = cut (λ l. event_of (line_words l)) Malformed line

pub record-cut : (line : List ℕ) → line_record (take (suc max_line) line) ≡ line_record line
unfolding line_record
record-cut line = cut (λ l. record_of (line_words l)) [] line
