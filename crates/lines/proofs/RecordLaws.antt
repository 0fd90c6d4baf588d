-- Laws of records: the HEX of a line's words, and the bytes that it makes. Assumes nothing.
use mathlib.Core.Path.{◌≡◌, refl, sym, ap, ◌∙◌}
use mathlib.Core.Bool.{Bool, true, false, ◌&&◌}
use mathlib.Core.List.{List, [], ◌∷◌}
use Prim.Native.Nat.{ℕ, ◌<◌, ◌≤◌}
use borrow.Author.Tests.{le-leb, lt-leb}
use lib.Dec.{leb}
use lib.ListN.{length}
use Rattle.base.specs.Lists.{same}
use Rattle.base.proofs.Tests.{is_true, holds, and_right}
use Rattle.lines.specs.Lines.{max_line, line_words, is_number, is_pairs, is_hex, bytes_of, word_create, is_create, record_of, line_record}
use Rattle.lines.specs.Reading.{hex_word, line_hex}

-- ---- the HEX of a line's words

pub one-word-only : (w : List ℕ) → [] ≡ hex_word (w ∷ [])
unfolding hex_word
one-word-only w = refl

pub two-words-only : (w a : List ℕ) → [] ≡ hex_word (w ∷ a ∷ [])
unfolding hex_word
two-words-only w a = refl

pub more-words : (w a b c : List ℕ) (ws : List (List ℕ)) → [] ≡ hex_word (w ∷ a ∷ b ∷ c ∷ ws)
unfolding hex_word
more-words w a b c ws = refl

-- ---- the HEX of a line, and its record

pub hex-said : (line h : List ℕ) (ws : List (List ℕ)) → length line ≤ max_line → line_words line ≡ ws → h ≡ hex_word ws → h ≡ line_hex line
unfolding line_hex
hex-said line h ws l q e = e ∙ ap hex_word (sym q) ∙ rw (le-leb _ _ l, line_hex)

pub no-hex : (line : List ℕ) → max_line < length line → [] ≡ line_hex line
unfolding line_hex
no-hex line h = rw (lt-leb _ _ h, line_hex)

-- HEX is pairs, and the record is the bytes that they make
either_way : {A : Type 0} (f : List ℕ → A) (t : Bool) (x y : List ℕ)
    → f (elim t [ true ↦ x | false ↦ y ]) ≡ elim t [ true ↦ f x | false ↦ f y ]
either_way f true x y = refl
either_way f false x y = refl

words-record : (ws : List (List ℕ)) → bytes_of (hex_word ws) ≡ record_of ws
unfolding hex_word record_of bytes_of
words-record [] = refl
words-record (w ∷ []) = refl
words-record (w ∷ a ∷ []) = refl
words-record (w ∷ a ∷ b ∷ []) = either_way bytes_of (is_create w a b) b []
words-record (w ∷ a ∷ b ∷ c ∷ ws) = refl

line-record : (line : List ℕ) → bytes_of (line_hex line) ≡ line_record line
unfolding line_hex line_record bytes_of
line-record line =
    either_way bytes_of (leb (length line) max_line) (hex_word (line_words line)) []
    ∙ ap (λ (r : List ℕ). elim (leb (length line) max_line) [ true ↦ r | false ↦ [] ]) (words-record (line_words line))

create-pairs : (w a b : List ℕ) → is_create w a b ≡ true → is_pairs b ≡ true
unfolding is_create is_hex
create-pairs w a b e =
    is_true (is_pairs b)
    (and_right (leb 1 (length b)) (is_pairs b) (and_right (same w word_create && is_number 64 a) (is_hex b) (holds e)))

words-pairs : (ws : List (List ℕ)) → is_pairs (hex_word ws) ≡ true
unfolding hex_word is_pairs
words-pairs [] = refl
words-pairs (w ∷ []) = refl
words-pairs (w ∷ a ∷ []) = refl
words-pairs (w ∷ a ∷ b ∷ []) = by-test (is_create w a b) refl
  where
    by-test : (t : Bool) → is_create w a b ≡ t → is_pairs (elim t [ true ↦ b | false ↦ [] ]) ≡ true
    by-test true e = create-pairs w a b e
    by-test false e = refl
words-pairs (w ∷ a ∷ b ∷ c ∷ ws) = refl

line-pairs : (line : List ℕ) → is_pairs (line_hex line) ≡ true
unfolding line_hex is_pairs
line-pairs line = by-test (leb (length line) max_line)
  where
    by-test : (t : Bool) → is_pairs (elim t [ true ↦ hex_word (line_words line) | false ↦ [] ]) ≡ true
    by-test true = words-pairs (line_words line)
    by-test false = refl

pub hex-pairs : (line h : List ℕ) → h ≡ line_hex line → is_pairs h ≡ true
hex-pairs line h e = ap is_pairs e ∙ line-pairs line

pub hex-record : (line h : List ℕ) → h ≡ line_hex line → bytes_of h ≡ line_record line
hex-record line h e = ap bytes_of e ∙ line-record line
