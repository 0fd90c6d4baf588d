-- Laws of words: a line is its first word, and behind the space the other words. By induction on the line. Assumes nothing.
use Rattle.std.proofs.Common.{◌≡◌, refl, ap, ◌∙◌, Bool, true, false, List, [], ◌∷◌, ℕ, suc, ◌+◌, ◌<◌, ◌≤◌, length, take, drop, Some, None, eqb, ltb, ◌==◌, cond, arith}
use native.Mathlib.Nat.{not-suc-le-zero}
use borrow.Author.Tests.{ltb-true, ltb-false}
use Rattle.std.specs.List.{position, position_or_len}
use Rattle.std.proofs.lemmas.List.Recursion.{is_position_or_len}
use Rattle.lines.specs.Lines.{space, into_first, line_words}

-- how many bytes stand before the first space
unfoldable until_space : List ℕ → ℕ
until_space [] = 0
until_space (b ∷ bs) = elim (eqb b space) [ true ↦ 0 | false ↦ suc (until_space bs) ]

until-first : (s : List ℕ) → until_space s ≡ position_or_len (λ b. b == 32) s
unfolding until_space
until-first s = is_position_or_len until_space (λ b. b == 32) refl (λ b bs. by-test (eqb b space) (until_space bs)) s
  where
    by-test : (t : Bool) (n : ℕ) → elim t as (λ x. ℕ) [ true ↦ 0 | false ↦ suc n ] ≡ cond t 0 (1 + n)
    by-test true n = refl
    by-test false n = omega arith

first_word : (s : List ℕ) → until_space s < length s → line_words s ≡ take (until_space s) s ∷ line_words (drop (suc (until_space s)) s)
unfolding until_space line_words into_first
first_word [] h = absurd (not-suc-le-zero h)
first_word (b ∷ bs) h = by-test (eqb b space) (first_word bs) h
  where
    by-test : (t : Bool) → (until_space bs < length bs → line_words bs ≡ take (until_space bs) bs ∷ line_words (drop (suc (until_space bs)) bs))
        → elim t as (λ x. ℕ) [ true ↦ 0 | false ↦ suc (until_space bs) ] < suc (length bs)
        → elim t as (λ x. List (List ℕ)) [ true ↦ [] ∷ line_words bs | false ↦ into_first b (line_words bs) ]
        ≡ take (elim t as (λ x. ℕ) [ true ↦ 0 | false ↦ suc (until_space bs) ]) (b ∷ bs)
        ∷ line_words (drop (elim t as (λ x. ℕ) [ true ↦ 0 | false ↦ suc (until_space bs) ]) bs)
    by-test true f k = refl
    by-test false f k = rw (f (omega arith))

only-word : (s : List ℕ) → length s ≤ until_space s → line_words s ≡ s ∷ []
unfolding until_space line_words into_first
only-word [] h = refl
only-word (b ∷ bs) h = by-test (eqb b space) (only-word bs) h
  where
    by-test : (t : Bool) → (length bs ≤ until_space bs → line_words bs ≡ bs ∷ [])
        → suc (length bs) ≤ elim t as (λ x. ℕ) [ true ↦ 0 | false ↦ suc (until_space bs) ]
        → elim t as (λ x. List (List ℕ)) [ true ↦ [] ∷ line_words bs | false ↦ into_first b (line_words bs) ] ≡ (b ∷ bs) ∷ []
    by-test true f k = absurd (not-suc-le-zero k)
    by-test false f k = rw (f (omega arith))

-- a word and what follows its space, and the last word
pub word_more : (s : List ℕ) (n : ℕ) → position (λ b. b == 32) s ≡ Some n → line_words s ≡ take n s ∷ line_words (drop (n + 1) s)
word_more s n e = by-test (ltb (position_or_len (λ b. b == 32) s) (length s)) refl e
  where
    by-test : (t : Bool) → ltb (position_or_len (λ b. b == 32) s) (length s) ≡ t → cond t (Some (position_or_len (λ b. b == 32) s)) None ≡ Some n
        → line_words s ≡ take n s ∷ line_words (drop (n + 1) s)
    by-test false q f = cc
    by-test true q f =
        let first : until_space s ≡ n = until-first s ∙ cc in
        let inside : until_space s < length s = rw (until-first s) (ltb-true (position_or_len (λ b. b == 32) s) (length s) q) in
        let next : suc (until_space s) ≡ n + 1 = omega arith in
        first_word s inside ∙ (λ i. take (first i) s ∷ line_words (drop (next i) s))

pub word-last : (s : List ℕ) → position (λ b. b == 32) s ≡ None → line_words s ≡ s ∷ []
word-last s e = by-test (ltb (position_or_len (λ b. b == 32) s) (length s)) refl e
  where
    by-test : (t : Bool) → ltb (position_or_len (λ b. b == 32) s) (length s) ≡ t → cond t (Some (position_or_len (λ b. b == 32) s)) None ≡ None
        → line_words s ≡ s ∷ []
    by-test true q f = cc
    by-test false q f = only-word s (rw (until-first s) (ltb-false (position_or_len (λ b. b == 32) s) (length s) q))

-- a word in front of the words that follow
pub then : {A : Type 0} {x : A} {xs ys zs : List A} → xs ≡ x ∷ ys → ys ≡ zs → xs ≡ x ∷ zs
then {x = x} p q = p ∙ ap (λ l. x ∷ l) q

-- a line has a word
pub some_word : (s : List ℕ) → (w : List ℕ) × (ws : List (List ℕ)) × (line_words s ≡ w ∷ ws)
unfolding line_words into_first
some_word [] = ([], [], refl)
some_word (b ∷ bs) = by-test (eqb b space) (some_word bs)
  where
    by-test : (t : Bool) → (w : List ℕ) × (ws : List (List ℕ)) × (line_words bs ≡ w ∷ ws)
        → (w : List ℕ) × (ws : List (List ℕ))
        × (elim t as (λ x. List (List ℕ)) [ true ↦ [] ∷ line_words bs | false ↦ into_first b (line_words bs) ] ≡ w ∷ ws)
    by-test true r = ([], line_words bs, refl)
    by-test false r = (b ∷ r.0, r.1, ap (into_first b) r.2)
