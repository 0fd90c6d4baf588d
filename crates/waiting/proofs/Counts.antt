-- Counting the numbers below n that a test picks, and summing what each is worth: a test that picks fewer sums to less, by all that one which it leaves
-- out is worth; a test that never picks 0 counts at most n - 1. By induction on n. Assumes nothing.
use Rattle.std.proofs.Common.{Bool, true, false, ◌≡◌, refl, sym, ap, ◌∙◌, subst, ℕ, zero, suc, ◌+◌, ◌*◌, ◌≤◌, ◌<◌, not-suc-le-zero, zero-mul, suc-mul, arith}
use Rattle.std.proofs.lemmas.Bool.{false≢true}
use Rattle.std.proofs.Math.Decide.{ℕ_discrete}
use Rattle.cpu_set.specs.CpuSet.{count_below}
use Rattle.waiting.specs.Demand3.{sum_below}

picked : Bool → ℕ
picked b = elim b [ true ↦ 1 | false ↦ 0 ]

count-suc : (n : ℕ) (p : ℕ → Bool) → count_below (suc n) p ≡ count_below n p + picked (p n)
unfolding count_below picked
count-suc n p = go (p n)
  where
    go : (b : Bool) → elim b [ true ↦ suc (count_below n p) | false ↦ count_below n p ] ≡ count_below n p + picked b
    go true = omega arith
    go false = omega arith

picked-le : (a b : Bool) → (a ≡ true → b ≡ true) → picked a ≤ picked b
unfolding picked
picked-le true true f = omega arith
picked-le true false f = absurd (false≢true (f refl))
picked-le false b f = go b
  where
    go : (b : Bool) → 0 ≤ picked b
    go true = omega arith
    go false = omega arith

-- what the picked ones are worth
abbrev pub worth : (ℕ → Bool) → (ℕ → ℕ) → ℕ → ℕ
worth p f k = elim (p k) [ true ↦ f k | false ↦ 0 ]

worth-le : (a b : Bool) (w : ℕ) → (a ≡ true → b ≡ true) → ◌≤◌ (elim a [ true ↦ w | false ↦ 0 ]) (elim b [ true ↦ w | false ↦ 0 ])
worth-le true true w f = omega arith
worth-le true false w f = absurd (false≢true (f refl))
worth-le false true w f = omega arith
worth-le false false w f = omega arith

worth-less : (a b : Bool) (w : ℕ) → a ≡ false → b ≡ true → w + elim a [ true ↦ w | false ↦ 0 ] ≤ elim b [ true ↦ w | false ↦ 0 ]
worth-less a b w e g = rw (e, g) (omega arith)

pub sum-le : (n : ℕ) (p q : ℕ → Bool) (f : ℕ → ℕ) → ((k : ℕ) → p k ≡ true → q k ≡ true) → sum_below n (worth p f) ≤ sum_below n (worth q f)
unfolding sum_below
sum-le zero p q f h = omega arith
sum-le (suc n) p q f h = omega (arith, sum-le n p q f h, worth-le (p n) (q n) (f n) (h n))

-- one that q picks and p does not
pub sum_less : (n : ℕ) (p q : ℕ → Bool) (f : ℕ → ℕ) (c : ℕ) → ((k : ℕ) → p k ≡ true → q k ≡ true) → c < n → q c ≡ true → p c ≡ false
    → f c + sum_below n (worth p f) ≤ sum_below n (worth q f)
unfolding sum_below
sum_less zero p q f c h l e g = absurd (not-suc-le-zero l)
sum_less (suc n) p q f c h l e g = go (ℕ_discrete c n) (λ k. sum_less n p q f c h k e g)
  where
    here : c ≡ n → f c + worth p f n ≤ worth q f n
    here i = subst (λ (k : ℕ). f c + worth p f k ≤ worth q f k) i (worth-less (p c) (q c) (f c) g e)

    go : Dec (c ≡ n) → (c < n → f c + sum_below n (worth p f) ≤ sum_below n (worth q f))
        → f c + (sum_below n (worth p f) + worth p f n) ≤ sum_below n (worth q f) + worth q f n
    go (yes i) r = omega (arith, sum-le n p q f h, here i)
    go (no i) r = let l' : c < n = omega arith in omega (arith, r l', worth-le (p n) (q n) (f n) (h n))

-- all worth the same
pub sum_same : (n : ℕ) (p : ℕ → Bool) (k : ℕ) → sum_below n (worth p (λ _. k)) ≡ count_below n p * k
unfolding sum_below count_below
sum_same zero p k = sym (zero-mul k)
sum_same (suc n) p k = ap (λ (x : ℕ). x + worth p (λ _. k) n) (sum_same n p k) ∙ go (p n)
  where
    go : (b : Bool) → count_below n p * k + elim b [ true ↦ k | false ↦ 0 ] ≡ elim b [ true ↦ suc (count_below n p) | false ↦ count_below n p ] * k
    go true = sym (suc-mul (count_below n p) k ∙ omega arith)
    go false = omega arith

pub count_small : (n : ℕ) (p : ℕ → Bool) → p 0 ≡ false → count_below (suc n) p ≤ n
unfolding count_below picked
count_small zero p e = rw (e, count_below) (omega arith)
count_small (suc n) p e = omega (arith, count-suc (suc n) p, count_small n p e, picked-le (p (suc n)) true (λ _. refl), one)
  where
    one : picked true ≡ 1
    one = refl
