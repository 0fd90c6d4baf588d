-- Laws of sets of cell IDs and of searches through them: what an ID added or dropped leaves, and what the first of a list that passes a test
-- is. A set of IDs is the number whose bits a test picks (`bit-number`); a search goes by induction on the list. Assumes nothing.
use Rattle.std.proofs.Common.{◌≡◌, refl, sym, ap, ◌∙◌, Bool, true, false, not, ◌&&◌, ◌||◌, ◌⊎◌, inl, inr, ℕ, zero, suc, ◌+◌, ◌≤◌, ◌<◌, arith, T, ltb, eqb, eqb→eq, ltb-true, ltb-false}
use Rattle.std.proofs.Math.Bool.{and-false}
use Rattle.std.proofs.Math.Decide.{ℕ_discrete}
use Rattle.base.specs.Lists.{any, from}
use Rattle.base.proofs.Tests.{is_true, is_false, holds, fails}
use Rattle.cpu_set.specs.CpuSet.{bit}
use Rattle.cpu_set.proofs.Laws.{bit-number}
use Rattle.rules.specs.State.{first, no_id, has_id, ids_where}
use Rattle.rules.specs.Effects.{add_id, drop_id}

-- ---- sets of IDs

pub has_id-lt : (ids id : ℕ) → T (has_id ids id) → id < 16
unfolding has_id
has_id-lt ids id = go (ltb id 16) refl
  where
    go : (b : Bool) → ltb id 16 ≡ b → T (elim b [ true ↦ bit id ids | false ↦ false ]) → id < 16
    go true e t = ltb-true id 16 e
    go false e t = absurd t

pub has-where : (p : ℕ → Bool) (id : ℕ) → has_id (ids_where p) id ≡ (ltb id 16 && p id)
unfolding has_id
has-where p id = go (ltb id 16) refl
  where
    go : (b : Bool) → ltb id 16 ≡ b → elim b [ true ↦ bit id (ids_where p) | false ↦ false ] ≡ (b && p id)
    go true e = bit-number 16 p id (ltb-true id 16 e)
    go false e = refl

-- a set of IDs has none from 16 up
none-past : (ids id : ℕ) → ltb id 16 ≡ false → has_id ids id ≡ false
none-past ids id e = is_false (has_id ids id) (λ t. absurd (omega (arith, has_id-lt ids id t, ltb-false id 16 e)))

pub has-added : (new ids id : ℕ) → new < 16 → has_id (add_id new ids) id ≡ (eqb id new || has_id ids id)
unfolding add_id
has-added new ids id h = has-where (λ k. eqb k new || has_id ids k) id ∙ go (ltb id 16) refl
  where
    go : (b : Bool) → ltb id 16 ≡ b → (b && (eqb id new || has_id ids id)) ≡ (eqb id new || has_id ids id)
    go true e = refl
    go false e =
        let other : eqb id new ≡ false = is_false (eqb id new) (λ t. absurd (omega (arith, eqb→eq id new t, ltb-false id 16 e))) in
        rw (other, none-past ids id e)

pub has-dropped : (gone ids id : ℕ) → has_id (drop_id gone ids) id ≡ (not (eqb id gone) && has_id ids id)
unfolding drop_id
has-dropped gone ids id = has-where (λ k. not (eqb k gone) && has_id ids k) id ∙ go (ltb id 16) refl
  where
    go : (b : Bool) → ltb id 16 ≡ b → (b && (not (eqb id gone) && has_id ids id)) ≡ (not (eqb id gone) && has_id ids id)
    go true e = refl
    go false e = rw (none-past ids id e) (sym (and-false (not (eqb id gone))))

-- ---- searches

-- what holds of both ways of a choice, each with its test, holds of the choice
pub by-test : {A : Type 0} (P : A → Type 0) (b : Bool) (x y : A) → (b ≡ true → P x) → (b ≡ false → P y) → P (elim b [ true ↦ x | false ↦ y ])
by-test P true x y f g = f refl
by-test P false x y f g = g refl

-- one of the n numbers from k on passes
pub record Found (p : ℕ → Bool) (k n id : ℕ) : Type 0 where
  pub passes : p id ≡ true
  pub low : k ≤ id
  pub high : id < k + n

-- none of them does
abbrev pub NonePass : (ℕ → Bool) → ℕ → ℕ → Type 0
NonePass p k n = (id : ℕ) → k ≤ id → id < k + n → p id ≡ false

-- a search through them gives one that passes, or `no_id` where none does
abbrev pub Search : (ℕ → Bool) → ℕ → ℕ → ℕ → Type 0
Search p k n id = Found p k n id ⊎ (NonePass p k n × (id ≡ no_id))

module _ (p : ℕ → Bool) where
  none_more : (k n : ℕ) → p k ≡ false → NonePass p (suc k) n → NonePass p k (suc n)
  none_more k n e f id low high = go (ℕ_discrete id k)
    where
      go : Dec (id ≡ k) → p id ≡ false
      go (yes q) = ap p q ∙ e
      go (no q) = f id (omega arith) (omega arith)

  later : (k n id : ℕ) → Found p (suc k) n id → Found p k (suc n) id
  later k n id f = record { passes = f.passes; low = omega (arith, f.low); high = omega (arith, f.high) }

  -- the first that passes, or none does
  pub first-from : (k n : ℕ) → Search p k n (first p (from k n))
  unfolding first from
  first-from k zero = inr ((λ id low high. absurd (omega arith)), refl)
  first-from k (suc n) =
      by-test (λ (x : ℕ). Search p k (suc n) x) (p k) k (first p (from (suc k) n))
      (λ e. inl (record { passes = e; low = omega arith; high = omega arith }))
      (λ e. more e (first-from (suc k) n))
    where
      more : p k ≡ false → Search p (suc k) n (first p (from (suc k) n))
          → Search p k (suc n) (first p (from (suc k) n))
      more e (inl f) = inl (later k n _ f)
      more e (inr f) = inr (none_more k n e f.0, f.1)

  -- some passes, or none does
  pub any-from : (k n : ℕ) → any p (from k n) ≡ true → (id : ℕ) × Found p k n id
  unfolding from
  any-from k zero t = absurd (fails refl (holds t))
  any-from k (suc n) t = go (p k) refl t (λ r. any-from (suc k) n r)
    where
      go : (b : Bool) → p k ≡ b → (b || any p (from (suc k) n)) ≡ true → (any p (from (suc k) n) ≡ true → (id : ℕ) × Found p (suc k) n id)
          → (id : ℕ) × Found p k (suc n) id
      go true e t f = (k, record { passes = e; low = omega arith; high = omega arith })
      go false e t f = ((f t).0, later k n (f t).0 (f t).1)

  pub any-from-false : (k n : ℕ) → any p (from k n) ≡ false → NonePass p k n
  unfolding from
  any-from-false k zero t = λ id low high. absurd (omega arith)
  any-from-false k (suc n) t = go (p k) refl t (any-from-false (suc k) n)
    where
      go : (b : Bool) → p k ≡ b → (b || any p (from (suc k) n)) ≡ false → (any p (from (suc k) n) ≡ false → NonePass p (suc k) n) → NonePass p k (suc n)
      go true e t f = absurd (fails t tt)
      go false e t f = none_more k n e (f t)

  pub any-from-true : (k n id : ℕ) → p id ≡ true → k ≤ id → id < k + n → any p (from k n) ≡ true
  any-from-true k n id e low high = is_true (any p (from k n)) (go (any p (from k n)) refl)
    where
      go : (b : Bool) → any p (from k n) ≡ b → T b
      go true q = tt
      go false q = absurd (fails (any-from-false k n q id low high) (holds e))

-- two tests that agree find the same
pub first-same : (p q : ℕ → Bool) (k n : ℕ) → ((id : ℕ) → k ≤ id → p id ≡ q id) → first p (from k n) ≡ first q (from k n)
unfolding first from
first-same p q k zero e = refl
first-same p q k (suc n) e =
    λ i. elim (e k (omega arith) i) [ true ↦ k | false ↦ first-same p q (suc k) n (λ id h. e id (omega arith)) i ]
