-- Six figures modulo 2^32: an obeyed call or exit adds one to the total and to its own, whether before the wrap or after it. Assumes nothing.
use Rattle.std.proofs.Common.{◌≡◌, refl, ap₂, false, ◌||◌, [], ◌∷◌, ℕ, zero, suc, ◌+◌, ◌%◌, ◌^◌, ◌≤◌, not-suc-le-zero, arith, eqb, replicate}
use Rattle.std.proofs.Math.Nat.{mod-add-mod}
use Rattle.base.specs.Lists.{from}
use Rattle.rules.specs.Effects.{bump}
use Rattle.counters.specs.Counters.{figures, tallied}

-- the same counts
pub figures-same : (f g : ℕ → ℕ) → ((i : ℕ) → f i ≡ g i) → figures f ≡ figures g
figures-same f g p = λ j. figures (λ i. p i j)

pub figures-zero : replicate 6 0 ≡ figures (λ i. 0)
unfolding from
figures-zero = refl

wraps : (x : ℕ) → (x % 2 ^ 32 + 1) % 2 ^ 32 ≡ (x + 1) % 2 ^ 32
wraps x = mod-add-mod x (2 ^ 32) 1

-- one more in the total and in counter `own`
unfoldable pub Ticked : (ℕ → ℕ) → ℕ → Type 0
Ticked f own = bump own (bump 0 (figures f)) ≡ figures (λ i. tallied false (eqb i 0 || eqb i own) (f i))

pub ticked : (f : ℕ → ℕ) (own : ℕ) → 1 ≤ own → own ≤ 5 → Ticked f own
unfolding Ticked from bump tallied
ticked f zero low high = absurd (not-suc-le-zero low)
ticked f (suc zero) low high = ap₂ (λ (a b : ℕ). a ∷ b ∷ f 2 % 2 ^ 32 ∷ f 3 % 2 ^ 32 ∷ f 4 % 2 ^ 32 ∷ f 5 % 2 ^ 32 ∷ []) (wraps (f 0)) (wraps (f 1))
ticked f (suc (suc zero)) low high = ap₂ (λ (a b : ℕ). a ∷ f 1 % 2 ^ 32 ∷ b ∷ f 3 % 2 ^ 32 ∷ f 4 % 2 ^ 32 ∷ f 5 % 2 ^ 32 ∷ []) (wraps (f 0)) (wraps (f 2))
ticked f (suc (suc (suc zero))) low high = ap₂ (λ (a b : ℕ). a ∷ f 1 % 2 ^ 32 ∷ f 2 % 2 ^ 32 ∷ b ∷ f 4 % 2 ^ 32 ∷ f 5 % 2 ^ 32 ∷ []) (wraps (f 0)) (wraps (f 3))
ticked f (suc (suc (suc (suc zero)))) low high = ap₂ (λ (a b : ℕ). a ∷ f 1 % 2 ^ 32 ∷ f 2 % 2 ^ 32 ∷ f 3 % 2 ^ 32 ∷ b ∷ f 5 % 2 ^ 32 ∷ []) (wraps (f 0)) (wraps (f 4))
ticked f (suc (suc (suc (suc (suc zero))))) low high = ap₂ (λ (a b : ℕ). a ∷ f 1 % 2 ^ 32 ∷ f 2 % 2 ^ 32 ∷ f 3 % 2 ^ 32 ∷ f 4 % 2 ^ 32 ∷ b ∷ []) (wraps (f 0)) (wraps (f 5))
ticked f (suc (suc (suc (suc (suc (suc n)))))) low high = absurd (past n high)
  where
    past : (n : ℕ) → suc (suc (suc (suc (suc (suc n))))) ≤ 5 → ⊥
    past n h = omega arith
