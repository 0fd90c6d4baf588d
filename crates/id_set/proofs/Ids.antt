-- Sets of IDs: one with one more and with one less, by the members of each number below 16; one that has the IDs that pass a test, which
-- loses an ID that no longer passes. Assumes nothing.
use mathlib.Core.Bool.{Bool, true, false, not, ◌&&◌, ◌||◌, or_comm, and_comm}
use mathlib.Core.Path.{◌≡◌, refl, sym, ap, ap₂, ◌∙◌}
use Prim.Native.Nat.{ℕ, zero, suc, ◌+◌, ◌-◌, ◌%◌, ◌^◌, ◌<◌, ◌≤◌}
use native.Mathlib.Decide.{ℕ_discrete}
use native.Mathlib.Nat.{mod-eq_of_lt}
use native.Mathlib.Omega.{arith}
use borrow.Author.Tests.{lt-ltb, eq-eqb, ne_eqb}
use lib.Bits.{bit_or, or_lt}
use lib.Dec.{eqb}
use Rattle.cpu_set.specs.CpuSet.{bit, member, number_of, union, without}
use Rattle.base.proofs.Tests.{fails}
use Rattle.machine_state.specs.Machine.{max_cells}
use Rattle.cpu_set.proofs.Laws.{low_bits, bit-number, member-or, member-set_of, count_less}
use Rattle.rules.specs.State.{has_id, ids_where}
use Rattle.id_set.specs.Ids.{id_count}
use Rattle.rules.specs.Effects.{add_id, drop_id}
use Rattle.id_set.proofs.Zeros.{complement-bit}

-- an ID is in a set where its bit is
pub has-bit : (ids k : ℕ) → k < 16 → has_id ids k ≡ bit k ids
unfolding has_id
has-bit ids k h = rw (lt-ltb k 16 h, has_id)

member-low : (ids k : ℕ) → k < 16 → member k ids ≡ has_id ids k
unfolding member
member-low ids k h = rw (lt-ltb k 64 (omega arith), member) (sym (has-bit ids k h))

pub has-where : (p : ℕ → Bool) (k : ℕ) → k < 16 → has_id (ids_where p) k ≡ p k
has-where p k h = has-bit (ids_where p) k h ∙ bit-number 16 p k h

pub has-added : (id ids k : ℕ) → k < 16 → has_id (add_id id ids) k ≡ (eqb k id || has_id ids k)
unfolding add_id
has-added id ids k h = has-where (λ i. eqb i id || has_id ids i) k h

pub has-dropped : (id ids k : ℕ) → k < 16 → has_id (drop_id id ids) k ≡ (not (eqb k id) && has_id ids k)
unfolding drop_id
has-dropped id ids k h = has-where (λ i. not (eqb i id) && has_id ids i) k h

-- the set of one number
only_none : (n id : ℕ) → n ≤ id → number_of n (λ k. eqb k id) ≡ 0
unfolding number_of
only_none zero id h = refl
only_none (suc n) id h = rw (ne_eqb n id (λ e. omega arith), number_of) (only_none n id (omega arith))

only_one : (n id : ℕ) → id < n → number_of n (λ k. eqb k id) ≡ 2 ^ id
unfolding number_of
only_one zero id h = absurd (omega arith)
only_one (suc n) id h = go (ℕ_discrete n id) (only_one n id)
  where
    go : Dec (n ≡ id) → (id < n → number_of n (λ k. eqb k id) ≡ 2 ^ id) → number_of (suc n) (λ k. eqb k id) ≡ 2 ^ id
    go (yes e) f = rw (eq-eqb n id e, number_of) (ap₂ (λ (x y : ℕ). x + 2 ^ y) (only_none n id (omega arith)) e ∙ omega arith)
    go (no e) f = rw (ne_eqb n id e, number_of) (f (omega arith))

pub power-member : (id k : ℕ) → id < 64 → k < 64 → member k (2 ^ id) ≡ eqb k id
power-member id k h l = ap (member k) (sym (only_one 64 id h)) ∙ member-set_of (λ i. eqb i id) k l

none : (n : ℕ) → number_of n (λ k. false) ≡ 0
unfolding number_of
none zero = refl
none (suc n) = none n

pub zero-member : (k : ℕ) → k < 64 → member k 0 ≡ false
zero-member k l = ap (member k) (sym (none 64)) ∙ member-set_of (λ i. false) k l

-- an empty set has no ID
pub none-of : (ids k : ℕ) → k < 16 → ids ≡ 0 → has_id ids k ≡ false
none-of ids k h e = sym (member-low ids k h) ∙ ap (member k) e ∙ zero-member k (omega arith)

-- the IDs that are free, root's aside: the bits of the complement
pub free-bit : (ids k : ℕ) → ids < 2 ^ 16 → k < 16 → bit k ((2 ^ 16 - 1) - bit_or ids 1) ≡ not (eqb k 0 || has_id ids k)
free-bit ids k fits h =
    complement-bit 16 (bit_or ids 1) k (or_lt 16 ids 1 fits (omega arith)) h
    ∙ ap not
    (sym (has-bit (bit_or ids 1) k h) ∙ sym (member-low (bit_or ids 1) k h) ∙ member-or k ids 1
    ∙ ap₂ (λ (x y : Bool). x || y) (member-low ids k h) (power-member 0 k (omega arith) (omega arith))
    ∙ or_comm (has_id ids k) (eqb k 0))

-- a set of 64 members, cut to its first 16
module _ (ids one id : ℕ) (is : (k : ℕ) → k < 64 → member k one ≡ eqb k id) where
  pub added : union ids one % 2 ^ 16 ≡ add_id id ids
  unfolding union add_id
  added =
      low_bits 16 (union ids one) (λ k. eqb k id || has_id ids k)
      (λ k h. bit-number 64 (λ i. member i ids || member i one) k (omega arith)
      ∙ ap₂ (λ (x y : Bool). x || y) (member-low ids k h) (is k (omega arith)) ∙ or_comm (has_id ids k) (eqb k id))

  pub dropped : without ids one % 2 ^ 16 ≡ drop_id id ids
  unfolding without drop_id
  dropped =
      low_bits 16 (without ids one) (λ k. not (eqb k id) && has_id ids k)
      (λ k h. bit-number 64 (λ i. member i ids && not (member i one)) k (omega arith)
      ∙ ap₂ (λ (x y : Bool). x && not y) (member-low ids k h) (is k (omega arith)) ∙ and_comm (has_id ids k) (not (eqb k id)))

-- a set without one of its IDs has fewer
pub drop-less : (id ids : ℕ) → id < 16 → has_id ids id ≡ true → id_count (drop_id id ids) < id_count ids
unfolding id_count
drop-less id ids h t =
    count_less (has_id (drop_id id ids)) (has_id ids) 16 (λ k l e. other (not (eqb k id)) (has_id ids k) (sym (has-dropped id ids k l) ∙ e)) id h
    (has-dropped id ids id h ∙ ap (λ (b : Bool). not b && has_id ids id) (eq-eqb id id refl)) t
  where
    other : (a b : Bool) → (a && b) ≡ true → b ≡ true
    other true b e = e
    other false b e = absurd (fails (sym e) tt)

-- a set of 16 bits that has no ID is empty
pub no-ids : (ids : ℕ) → ids < 2 ^ 16 → ((k : ℕ) → k < 16 → has_id ids k ≡ false) → ids ≡ 0
no-ids ids fits e = sym (mod-eq_of_lt fits) ∙ low_bits 16 ids (λ k. false) (λ k h. sym (has-bit ids k h) ∙ e k h) ∙ none 16

-- what is found in a set of the IDs that pass a test
pub has-picked : (ids id : ℕ) (p : ℕ → Bool) (found : Bool) → id < max_cells → ids ≡ ids_where p → found ≡ has_id ids id → found ≡ p id
has-picked ids id p found h e f = f ∙ ap (λ (n : ℕ). has_id n id) e ∙ has-where p id h

same-picked : (n : ℕ) (p q : ℕ → Bool) → ((k : ℕ) → k < n → p k ≡ q k) → number_of n p ≡ number_of n q
unfolding number_of
same-picked zero p q e = refl
same-picked (suc n) p q e =
    ap₂ (λ (b : Bool) (ids : ℕ). elim b as (λ x. ℕ) [ true ↦ ids + 2 ^ n | false ↦ ids ]) (e n (omega arith)) (same-picked n p q (λ k h. e k (omega arith)))

-- where one cell no longer passes a test, and the others do as before
pub dropped-set : (id ids : ℕ) (p q : ℕ → Bool) → ids ≡ ids_where p → q id ≡ false → ((k : ℕ) → (k ≡ id → ⊥) → q k ≡ p k)
    → drop_id id ids ≡ ids_where q
unfolding drop_id
dropped-set id ids p q e own other = same-picked 16 (λ k. not (eqb k id) && has_id ids k) q (λ k h. go k h (ℕ_discrete k id))
  where
    go : (k : ℕ) → k < 16 → Dec (k ≡ id) → (not (eqb k id) && has_id ids k) ≡ q k
    go k h (yes i) = rw (eq-eqb k id i) (sym (ap q i ∙ own))
    go k h (no n) = rw (ne_eqb k id n) (has-picked ids k p (has_id ids k) h e refl ∙ sym (other k n))
