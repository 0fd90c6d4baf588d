-- The cell with a number: there is one where the number is below the tables' size, and none from there on. Assumes nothing.
use Rattle.std.proofs.Common.{◌≡◌, ℕ, ◌<◌, ◌≤◌, Bool, true, false, Option, Some, None, refl, sym, subst, ltb, lt-ltb, le-ltb}
use Rattle.std.proofs.lemmas.Option.{none-some, same_Some}
use borrow.Author.Tests.{ltb-true, ltb-false}
use Rattle.rules.specs.State.{some_id, no_id}

pub from-some : (n : ℕ) → n < no_id → some_id n ≡ Some n
unfolding some_id
from-some n h = rw (lt-ltb n no_id h, some_id)

pub from-none : (n : ℕ) → no_id ≤ n → some_id n ≡ None
unfolding some_id
from-none n h = rw (le-ltb n no_id h, some_id)

pub is-some : (n id : ℕ) → some_id n ≡ Some id → (n ≡ id) × (id < no_id)
unfolding some_id
is-some n id e = go (ltb n no_id) refl e
  where
    go : (b : Bool) → ltb n no_id ≡ b → elim b as (λ x. Option ℕ) [ true ↦ Some n | false ↦ None ] ≡ Some id → (n ≡ id) × (id < no_id)
    go true h q = let s = same_Some n id q in (s, subst (λ (k : ℕ). k < no_id) s (ltb-true n no_id h))
    go false h q = absurd (none-some id q)

pub is-none : (n : ℕ) → some_id n ≡ None → no_id ≤ n
unfolding some_id
is-none n e = go (ltb n no_id) refl e
  where
    go : (b : Bool) → ltb n no_id ≡ b → elim b as (λ x. Option ℕ) [ true ↦ Some n | false ↦ None ] ≡ None → no_id ≤ n
    go true h q = absurd (none-some n (sym q))
    go false h q = ltb-false n no_id h
