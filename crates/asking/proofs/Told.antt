-- Who is told after an effect: the cells of the machine before it but the target. A new cell is shut down, so it is not told, and a destroyed
-- one is not live; no effect of the two changes another cell's words or whether it is live. Assumes nothing.
use mathlib.Core.Bool.{Bool, true, false, not, ◌&&◌}
use mathlib.Core.Path.{◌≡◌, refl, ap, ap₂, subst, ◌∙◌}
use Prim.Native.Nat.{ℕ, zero, suc, ◌+◌, ◌<◌}
use native.Mathlib.Decide.{ℕ_discrete}
use native.Mathlib.Omega.{arith}
use borrow.Author.Tests.{eq-eqb, ne_eqb}
use lib.Dec.{ltb, eqb}
use lib.ListN.{length}
use lib.Seq.{get_or-set_same, get_or-set_other}
use Rattle.base.specs.Lists.{from}
use Rattle.base.proofs.Tests.{holds}
use Rattle.cell_record.specs.declared.CellConfig.{CellConfig}
use Rattle.machine_state.specs.declared.CommRegion.{CommRegion}
use Rattle.machine_state.specs.declared.CallKind.{CallKind}
use Rattle.machine_state.specs.declared.Machine.{Machine}
use Rattle.machine_state.specs.Machine.{past_comm, no_comm, max_cells}
use Rattle.rules.specs.State.{first, live, comm_at, active, is_final, root_id, with_pool, with_ids, with_root_cpus, with_cell, with_comm, with_cpus}
use Rattle.rules.specs.Effects.{effect, cell_created, cell_destroyed, cpus_changed, new_comm}
use Rattle.rules.specs.Asking.{may_be_messaged, next_to_message, every_cell, tells}
use Rattle.id_set.proofs.Ids.{has-added, has-dropped}

-- a search finds the same where the tests agree
first-same : (p q : ℕ → Bool) (k n : ℕ) → ((id : ℕ) → id < k + n → p id ≡ q id) → first p (from k n) ≡ first q (from k n)
unfolding first from
first-same p q k zero e = refl
first-same p q k (suc n) e =
    ap₂ (λ (found : Bool) (id : ℕ). elim found as (λ x. ℕ) [ true ↦ k | false ↦ id ]) (e k (omega arith))
    (first-same p q (suc k) n (λ id h. e id (omega arith)))

-- whether a cell may be messaged, by whether it is live and its words
abbrev look : ℕ → Bool → CommRegion → Bool
look id is_live words = not (eqb id root_id) && is_live && not (is_final words.cell_state) && not words.passive

-- of a machine after an effect that touches one cell
module _ (target : ℕ) (m next : Machine)
    (same_live : (id : ℕ) → id < max_cells → (id ≡ target → ⊥) → live next id ≡ live m id)
    (same-words : (id : ℕ) → (id ≡ target → ⊥) → comm_at next id ≡ comm_at m id)
    (target-not : target < max_cells → may_be_messaged next target ≡ false) where
  same-cell : (id : ℕ) → id < max_cells → (id ≡ target → ⊥) → may_be_messaged next id ≡ may_be_messaged m id
  unfolding may_be_messaged active
  same-cell id h n = ap₂ (λ (l : Bool) (w : CommRegion). look id l w) (same_live id h n) (same-words id n)

  one_cell : (id : ℕ) → id < max_cells
      → (ltb 0 id && every_cell id && may_be_messaged next id) ≡ (ltb 0 id && not (eqb id target) && may_be_messaged m id)
  one_cell id h = go (ℕ_discrete id target)
    where
      go : Dec (id ≡ target) → (ltb 0 id && true && may_be_messaged next id) ≡ (ltb 0 id && not (eqb id target) && may_be_messaged m id)
      go (yes e) = rw (eq-eqb id target e, ap (may_be_messaged next) e ∙ target-not (subst (λ (k : ℕ). k < max_cells) e h)) (by-test (ltb 0 id) (may_be_messaged m id))
        where
          by-test : (a b : Bool) → (a && true && false) ≡ (a && false && b)
          by-test true b = refl
          by-test false b = refl
      go (no n) = rw (ne_eqb id target n, same-cell id h n)

  told-rest : next_to_message every_cell 0 next ≡ next_to_message (λ id. not (eqb id target)) 0 m
  unfolding next_to_message
  told-rest = first-same _ _ 1 15 (λ id h. one_cell id h)

module _ (target : ℕ) (new : CellConfig) (m : Machine) (size : length m.comms ≡ max_cells) where
  created-words : (id : ℕ) → (id ≡ target → ⊥) → comm_at (cell_created target new m) id ≡ comm_at m id
  unfolding cell_created with_pool with_ids with_root_cpus cpus_changed with_cpus with_cell with_comm
  created-words id n = get_or-set_other m.comms target id (new_comm new) past_comm n

  created-own : target < max_cells → comm_at (cell_created target new m) target ≡ new_comm new
  unfolding cell_created with_pool with_ids with_root_cpus cpus_changed with_cpus with_cell with_comm
  created-own h = get_or-set_same m.comms target (new_comm new) past_comm (omega arith)

  created-live : (id : ℕ) → id < max_cells → (id ≡ target → ⊥) → live (cell_created target new m) id ≡ live m id
  unfolding cell_created with_pool with_ids with_root_cpus cpus_changed with_cpus with_cell with_comm
  created-live id h n = has-added target m.live_ids id h ∙ (rw (ne_eqb id target n) refl)

  created-not : target < max_cells → may_be_messaged (cell_created target new m) target ≡ false
  unfolding may_be_messaged active new_comm
  created-not h = ap (look target (live (cell_created target new m) target)) (created-own h) ∙ last (not (eqb target root_id)) (live (cell_created target new m) target) (not new.passive)
    where
      last : (a b c : Bool) → (a && b && false && c) ≡ false
      last true true c = refl
      last true false c = refl
      last false b c = refl

  pub told-created : next_to_message every_cell 0 (cell_created target new m) ≡ next_to_message (λ id. not (eqb id target)) 0 m
  told-created = told-rest target m (cell_created target new m) created-live created-words created-not

module _ (target : ℕ) (m : Machine) where
  destroyed-words : (id : ℕ) → (id ≡ target → ⊥) → comm_at (cell_destroyed target m) id ≡ comm_at m id
  unfolding cell_destroyed with_pool with_ids with_root_cpus cpus_changed with_cpus with_cell with_comm
  destroyed-words id n = get_or-set_other m.comms target id no_comm past_comm n

  destroyed-live : (id : ℕ) → id < max_cells → live (cell_destroyed target m) id ≡ (not (eqb id target) && live m id)
  unfolding cell_destroyed with_pool with_ids with_root_cpus cpus_changed with_cpus with_cell with_comm
  destroyed-live id h = has-dropped target m.live_ids id h

  destroyed-other : (id : ℕ) → id < max_cells → (id ≡ target → ⊥) → live (cell_destroyed target m) id ≡ live m id
  destroyed-other id h n = destroyed-live id h ∙ (rw (ne_eqb id target n) refl)

  destroyed-not : target < max_cells → may_be_messaged (cell_destroyed target m) target ≡ false
  unfolding may_be_messaged active
  destroyed-not h =
      ap (λ (l : Bool). look target l (comm_at (cell_destroyed target m) target)) (destroyed-live target h ∙ own)
      ∙ second (not (eqb target root_id)) _ _
    where
      own : (not (eqb target target) && live m target) ≡ false
      own = rw (eq-eqb target target refl)

      second : (a b c : Bool) → (a && false && b && c) ≡ false
      second true b c = refl
      second false b c = refl

  pub told-destroyed : next_to_message every_cell 0 (cell_destroyed target m) ≡ next_to_message (λ id. not (eqb id target)) 0 m
  told-destroyed = told-rest target m (cell_destroyed target m) destroyed-other destroyed-words destroyed-not

pub told-after : (kind : CallKind) (target : ℕ) (new : CellConfig) (m : Machine) → tells kind ≡ true → length m.comms ≡ max_cells
    → next_to_message every_cell 0 (effect kind target new m) ≡ next_to_message (λ id. not (eqb id target)) 0 m
unfolding effect
told-after CallKind.Disable target new m t size = absurd (holds {b = false} t)
told-after CallKind.Create target new m t size = told-created target new m size
told-after CallKind.Start target new m t size = absurd (holds {b = false} t)
told-after CallKind.SetLoadable target new m t size = absurd (holds {b = false} t)
told-after CallKind.Destroy target new m t size = told-destroyed target m
