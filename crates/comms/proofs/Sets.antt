-- Sets of cells: a loop that goes up through the IDs gathers those that a test picks, and machines with the same live IDs and words have the
-- same sets. Assumes nothing.
use mathlib.Core.Bool.{Bool, true, false, not, ◌&&◌}
use mathlib.Core.List.{List}
use mathlib.Core.Path.{◌≡◌, refl, sym, ap, ap₂, ◌∙◌}
use Prim.Native.Nat.{ℕ, ◌+◌, ◌*◌, ◌^◌, ◌<◌}
use native.Mathlib.Nat.{pow-suc}
use native.Mathlib.Numerals.{add-one}
use native.Mathlib.Omega.{arith}
use lib.Dec.{eqb}
use Rattle.cpu_set.specs.CpuSet.{number_of}
use Rattle.machine_state.specs.declared.CommRegion.{CommRegion}
use Rattle.machine_state.specs.declared.Machine.{Machine}
use Rattle.machine_state.specs.Machine.{comm_in}
use Rattle.rules.specs.State.{root_id, has_id, ids_where, is_final, is_locked, active}
use Rattle.rules.specs.Asking.{may_be_messaged}
use Rattle.comms.specs.declared.CellSets.{CellSets}
use Rattle.comms.specs.Sets.{has_locked, add_where, Sets}

-- ---- a set, one ID a turn

twice : (i : ℕ) → 2 ^ (i + 1) ≡ 2 ^ i * 2
twice i = ap (λ (n : ℕ). 2 ^ n) (add-one i) ∙ pow-suc 2 i

pub below_next : (i ids : ℕ) (is-in : Bool) → ids < 2 ^ i → add_where is-in ids i < 2 ^ (i + 1)
below_next i ids true h = omega (arith, twice i)
below_next i ids false h = omega (arith, twice i)

pub picked : (i ids : ℕ) (is-in : Bool) (p : ℕ → Bool) → ids ≡ number_of i p → is-in ≡ p i → add_where is-in ids i ≡ number_of (i + 1) p
unfolding number_of
picked i ids is-in p e q = ap₂ (λ (b : Bool) (n : ℕ). add_where b n i) q e ∙ go (p i) ∙ ap (λ (n : ℕ). number_of n p) (sym (add-one i))
  where
    go : (b : Bool) → add_where b (number_of i p) i ≡ elim b as (λ x. ℕ) [ true ↦ number_of i p + 2 ^ i | false ↦ number_of i p ]
    go true = refl
    go false = refl

-- ---- machines with the same live IDs and words

module _ (s : CellSets) (m n : Machine) (ids : n.live_ids ≡ m.live_ids) (words : n.comms ≡ m.comms) where
  abbrev is_active : ℕ → List CommRegion → ℕ → Bool
  is_active live table id = not (eqb id root_id) && has_id live id && not (is_final (comm_in table id).cell_state)

  pub same-sets : Sets s m → Sets s n
  unfolding active may_be_messaged has_locked
  same-sets h = record {
    messageable =
        h.messageable
        ∙ sym (ap₂ (λ (live : ℕ) (table : List CommRegion). ids_where (λ id. is_active live table id && not (comm_in table id).passive)) ids words);
    locked =
        h.locked
        ∙ sym (ap₂ (λ (live : ℕ) (table : List CommRegion). ids_where (λ id. is_active live table id && is_locked (comm_in table id).cell_state)) ids words);
  }
