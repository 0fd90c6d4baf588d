-- The sets of cells once a cell is cut off: it is failed, so it is in neither, and the others are as before. Assumes nothing.
use mathlib.Core.Bool.{Bool, true, false, not, ◌&&◌}
use mathlib.Core.Path.{◌≡◌, refl, ap, ap₂, ◌∙◌}
use Prim.Native.Nat.{ℕ, ◌<◌}
use native.Mathlib.Omega.{arith}
use lib.Dec.{eqb}
use lib.ListN.{length, length-set}
use lib.Seq.{get_or-set_same, get_or-set_other}
use Rattle.machine_state.specs.declared.CommRegion.{CommRegion}
use Rattle.machine_state.specs.declared.Machine.{Machine}
use Rattle.machine_state.specs.Machine.{past_comm, max_cells}
use Rattle.rules.specs.State.{root_id, comm_at, state_at, live, active, is_final, is_locked, failed, with_comm, with_cpus}
use Rattle.rules.specs.Effects.{with_state, cpus_changed, cell_cut_off}
use Rattle.rules.specs.Asking.{may_be_messaged}
use Rattle.comms.specs.declared.CellSets.{CellSets}
use Rattle.comms.specs.Sets.{has_locked, sets_without}
use Rattle.id_set.proofs.Ids.{dropped-set}
use Rattle.asking.specs.Moves.{WithSets}

module _ (cell : ℕ) (m : Machine) where
  cut-other : (id : ℕ) → (id ≡ cell → ⊥) → comm_at (cell_cut_off cell m) id ≡ comm_at m id
  unfolding cell_cut_off cpus_changed with_cpus with_comm
  cut-other id n = get_or-set_other m.comms cell id (with_state failed (comm_at m cell)) past_comm n

  other-active : (id : ℕ) → (id ≡ cell → ⊥) → active (cell_cut_off cell m) id ≡ active m id
  unfolding active cell_cut_off cpus_changed with_cpus with_comm
  other-active id n = ap (λ (w : CommRegion). not (eqb id root_id) && live m id && not (is_final w.cell_state)) (cut-other id n)

  cut-length : length (cell_cut_off cell m).comms ≡ length m.comms
  unfolding cell_cut_off cpus_changed with_cpus with_comm
  cut-length = length-set m.comms cell (with_state failed (comm_at m cell))

  module _ (inside : cell < max_cells) (size : length m.comms ≡ max_cells) where
    pub cut-own : comm_at (cell_cut_off cell m) cell ≡ with_state failed (comm_at m cell)
    unfolding cell_cut_off cpus_changed with_cpus with_comm
    cut-own = get_or-set_same m.comms cell (with_state failed (comm_at m cell)) past_comm (omega (arith, inside, size))

    own-inactive : active (cell_cut_off cell m) cell ≡ false
    unfolding active
    own-inactive =
        ap (λ (w : CommRegion). not (eqb cell root_id) && live (cell_cut_off cell m) cell && not (is_final w.cell_state)) cut-own
        ∙ none (not (eqb cell root_id)) (live (cell_cut_off cell m) cell)
      where
        none : (a b : Bool) → (a && b && false) ≡ false
        none true true = refl
        none true false = refl
        none false b = refl

    pub cut-sets : (s : CellSets) → WithSets s m → WithSets (sets_without cell s) (cell_cut_off cell m)
    unfolding sets_without may_be_messaged has_locked
    cut-sets s h = record {
      sets = record {
        messageable = dropped-set cell s.messageable (may_be_messaged m) (may_be_messaged (cell_cut_off cell m)) h.sets.messageable
            (ap (λ (b : Bool). b && not (comm_at (cell_cut_off cell m) cell).passive) own-inactive)
            (λ k n. ap₂ (λ (b : Bool) (w : CommRegion). b && not w.passive) (other-active k n) (cut-other k n));
        locked = dropped-set cell s.locked (has_locked m) (has_locked (cell_cut_off cell m)) h.sets.locked
            (ap (λ (b : Bool). b && is_locked (state_at (cell_cut_off cell m) cell)) own-inactive)
            (λ k n. ap₂ (λ (b : Bool) (w : CommRegion). b && is_locked w.cell_state) (other-active k n) (cut-other k n));
      };
      size = cut-length ∙ size;
    }
