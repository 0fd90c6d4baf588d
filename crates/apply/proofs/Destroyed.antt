-- Disable goes up the IDs: with each cell destroyed or passed over, the same is left to be destroyed. Assumes nothing.
use mathlib.Core.Path.{◌≡◌, sym, ap, ◌∙◌}
use mathlib.Core.Bool.{true, false}
use mathlib.Core.List.{List, ◌∷◌}
use Prim.Native.Nat.{ℕ, suc, ◌+◌, ◌-◌, ◌≤◌, ◌<◌}
use native.Mathlib.Omega.{arith}
use native.Mathlib.Numerals.{add-one}
use Rattle.base.specs.Lists.{from}
use Rattle.cell_record.specs.declared.CellConfig.{CellConfig}
use Rattle.machine_state.specs.declared.CallKind.TheVariants.{Destroy}
use Rattle.machine_state.specs.declared.Machine.{Machine}
use Rattle.machine_state.specs.Machine.{max_cells}
use Rattle.rules.specs.State.{live}
use Rattle.rules.specs.Effects.{all_destroyed, effect}

pub live_destroyed : (id : ℕ) (m : Machine) (ids : List ℕ) (new : CellConfig) (r : Machine) → live m id ≡ true → r ≡ effect Destroy id new m
    → all_destroyed (id ∷ ids) m ≡ all_destroyed ids r
unfolding all_destroyed effect
live_destroyed id m ids new r e q = rw (e, all_destroyed) (ap (all_destroyed ids) (sym q))

pub absent_stays : (id : ℕ) (m : Machine) (ids : List ℕ) → live m id ≡ false → all_destroyed (id ∷ ids) m ≡ all_destroyed ids m
unfolding all_destroyed
absent_stays id m ids e = rw (e, all_destroyed)

pub destroy-turn : (i : ℕ) (m r : Machine) → i < max_cells → ((ids : List ℕ) → all_destroyed (i ∷ ids) m ≡ all_destroyed ids r)
    → all_destroyed (from i (max_cells - i)) m ≡ all_destroyed (from (i + 1) (max_cells - (i + 1))) r
unfolding from
destroy-turn i m r h f =
    let e : max_cells - i ≡ suc (max_cells - (i + 1)) = omega arith in
    rw (e, from) (f (from (suc i) (max_cells - (i + 1))) ∙ ap (λ (k : ℕ). all_destroyed (from k (max_cells - (i + 1))) r) (sym (add-one i)))

pub destroy-end : (i : ℕ) (m : Machine) → max_cells ≤ i → all_destroyed (from i (max_cells - i)) m ≡ m
unfolding from all_destroyed
destroy-end i m h = let e : max_cells - i ≡ 0 = omega arith in rw (e, from)
