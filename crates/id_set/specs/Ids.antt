-- The lowest of a set of IDs, and how many it has.
use Rattle.std.specs.Prelude.{◌≡◌, true, ℕ, ◌<◌, Option, Some, None}
use Rattle.base.specs.Lists.{up_to}
use Rattle.cpu_set.specs.CpuSet.{count_below}
use Rattle.machine_state.specs.Machine.{max_cells}
use Rattle.rules.specs.State.{first, has_id, some_id}

-- the lowest ID of a set, root's included, which the set has; none of a set that is empty
pub record Lowest (ids : ℕ) (r : Option ℕ) : Type 0 where
  pub is : r ≡ some_id (first (has_id ids) (up_to max_cells))
  pub found : (id : ℕ) → r ≡ Some id → (id < max_cells) × (has_id ids id ≡ true)
  pub none : r ≡ None → ids ≡ 0

-- how many IDs a set has
unfoldable pub id_count : ℕ → ℕ
id_count ids = count_below max_cells (has_id ids)
