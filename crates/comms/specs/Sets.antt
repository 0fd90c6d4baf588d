-- Sets of cells, by their IDs: those that may be messaged, and those that have locked the configuration.
use Rattle.std.specs.Prelude.{◌≡◌, Bool, true, false, ◌&&◌, ℕ, ◌+◌, ◌^◌}
use Rattle.machine_state.specs.declared.Machine.{Machine}
use Rattle.rules.specs.State.{ids_where, state_at, active, is_locked}
use Rattle.rules.specs.Effects.{drop_id}
use Rattle.rules.specs.Asking.{may_be_messaged}
use Rattle.comms.specs.declared.CellSets.{CellSets}

-- "some active cell has state 1", of one cell
unfoldable pub has_locked : Machine → ℕ → Bool
has_locked m id = active m id && is_locked (state_at m id)

-- the sets are the machine's
pub record Sets (s : CellSets) (m : Machine) : Type 0 where
  pub messageable : s.messageable ≡ ids_where (may_be_messaged m)
  pub locked : s.locked ≡ ids_where (has_locked m)

-- both without one cell
unfoldable pub sets_without : ℕ → CellSets → CellSets
sets_without id s = record { messageable = drop_id id s.messageable; locked = drop_id id s.locked }

-- IDs that are all below `id`, with `id` by a test: what a loop that gathers a set does in a turn
abbrev pub add_where : Bool → ℕ → ℕ → ℕ
add_where true ids id = ids + 2 ^ id
add_where false ids id = ids
