-- What is found by a look at live cells, one after another: whether one has a record's name, and whether one has a region in conflict with the
-- record's. Where no cell is left to look at, it is what the rules of Create say of all live cells (`Looks` of the proofs).
use Rattle.std.specs.Prelude.{◌≡◌, Bool, true, false, ◌&&◌, ◌||◌, List, ℕ, eqb, take}
use Rattle.base.specs.Lists.{any, up_to, same}
use Rattle.cell_record.specs.CellRecord.{cell_of, cell_regions}
use Rattle.machine_state.specs.declared.Cell.{Cell}
use Rattle.machine_state.specs.declared.Event.{Event}
use Rattle.machine_state.specs.declared.Event.TheVariants.{Call, Store, Fault, Exit, Poll, Malformed}
use Rattle.machine_state.specs.declared.Machine.{Machine}
use Rattle.machine_state.specs.Machine.{max_cells}
use Rattle.rules.specs.State.{root_id, cell_at, cell_ids, has_id, live}
use Rattle.rules.specs.Create.{conflicts, region_in_use}
use Rattle.rules.specs.Effects.{drop_id}
use Rattle.rules.specs.Calls.{cell_create}
use Rattle.live_cells.specs.declared.Found.{Found}

-- a cell has the record's name; one of its regions is in conflict with one of the record's
abbrev pub has_name : List ℕ → Cell → Bool
has_name bytes c = same c.name (cell_of bytes).name

abbrev pub meets_record : List ℕ → Cell → Bool
meets_record bytes c = conflicts (take c.region_count c.regions) (cell_regions (cell_of bytes))

-- before any look
unfoldable pub nothing_found : Found
nothing_found = record { named = false; held = false }

-- what two looks find
unfoldable pub together : Found → Found → Found
together a b = record { named = a.named || b.named; held = a.held || b.held }

-- what is found once cell `c` is looked at, too
unfoldable pub looked_at : Found → Cell → List ℕ → Found
looked_at found c bytes = together found (record { named = has_name bytes c; held = meets_record bytes c })

-- some cell of a set of IDs passes a test; what a look at the cells of a set finds
unfoldable pub some_of : (Cell → Bool) → ℕ → Machine → Bool
some_of p ids m = any (λ id. has_id ids id && p (cell_at m id)) (up_to max_cells)

unfoldable pub found_in : ℕ → List ℕ → Machine → Found
found_in ids bytes m = record { named = some_of (has_name bytes) ids m; held = some_of (meets_record bytes) ids m }

-- what the rules say of the live cells: the name is a cell's ("-17 name in use", root's aside), and a region meets a live non-root cell's (of "-16")
unfoldable pub found_live : List ℕ → Machine → Found
found_live bytes m = record {
  named = any (λ id. live m id && same (cell_at m id).name (cell_of bytes).name) cell_ids;
  held = region_in_use (cell_regions (cell_of bytes)) m;
}

-- ---- the loop that looks at one live cell after another, where an event asks for it

-- the event is a call of Create
unfoldable pub asks_create : Event → Bool
asks_create (Call cpu code a1 a2) = eqb code cell_create
asks_create (Store cpu word value) = false
asks_create (Fault cpu) = false
asks_create (Exit cpu kind) = false
asks_create Poll = false
asks_create Malformed = false

-- the IDs of the cells to look at for an event: for a Create the live ones but root
unfoldable pub to_look_at : Event → ℕ → ℕ
to_look_at e ids = elim (asks_create e) [ true ↦ drop_id root_id ids | false ↦ 0 ]

-- of the cells to look at, what is found and what those left would add are together what a look at all of them finds
pub record Looking (bytes : List ℕ) (m : Machine) (all : ℕ) (found : Found) (left : ℕ) : Type 0 where
  pub looks : together found (found_in left bytes m) ≡ found_in all bytes m
