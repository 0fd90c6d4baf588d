-- Two states of the reading-room box in which the claims about pages are not empty: a page that two cells share, and a page that root loads.
use Rattle.std.specs.Prelude.{◌≡◌, true, List, [], ◌∷◌, ℕ}
use Rattle.machine_state.specs.declared.PhysPage.{PhysPage}
use Rattle.machine_state.specs.declared.Owner.{Owner}
use Rattle.machine_state.specs.declared.Machine.{Machine}
use Rattle.rules.specs.Pages.{owner_of, loads, may_touch}
use Rattle.rules.specs.Step.{step}
use Rattle.rules.specs.Run.{Line, after, Accepted, start_of}
use Rattle.reading_room.specs.ReadingRoom.{box, search, region, cell, log_call, log_create}

-- a passive cell of one CPU set, with one region: read, write and shared (35), read, write and execute (7)
unfoldable pub passive_cell : ℕ → ℕ → ℕ → ℕ → List ℕ
passive_cell letter cpus start flags = cell 1 (letter ∷ []) cpus 1 (region start 0 4096 flags)

abbrev pub page : ℕ → PhysPage
page n = record { 0 = n }

-- two cells with one shared page
abbrev pub sharing : List Line
sharing = log_create 0 (passive_cell 0x61 2 0x10000000 35) ∷ log_create 0 (passive_cell 0x62 4 0x10000000 35) ∷ []

-- `search` created and set loadable
abbrev pub loading_search : List Line
loading_search = log_create 0 search ∷ log_call 0 3 1 0 ∷ []

abbrev pub on : List Line → Machine
on lines = after step (start_of box) lines

pub record NotEmpty : Type 0 where
  pub accepted : Accepted box
  -- both cells, and root, may touch the shared page
  pub first_shares : may_touch 1 (page 0x10000) (on sharing) ≡ true
  pub second_shares : may_touch 2 (page 0x10000) (on sharing) ≡ true
  pub root_shares : may_touch 0 (page 0x10000) (on sharing) ≡ true
  pub its_owner : owner_of (page 0x10000) (on sharing) ≡ Owner.Shared
  -- root and the cell may touch the page in loading, which is the cell's own
  pub root_loads : may_touch 0 (page 0x3a000) (on loading_search) ≡ true
  pub cell_loads : may_touch 1 (page 0x3a000) (on loading_search) ≡ true
  pub in_loading : loads (page 0x3a000) (on loading_search) 1 ≡ true
  pub still_owner : owner_of (page 0x3a000) (on loading_search) ≡ Owner.Cell 1
