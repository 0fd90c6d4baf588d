-- Demand 2: "no two cells can touch a page unless it is shared or being loaded, and none can touch hypervisor memory".
use Rattle.std.specs.Prelude.{◌≡◌, true, false, ℕ}
use Rattle.system_record.specs.declared.SystemConfig.{SystemConfig}
use Rattle.machine_state.specs.declared.PhysPage.{PhysPage}
use Rattle.machine_state.specs.declared.CellPage.{CellPage}
use Rattle.machine_state.specs.declared.Access.{Access}
use Rattle.machine_state.specs.declared.Owner.TheVariants as Owner
use Rattle.machine_state.specs.declared.Mapping.TheVariants.{Page}
use Rattle.machine_state.specs.declared.Machine.{Machine}
use Rattle.rules.specs.State.{root_id}
use Rattle.rules.specs.Pages.{has_page, owns, owner_of, loads, may_touch, mapping_of}
use Rattle.rules.specs.Run.{Manager}
use Rattle.history.specs.History.{History}
use Rattle.reached.specs.Always.{Always}

-- some cell page of a cell maps to a physical page
pub record MapsTo (m : Machine) (id : ℕ) (p : PhysPage) : Type 0 where
  pub page : CellPage
  pub access : Access
  pub maps : mapping_of id page m ≡ Page p access

-- two cells may touch a page: it is shared, or the first is root and it is a loadable page of the second, which is in loading, or the other way
-- round
pub data Why (m : Machine) (i j : ℕ) (p : PhysPage) : Type 0 where
  shared : owner_of p m ≡ Owner.Shared → Why m i j p
  loading : i ≡ root_id → loads p m j ≡ true → Why m i j p
  loaded : j ≡ root_id → loads p m i ≡ true → Why m i j p

pub record Touch (boot : SystemConfig) (h : History) (m : Machine) : Type 0 where
  -- what a cell may touch is exactly what its mappings give
  pub touches : (id : ℕ) (p : PhysPage) → may_touch id p m ≡ true → MapsTo m id p
  pub mapped : (id : ℕ) (p : PhysPage) → MapsTo m id p → may_touch id p m ≡ true
  -- "no two cells can touch a page unless it is shared or being loaded"
  pub two : (i j : ℕ) (p : PhysPage) → (i ≡ j → ⊥) → may_touch i p m ≡ true → may_touch j p m ≡ true → Why m i j p
  -- "none can touch hypervisor memory"
  pub hypervisor : (id : ℕ) (p : PhysPage) → has_page boot.hypervisor.start boot.hypervisor.size p.0 ≡ true → may_touch id p m ≡ false
  -- a page has at most one owner among the cells
  pub one : (i j : ℕ) (p : PhysPage) → (i ≡ root_id → ⊥) → (j ≡ root_id → ⊥) → owns p m i ≡ true → owns p m j ≡ true → i ≡ j

abbrev pub TouchAlways : Manager → Type 0
TouchAlways = Always Touch
