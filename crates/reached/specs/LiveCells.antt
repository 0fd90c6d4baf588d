-- The live cells are those that the history has created and not destroyed, and each is what its record said; at most one call waits, for a live,
-- messaged cell that is not root.
use Rattle.std.specs.Prelude.{◌≡◌, true, false, not, ◌||◌, ℕ, eqb}
use Rattle.base.specs.Lists.{any}
use Rattle.regions.specs.Regions.{comm}
use Rattle.system_record.specs.declared.SystemConfig.{SystemConfig}
use Rattle.cell_record.specs.CellRecord.{cell_regions}
use Rattle.machine_state.specs.declared.Machine.{Machine}
use Rattle.rules.specs.State.{root_id, comm_at, live, waits, waited_for}
use Rattle.rules.specs.Run.{Manager}
use Rattle.history.specs.History.{History, has_cell, record_brought}
use Rattle.reached.specs.Always.{Always}
use Rattle.reached.specs.Kept.{kept}

pub record LiveCells (boot : SystemConfig) (h : History) (m : Machine) : Type 0 where
  -- "live (created, not destroyed)"; root always is
  pub lives : (id : ℕ) → live m id ≡ (eqb id root_id || has_cell id h.cells)
  -- what the machine keeps of a cell (name, CPUs, regions, passive mark, whether it has a comm region) is what its record said
  pub records : (id : ℕ) → has_cell id h.cells ≡ true → kept m id ≡ record_brought id h.cells
  pub regions : (id : ℕ) → has_cell id h.cells ≡ true → (comm_at m id).mapped ≡ any comm (cell_regions (record_brought id h.cells))
  -- and of the system what boot's record said
  pub system : m.system ≡ boot
  -- a call waits exactly where the answers say so, for the cell that the last `wait` named
  pub waiting : waits m.waiting ≡ not (eqb h.waits_for root_id)
  pub cell : waited_for m.waiting ≡ h.waits_for
  -- that cell is live, not root, and one that may be messaged: not passive
  pub not_root : has_cell root_id h.cells ≡ false
  pub waited : waits m.waiting ≡ true → has_cell h.waits_for h.cells ≡ true
  pub messaged : waits m.waiting ≡ true → (record_brought h.waits_for h.cells).passive ≡ false

abbrev pub LiveCellsAlways : Manager → Type 0
LiveCellsAlways = Always LiveCells
