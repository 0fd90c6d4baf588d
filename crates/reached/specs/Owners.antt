-- Demand 2: "every started CPU has exactly one owner (the one non-root cell whose record names it, or root where none does)".
use Rattle.std.specs.Prelude.{◌≡◌, Bool, true, false, ◌&&◌, ℕ, eqb}
use Rattle.cpu_set.specs.CpuSet.{member}
use Rattle.system_record.specs.declared.SystemConfig.{SystemConfig}
use Rattle.machine_state.specs.declared.Machine.{Machine}
use Rattle.rules.specs.State.{root_id, cell_at, cpu_at, cell_ids, first, live, or_root, cpu_owner}
use Rattle.rules.specs.Run.{Manager}
use Rattle.history.specs.History.{History, has_cell, record_brought}
use Rattle.reached.specs.Always.{Always}

-- a cell that the history has created and not destroyed, and whose record names the CPU
unfoldable pub names : History → ℕ → ℕ → Bool
names h cpu id = has_cell id h.cells && member cpu (record_brought id h.cells).cpus

-- "the one non-root cell whose record names it, or root where none does"
unfoldable pub cpu_owner_in : History → ℕ → ℕ
cpu_owner_in h cpu = or_root (first (names h cpu) cell_ids)

-- the machine's set of a cell's CPUs, root's included
unfoldable pub cpus_of : Machine → ℕ → ℕ
cpus_of m id = elim (eqb id root_id) [ true ↦ m.root_cpus | false ↦ (cell_at m id).cpus ]

pub record OneOwner (boot : SystemConfig) (h : History) (m : Machine) : Type 0 where
  -- no two cells' records name one CPU
  pub one : (cpu i j : ℕ) → names h cpu i ≡ true → names h cpu j ≡ true → i ≡ j
  -- the cell that a started CPU says it is in is its owner, and so is the one that the rules read from the tables
  pub says : (cpu : ℕ) → member cpu boot.cpus ≡ true → (cpu_at m cpu).cell ≡ cpu_owner_in h cpu
  pub read : (cpu : ℕ) → cpu_owner m cpu ≡ cpu_owner_in h cpu
  -- a cell's set, root's included, has exactly the started CPUs that it owns, and none outside the boot set
  pub sets : (id cpu : ℕ) → live m id ≡ true → member cpu (cpus_of m id) ≡ (member cpu boot.cpus && eqb (cpu_owner_in h cpu) id)
  -- and is the one that the record brought
  pub brought : (id : ℕ) → has_cell id h.cells ≡ true → (cell_at m id).cpus ≡ (record_brought id h.cells).cpus

abbrev pub OneOwnerAlways : Manager → Type 0
OneOwnerAlways = Always OneOwner
