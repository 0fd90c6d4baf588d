-- The pool: "boot's figure plus the sum of 2 + regions over cells the history has created and not destroyed".
use Rattle.std.specs.Prelude.{◌≡◌, true, List, [], ◌∷◌, ℕ, ◌+◌, ◌%◌, ◌^◌, ◌≤◌}
use Rattle.system_record.specs.declared.SystemConfig.{SystemConfig}
use Rattle.cell_record.specs.CellRecord.{cell_of}
use Rattle.machine_state.specs.declared.Power.TheVariants.{Disabled}
use Rattle.machine_state.specs.declared.Machine.{Machine}
use Rattle.rules.specs.Effects.{pool_cost}
use Rattle.rules.specs.Run.{Manager}
use Rattle.history.specs.History.{Created, History, has_cell, record_brought}
use Rattle.reached.specs.Always.{Always}

-- "the sum of 2 + regions"
unfoldable pub costs : List Created → ℕ
costs [] = 0
costs (c ∷ cells) = pool_cost (cell_of c.bytes).region_count + costs cells

pub record PoolFigure (boot : SystemConfig) (h : History) (m : Machine) : Type 0 where
  pub sum : m.pool_used ≡ boot.pool.used + costs h.cells
  -- "it never passes the total"
  pub within : m.pool_used ≤ boot.pool.pages
  -- no sum wraps: where there is room for a cell of n regions, its cost is added as it is
  pub no_sum_wraps : (n : ℕ) → m.pool_used + pool_cost n ≤ boot.pool.pages → (m.pool_used + pool_cost n) % 2 ^ 32 ≡ m.pool_used + pool_cost n
  -- no difference wraps: what a cell gives back is in use
  pub no_difference_wraps : (id : ℕ) → has_cell id h.cells ≡ true → pool_cost (record_brought id h.cells).region_count ≤ m.pool_used
  -- "After Disable it is boot's figure again"
  pub after_disable : m.power ≡ Disabled → m.pool_used ≡ boot.pool.used

abbrev pub PoolFigureAlways : Manager → Type 0
PoolFigureAlways = Always PoolFigure
