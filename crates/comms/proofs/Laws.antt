-- A cell's place in the tables: by the number's cases. Assumes nothing.
use mathlib.Core.Path.{◌≡◌, sym, subst}
use Prim.Native.Nat.{ℕ, ◌<◌}
use borrow.Author.Tests.{lt-ltb}
use Rattle.machine_state.specs.Machine.{max_cells}
use Rattle.comms.specs.Comms.{Index, cell_index}

-- a number below the tables' size is its own place
pub cell-inside : (id : ℕ) → id < max_cells → cell_index id ≡ id
unfolding cell_index
cell-inside id h = rw (lt-ltb id max_cells h, cell_index)

-- a place that is one thing's is that of an equal one
pub index_at : {A : Type 0} (place : A → ℕ) (size r : ℕ) (x y : A) → x ≡ y → Index (place y) size r → Index (place x) size r
index_at {A} place size r x y e i = subst (λ (z : A). Index (place z) size r) (sym e) i
