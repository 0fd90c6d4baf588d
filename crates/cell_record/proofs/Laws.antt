-- The regions of a cell's values are those that stand in its record, as many as a table holds. Assumes nothing.
use mathlib.Core.Path.{◌≡◌}
use mathlib.Core.List.{List}
use Prim.Native.Nat.{ℕ, min}
use Rattle.fields.specs.Fields.{u16}
use Rattle.region_table.specs.Tables.{max_regions, regions_of}
use Rattle.region_table.proofs.Laws.{table-regions}
use Rattle.cell_record.specs.CellRecord.{cell_of, cell_regions}

pub record-regions : (r : List ℕ) → cell_regions (cell_of r) ≡ regions_of 56 (min (u16 48 r) max_regions) r
unfolding cell_of
record-regions r = table-regions 56 r max_regions (u16 48 r)
