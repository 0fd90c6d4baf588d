-- The loop's invariant: the table holds the first `i` regions of the record.
use Rattle.std.proofs.Common.{◌≡◌, ◌≤◌, length}
use Rattle.region_table.proofs.Laws.{Filled}
use Rattle.region_table.proofs.table_of.Given as goal

abbrev pub invariant-loop-i : goal.invariant-loop-i
invariant-loop-i g l = (length l.table ≡ g.row.N) × Filled g.row.N l.base l.s l.i l.table
