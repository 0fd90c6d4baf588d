-- `region_table::table_of` meets its contract, by the loop's invariant. Assumes nothing.
use Rattle.std.proofs.Common.{◌≤◌, length, refl, ◌∙◌, rules, arith}
use lib.ListN.{length-set, length-replicate}
use Rattle.region_table.specs.Tables.{region_at}
use Rattle.region_table.proofs.Laws.{filled_none, filled_more, filled-all}
use Rattle.region_table.proofs.table_of.Goals as goal

pub loop-i-init : goal.loop-i-init
loop-i-init g c = (length-replicate _ _, filled_none _ _ _ _ c.no_region-table.ensures)

pub loop-i-preserved : goal.loop-i-preserved
unfolding region_at
loop-i-preserved g c =
    let inside = c.loop-i-test.true in (
      length-set c.loop-i.table c.loop-i.i _ ∙ c.loop-i.invariant.0,
      filled_more _ _ _ c.loop-i.table c.loop-i.invariant.0 c.loop-i.i _ (search rules) (search rules) c.loop-i.invariant.1,
    )

pub returns : goal.returns
returns g c = filled-all _ _ _ c.loop-i.table c.loop-i.invariant.0 _ _ c.loop-i.i c.min-used.ensures (search rules) (search rules) c.loop-i.invariant.1
