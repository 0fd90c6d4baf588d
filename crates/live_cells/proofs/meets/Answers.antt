-- `live_cells::meets` meets its contract. Whichever of the two is looked at first, the same pairs are. Assumes nothing.
use Rattle.std.proofs.Common.{ℕ, Bool, List, take, sym, ap, ◌∙◌, rules, tests}
use Rattle.base.specs.Lists.{any, up_to}
use Rattle.base.proofs.Chains.{any-below}
use Rattle.regions.specs.declared.MemRegion.{MemRegion}
use Rattle.region_table.specs.Tables.{region_at, regions_of}
use Rattle.cell_record.specs.CellRecord.{cell_of, cell_regions}
use Rattle.cell_record.proofs.Laws.{record-regions}
use Rattle.rules.specs.Create.{conflict, conflicts}
use Rattle.live_cells.proofs.Pairs.{any-exchange, any-regions-of}
use Rattle.live_cells.proofs.meets.Goals as goal

abbrev met_by : List MemRegion → MemRegion → Bool
met_by rs s = any (λ r. conflict r s) rs

pub returns : goal.returns
unfolding conflicts
returns c =
    let rs = take c.args.c.now.region_count c.args.c.now.regions in
    let bytes = c.args.«record».now in
    any-below (λ i. met_by c.regions-regions.result.now (region_at 56 bytes i)) c.region_count.result c.any.result c.any.ensures.ran (λ i b q h. search (rules, tests))
    ∙ ap (λ (ss : List MemRegion). any (λ i. met_by ss (region_at 56 bytes i)) (up_to c.region_count.result)) c.regions-regions.ensures
    ∙ any-regions-of (met_by rs) 56 c.region_count.result bytes
    ∙ ap (λ (k : ℕ). any (met_by rs) (regions_of 56 k bytes)) c.region_count.ensures
    ∙ ap (any (met_by rs)) (sym (record-regions bytes))
    ∙ any-exchange conflict rs (cell_regions (cell_of bytes))
