-- `cell_record::has_comm` meets its contract: the regions whose numbers are asked are those that the count names. Assumes nothing.
use mathlib.Core.Path.{sym, ap, ◌∙◌}
use Prim.Native.Nat.{ℕ}
use Rattle.base.specs.Lists.{any}
use Rattle.base.proofs.Chains.{any-below}
use Rattle.regions.specs.Regions.{comm}
use Rattle.region_table.specs.Tables.{region_at, regions_of}
use Rattle.region_table.proofs.Laws.{any-numbered}
use Rattle.cell_record.proofs.Laws.{record-regions}
use Rattle.std.proofs.Common.{rules}
use Rattle.cell_record.proofs.has_comm.Goals as goal

pub returns : goal.returns
returns c =
    let r = c.args.s.now in
    let n = c.region_count.result in
    any-below (λ i. comm (region_at 56 r i)) n c.any.result c.any.ensures.ran (λ i b q h. search rules)
    ∙ any-numbered 56 r comm n ∙ ap (λ (k : ℕ). any comm (regions_of 56 k r)) c.region_count.ensures ∙ ap (any comm) (sym (record-regions r))
