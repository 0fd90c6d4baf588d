-- `create_rules::new_id` meets its contract: no ID where the pool lacks pages, else the free one. Assumes nothing.
use mathlib.Core.Path.{refl, ◌∙◌}
use Prim.Native.Nat.{◌+◌}
use lib.Dec.{ltb}
use Rattle.cell_record.specs.CellRecord.{cell_of}
use Rattle.rules.specs.Effects.{pool_cost}
use Rattle.create_rules.proofs.Laws.{id-lacks, id-fits}
use Rattle.create_rules.proofs.new_id.Goals as goal

pub returns-then-lacks_pages : goal.returns-then-lacks_pages
unfolding cell_of
returns-then-lacks_pages c =
    let m = c.args.m.now in
    let count = c.u16_at-count.ensures in
    let lacks = c.lacks_pages.ensures ∙ (λ i. ltb m.system.pool.pages (m.pool_used + pool_cost (count i))) in
    id-lacks (cell_of c.args.record.now) m _ lacks c.if-lacks_pages.true

pub returns : goal.returns
unfolding cell_of
returns c =
    let m = c.args.m.now in
    let count = c.u16_at-count.ensures in
    let lacks = c.lacks_pages.ensures ∙ (λ i. ltb m.system.pool.pages (m.pool_used + pool_cost (count i))) in
    c.free_id.ensures m refl ∙ id-fits (cell_of c.args.record.now) m _ lacks c.if-lacks_pages.false
