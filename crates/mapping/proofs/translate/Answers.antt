-- `mapping::translate` meets its contract: each test is one of the definition, in its order. A page that the region has is no earlier than the
-- region's first, and below 2^36, so that no number wraps. Assumes nothing.
use mathlib.Core.Path.{sym, ◌∙◌}
use borrow.Author.Tests.{not-true, not-false}
use Rattle.machine_state.specs.declared.Mapping.TheVariants.{Page}
use Rattle.rules.specs.Pages.{mapped_by, has_virt, phys_of}
use Rattle.mapping.proofs.Laws.{page-small, page-starts, page-sum}
use Prim.Native.Nat.{◌/◌}
use Rattle.std.proofs.Common.{rules}
use mathlib.Core.Path.{ap}
use mathlib.Core.Bool.{not}
use Rattle.mapping.proofs.translate.Goals as goal

pub returns-then-not-has_virt : goal.returns-then-not-has_virt
unfolding mapped_by
returns-then-not-has_virt c = rw (sym c.has_virt.ensures ∙ not-true _ (ap not c.if-not-has_virt.true), mapped_by)

pub returns-then-is_comm : goal.returns-then-is_comm
unfolding mapped_by
returns-then-is_comm c = rw (sym c.has_virt.ensures ∙ not-false _ (ap not c.if-not-has_virt.false), sym c.is_comm.ensures ∙ c.if-is_comm.true, mapped_by)

pub overflow_sub-result : goal.overflow_sub-result
unfolding has_virt
overflow_sub-result c = page-starts _ _ _ (sym c.has_virt.ensures ∙ not-false _ (ap not c.if-not-has_virt.false))

pub overflow_add-result : goal.overflow_add-result
unfolding has_virt
overflow_add-result c =
    let small = page-small _ _ _ (sym c.has_virt.ensures ∙ not-false _ (ap not c.if-not-has_virt.false)) in
    record { fits = page-sum c.args.r.phys (c.args.r.virt / 4096) c.args.page.0 (search rules) small }

pub returns : goal.returns
unfolding mapped_by phys_of
returns c =
    rw (sym c.has_virt.ensures ∙ not-false _ (ap not c.if-not-has_virt.false), sym c.is_comm.ensures ∙ c.if-is_comm.false, mapped_by)
    (λ i. Page (phys_of c.args.r c.args.page) (c.access_of.ensures i))
