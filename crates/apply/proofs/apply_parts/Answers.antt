-- `apply::apply_parts` meets its contract: at the start all is left, each turn leaves the same machine to be made, and at the end nothing is left.
-- Assumes nothing.
use Rattle.std.proofs.Common.{◌≡◌, length, rules, sym, refl, ◌∙◌}
use Rattle.machine_state.specs.Machine.{max_cpus}
use Rattle.effects.specs.Applying.{IsNext}
use Rattle.effects.proofs.Applying.{only-rest, all-applied}
use Rattle.apply.proofs.Laws.{as-next}
use Rattle.apply.proofs.apply_parts.Goals as goal

pub loop-part-init : goal.loop-part-init
loop-part-init c =
    let size : length c.args.m.now.cpus ≡ max_cpus = search rules in (size, only-rest c.args.m.now size _ _ _ _ 0 refl)

pub apply_part-left-requires : goal.apply_part-left-requires
apply_part-left-requires c = (c.loop-part.invariant.0, as-next _ _ _ _ _ _ c.in-Some.is c.next_part.ensures)

pub loop-part-preserved : goal.loop-part-preserved
loop-part-preserved c = (c.apply_part-left.ensures.size, c.apply_part-left.ensures.same ∙ c.loop-part.invariant.1)

pub returns : goal.returns
unfolding IsNext
returns c =
    let is = as-next _ _ _ _ _ _ c.in_default.is c.next_part.ensures in
    sym (all-applied c.loop-part.m c.loop-part.invariant.0 _ _ _ _ _ is.0 is.1 is.2) ∙ c.loop-part.invariant.1
