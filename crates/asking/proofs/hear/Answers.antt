-- `asking::hear` meets its contract: by the stage, and by whether the cell consents. Assumes nothing.
use mathlib.Core.Path.{◌∙◌}
use Rattle.rules.specs.Asking.{consents}
use Rattle.comms.specs.Comms.{among}
use Rattle.asking.specs.Moves.{effect_of}
use Rattle.asking.proofs.Laws.{moves-as, tells-next, heard-telling, heard-consent, heard-denial, seen}
use Rattle.asking.proofs.hear.Goals as goal

pub tell_next-requires : goal.tell_next-requires
tell_next-requires c = c.next_cell-next.ensures.inside

pub returns-then-stage : goal.returns-then-stage
unfolding among effect_of
returns-then-stage c =
    moves-as c.tell_next.ensures (λ m h. tt)
    (λ m new h. tells-next c.args.kind c.args.stage.target _ m c.args.stage.cell (c.next_cell-next.ensures.value m h.parts.sets.messageable)
    ∙ heard-telling c.args.kind c.args.stage new m c.if-stage.true)

pub returns-then-consents : goal.returns-then-consents
returns-then-consents c =
    moves-as c.ask.ensures (λ m h. h.parts)
    (λ m new h. heard-consent c.args.kind c.args.stage new m c.if-stage.false
    (seen consents m c.args.stage.cell _ _ _ h.words c.consents.ensures
    c.if-consents.true))

pub returns-else-consents : goal.returns-else-consents
returns-else-consents c =
    moves-as c.refuse.ensures (λ m h. tt)
    (λ m new h. heard-denial c.args.kind c.args.stage new m c.if-stage.false
    (seen consents m c.args.stage.cell _ _ _ h.words c.consents.ensures
    c.if-consents.false))
