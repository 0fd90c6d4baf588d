-- `unobeyed::admit_own` meets its contract: each test is a row of the table, in its order. Assumes nothing.
use Rattle.machine_state.specs.declared.Answer.TheVariants.{Stopped, Held}
use Rattle.unobeyed.proofs.Laws.{applies, passes, held-row, none_left}
use Rattle.unobeyed.proofs.admit_own.Goals as goal

pub returns-then-p : goal.returns-then-p
returns-then-p c = applies c.args.m.now _ Stopped _ c.if-p.true

pub returns-then-p-waits : goal.returns-then-p-waits
returns-then-p-waits c =
    passes c.args.m.now _ _ _ c.if-p.false
    (applies c.args.m.now _ Held _ (held-row _ _ _ _ c.waits.ensures c.if-p-waits.true))

pub returns : goal.returns
returns c =
    passes c.args.m.now _ _ _ c.if-p.false
    (passes c.args.m.now _ _ _ (held-row _ _ _ _ c.waits.ensures c.if-p-waits.false)
    (none_left c.args.m.now))
