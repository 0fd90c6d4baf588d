-- `unobeyed::admit_poll` meets its contract: each test is a row of the table, in its order. Assumes nothing.
use Rattle.machine_state.specs.declared.Answer.TheVariants.{Off, Idle}
use Rattle.rules.specs.Unobeyed.{unobeyed}
use Rattle.unobeyed.specs.Admission.{Placed}
use Rattle.unobeyed.proofs.Laws.{applies, passes, negated, none_left, not-admitted}
use Rattle.unobeyed.proofs.admit_poll.Goals as goal

pub returns-then-not-is_on : goal.returns-then-not-is_on
unfolding unobeyed
returns-then-not-is_on c =
    record { follows = applies c.args.m.now _ Off _ (negated _ _ _ c.is_on.ensures c.if-not-is_on.true); placed = λ q. not-admitted Off q }

pub returns-then-not-waits : goal.returns-then-not-waits
unfolding unobeyed
returns-then-not-waits c =
    record {
      follows = passes c.args.m.now _ _ _ (negated _ _ _ c.is_on.ensures c.if-not-is_on.false)
          (applies c.args.m.now _ Idle _ (negated _ _ _ c.waits.ensures c.if-not-waits.true));
      placed = λ q. not-admitted Idle q;
    }

pub returns : goal.returns
unfolding unobeyed Placed
returns c =
    record {
      follows = passes c.args.m.now _ _ _ (negated _ _ _ c.is_on.ensures c.if-not-is_on.false)
          (passes c.args.m.now _ _ _ (negated _ _ _ c.waits.ensures c.if-not-waits.false)
          (none_left c.args.m.now));
      placed = λ q. tt;
    }
