-- `unobeyed::admit_malformed` meets its contract: off, else bad. Assumes nothing.
use mathlib.Core.Path.{refl}
use Rattle.machine_state.specs.declared.Answer.TheVariants.{Off, Bad}
use Rattle.rules.specs.Unobeyed.{unobeyed}
use Rattle.unobeyed.proofs.Laws.{applies, passes, negated, not-admitted}
use Rattle.unobeyed.proofs.admit_malformed.Goals as goal

pub returns-then-not-is_on : goal.returns-then-not-is_on
unfolding unobeyed
returns-then-not-is_on c =
    record { follows = applies c.args.m.now _ Off _ (negated _ _ _ c.is_on.ensures c.if-not-is_on.true); placed = λ q. not-admitted Off q }

pub returns : goal.returns
unfolding unobeyed
returns c =
    record {
      follows = passes c.args.m.now _ _ _ (negated _ _ _ c.is_on.ensures c.if-not-is_on.false) (applies c.args.m.now _ Bad _ refl);
      placed = λ q. not-admitted Bad q;
    }
