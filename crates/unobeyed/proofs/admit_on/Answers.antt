-- `unobeyed::admit_on` meets its contract: each test is a row of the table, in its order. A CPU of the boot set is below 64. Assumes nothing.
use Rattle.machine_state.specs.declared.Answer.TheVariants.{Off, Bad}
use Rattle.unobeyed.proofs.Laws.{applies, passes, negated, not-admitted, in-table}
use Rattle.unobeyed.proofs.admit_on.Goals as goal

pub returns-then-not-is_on : goal.returns-then-not-is_on
returns-then-not-is_on c =
    record {
      follows = applies c.args.m.now _ Off _ (negated _ _ _ c.is_on.ensures c.if-not-is_on.true);
      in_table = λ q. not-admitted Off q;
      not_bad = λ q. not-admitted Off q;
    }

pub returns-then-not-contains : goal.returns-then-not-contains
returns-then-not-contains c =
    record {
      follows = passes c.args.m.now _ _ _ (negated _ _ _ c.is_on.ensures c.if-not-is_on.false)
          (applies c.args.m.now _ Bad _ (negated _ _ _ c.contains.ensures c.if-not-contains.true));
      in_table = λ q. not-admitted Bad q;
      not_bad = λ q. not-admitted Bad q;
    }

pub returns-then-bad : goal.returns-then-bad
returns-then-bad c =
    record {
      follows = passes c.args.m.now _ _ _ (negated _ _ _ c.is_on.ensures c.if-not-is_on.false)
          (passes c.args.m.now _ _ _ (negated _ _ _ c.contains.ensures c.if-not-contains.false)
          (applies c.args.m.now _ Bad _ c.if-bad.true));
      in_table = λ q. not-admitted Bad q;
      not_bad = λ q. not-admitted Bad q;
    }

pub admit_own-requires : goal.admit_own-requires
admit_own-requires c = in-table _ _ _ c.contains.ensures c.if-not-contains.false

pub returns : goal.returns
returns c =
    record {
      follows = passes c.args.m.now _ _ _ (negated _ _ _ c.is_on.ensures c.if-not-is_on.false)
          (passes c.args.m.now _ _ _ (negated _ _ _ c.contains.ensures c.if-not-contains.false)
          (passes c.args.m.now _ _ _ c.if-bad.false c.admit_own.ensures));
      in_table = λ q. in-table _ _ _ c.contains.ensures c.if-not-contains.false;
      not_bad = λ q. c.if-bad.false;
    }
