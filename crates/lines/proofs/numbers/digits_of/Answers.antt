-- By the loop's invariant. Assumes nothing.
use Rattle.std.proofs.Common.{sym, ◌∙◌}
use Rattle.lines.proofs.NumberLaws.{digits-stop, digits-turn, digits-end}
use Rattle.lines.proofs.numbers.digits_of.Goals as goal

pub returns-in_err-n : goal.returns-in_err-n
returns-in_err-n c =
    c.from_residual.ensures
    ∙ digits-stop c.args.w.now c.loop-b.n c.loop-b.b-index c.loop-b-test.true (sym c.in_err-n.was ∙ c.with_digit.ensures)
    ∙ c.loop-b.invariant.whole

pub loop-b-preserved : goal.loop-b-preserved
loop-b-preserved c =
    let turn = digits-turn c.args.w.now c.loop-b.n c.loop-b.b-index c.loop-b-test.true c.in_ok-n.n (sym c.in_ok-n.was ∙ c.with_digit.ensures) in
    record { fits = turn.0; whole = turn.1 ∙ c.loop-b.invariant.whole }

pub returns : goal.returns
returns c = digits-end c.args.w.now c.loop-b.n c.loop-b.b-index c.loop-b-test.false c.loop-b.invariant.fits ∙ c.loop-b.invariant.whole
