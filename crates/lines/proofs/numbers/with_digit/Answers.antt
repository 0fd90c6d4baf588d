-- By the tests of the byte and of the room that the number leaves below 2^64. Assumes nothing.
use Rattle.std.proofs.Common.{sym, ◌∙◌, arith}
use Rattle.lines.proofs.NumberLaws.{no-digit, too_large, added}
use Rattle.lines.proofs.numbers.with_digit.Goals as goal

pub returns-then-not-is_ascii_digit : goal.returns-then-not-is_ascii_digit
returns-then-not-is_ascii_digit c = no-digit _ _ (sym c.if-not-is_ascii_digit.ensures.value)

pub returns-in_err-checked_mul : goal.returns-in_err-checked_mul
returns-in_err-checked_mul c =
    let full = c.in_err-checked_mul.ensures in
    c.from_residual.ensures ∙ too_large c.args.n c.args.b (sym c.if-not-is_ascii_digit.ensures.value) (omega arith)

pub returns : goal.returns
returns c =
    added c.args.n c.args.b c.in_ok-checked_mul.field-0 _ _ (sym c.if-not-is_ascii_digit.ensures.value) c.in_ok-checked_mul.ensures.1 c.from-digit.ensures c.checked_add.ensures
