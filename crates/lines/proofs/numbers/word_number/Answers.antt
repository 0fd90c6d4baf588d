-- No digits and a zero before others are no number, else the digits decide. Assumes nothing.
use Rattle.std.proofs.Common.{sym, ◌∙◌}
use Rattle.lines.proofs.NumberLaws.{no-digits, zero-first, all_digits}
use Rattle.lines.proofs.numbers.word_number.Goals as goal

pub returns-then-is_empty : goal.returns-then-is_empty
returns-then-is_empty c = no-digits 64 _ (sym c.is_empty.ensures ∙ c.if-is_empty.true)

pub returns-then-w : goal.returns-then-w
returns-then-w c = zero-first 64 _ c.if-w.true

pub returns : goal.returns
returns c = c.digits_of.ensures ∙ all_digits _ (sym c.is_empty.ensures ∙ c.if-is_empty.false) c.if-w.false
