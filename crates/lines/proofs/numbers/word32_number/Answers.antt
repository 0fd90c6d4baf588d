-- A number below 2^64 is one below 2^32 where its value is. Assumes nothing.
use Rattle.std.proofs.Common.{sym, ◌∙◌}
use Rattle.lines.proofs.NumberLaws.{none-32, narrowed}
use Rattle.lines.proofs.numbers.word32_number.Goals as goal

pub returns-in_err-word_number : goal.returns-in_err-word_number
returns-in_err-word_number c = c.from_residual.ensures ∙ none-32 c.args.w.now (sym c.in_err-word_number.was ∙ c.word_number.ensures)

pub returns : goal.returns
returns c =
    c.ok.ensures.value ∙ narrowed c.args.w.now c.in_ok-word_number.field-0 _ (sym c.in_ok-word_number.was ∙ c.word_number.ensures) c.try_from.ensures
