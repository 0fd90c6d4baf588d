-- `lines::cut_line` meets its contract: each word ends at the next space or with the line, and the words say the event and the HEX.
-- Assumes nothing.
use Rattle.std.proofs.Common.{◌∙◌}
use Rattle.lines.proofs.WordLaws.{then, some_word}
use Rattle.lines.proofs.EventLaws.{six-words, cut-words, cut-long}
use Rattle.lines.proofs.RecordLaws.{one-word-only, two-words-only, more-words}
use Rattle.lines.proofs.cut_line.Goals as goal

pub returns-then-line-gt-MAX_LINE : goal.returns-then-line-gt-MAX_LINE
returns-then-line-gt-MAX_LINE c = cut-long _ _ _ c.if-line-gt-MAX_LINE.true c.plain.ensures.event c.plain.ensures.hex

pub returns-in_default : goal.returns-in_default
returns-in_default c =
    let w1 = rw c.in_default.is at c.first_word.ensures in
    cut-words _ _ _ _ c.if-line-gt-MAX_LINE.false w1 (c.plain-in_default.ensures.event ∙ c.one_word.ensures) (c.plain-in_default.ensures.hex ∙ one-word-only _)

pub returns-in_default-rest : goal.returns-in_default-rest
returns-in_default-rest c =
    let w1 = rw c.in-Some.is at c.first_word.ensures in
    let w2 = rw c.in_default-rest.is at c.first_word-2.ensures in
    cut-words _ _ _ _ c.if-line-gt-MAX_LINE.false (then w1 w2) (c.plain-in_default-rest.ensures.event ∙ c.two_words.ensures) (c.plain-in_default-rest.ensures.hex ∙ two-words-only _ _)

pub returns-in_default-rest-2 : goal.returns-in_default-rest-2
returns-in_default-rest-2 c =
    let w1 = rw c.in-Some.is at c.first_word.ensures in
    let w2 = rw c.in-Some-rest.is at c.first_word-2.ensures in
    let w3 = rw c.in_default-rest-2.is at c.first_word-3.ensures in
    cut-words _ _ _ _ c.if-line-gt-MAX_LINE.false (then w1 (then w2 w3)) c.three_words.ensures.event c.three_words.ensures.hex

pub returns-in_default-rest-3 : goal.returns-in_default-rest-3
returns-in_default-rest-3 c =
    let w1 = rw c.in-Some.is at c.first_word.ensures in
    let w2 = rw c.in-Some-rest.is at c.first_word-2.ensures in
    let w3 = rw c.in-Some-rest-2.is at c.first_word-3.ensures in
    let w4 = rw c.in_default-rest-3.is at c.first_word-4.ensures in
    cut-words _ _ _ _ c.if-line-gt-MAX_LINE.false (then w1 (then w2 (then w3 w4))) (c.plain-in_default-rest-3.ensures.event ∙ c.four_words.ensures) (c.plain-in_default-rest-3.ensures.hex ∙ more-words _ _ _ _ _)

pub returns-in-None : goal.returns-in-None
returns-in-None c =
    let w1 = rw c.in-Some.is at c.first_word.ensures in
    let w2 = rw c.in-Some-rest.is at c.first_word-2.ensures in
    let w3 = rw c.in-Some-rest-2.is at c.first_word-3.ensures in
    let w4 = rw c.in-Some-rest-3.is at c.first_word-4.ensures in
    let w5 = rw c.in-None.is at c.first_word-5.ensures in
    cut-words _ _ _ _ c.if-line-gt-MAX_LINE.false (then w1 (then w2 (then w3 (then w4 w5)))) (c.plain-in-None.ensures.event ∙ c.five_words.ensures) (c.plain-in-None.ensures.hex ∙ more-words _ _ _ _ _)

pub returns-in-Some-rest-4 : goal.returns-in-Some-rest-4
returns-in-Some-rest-4 c =
    let w1 = rw c.in-Some.is at c.first_word.ensures in
    let w2 = rw c.in-Some-rest.is at c.first_word-2.ensures in
    let w3 = rw c.in-Some-rest-2.is at c.first_word-3.ensures in
    let w4 = rw c.in-Some-rest-3.is at c.first_word-4.ensures in
    let w5 = rw c.in-Some-rest-4.is at c.first_word-5.ensures in
    cut-words _ _ _ _ c.if-line-gt-MAX_LINE.false (then w1 (then w2 (then w3 (then w4 (then w5 (some_word _).2))))) (c.plain-in-Some-rest-4.ensures.event ∙ six-words _ _ _ _ _ _ _) (c.plain-in-Some-rest-4.ensures.hex ∙ more-words _ _ _ _ _)
