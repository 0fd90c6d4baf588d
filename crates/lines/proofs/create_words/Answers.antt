-- `lines::create_words` meets its contract: each exit is decided by the tests before it. Assumes nothing.
use Rattle.lines.specs.Lines.{is_hex, is_create}
use Rattle.lines.proofs.NumberLaws.{number-told, none-told}
use Rattle.lines.proofs.EventLaws.{told, some-if}
use Rattle.lines.proofs.create_words.Goals as goal

pub returns-then-not-is_word : goal.returns-then-not-is_word
unfolding is_create
returns-then-not-is_word c = rw (told c.is_word.ensures c.if-not-is_word.true)

pub returns-in_err-cpu : goal.returns-in_err-cpu
unfolding is_create
returns-in_err-cpu c =
    let is = told c.is_word.ensures c.if-not-is_word.false in
    rw (c.from_residual.ensures, is, none-told 64 c.args.a.now c.word_number.ensures c.in_err-cpu.was)

pub returns : goal.returns
unfolding is_create
returns c =
    let is = told c.is_word.ensures c.if-not-is_word.false in
    let cpu = number-told 64 c.args.a.now _ c.word_number.ensures c.in_ok-cpu.was in
    rw (c.then_some.ensures, c.is_hex.ensures, cpu.1, is, cpu.0) (some-if (is_hex c.args.b.now) _)
