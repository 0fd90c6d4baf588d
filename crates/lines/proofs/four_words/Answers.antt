-- `lines::four_words` meets its contract: each exit is decided by the tests before it. Assumes nothing.
use Rattle.lines.specs.Lines.{event_of}
use Rattle.machine_state.specs.declared.Event.TheVariants.{Store}
use Rattle.lines.proofs.NumberLaws.{number-told, none-told}
use Rattle.lines.proofs.EventLaws.{told}
use Rattle.lines.proofs.four_words.Goals as goal

pub returns-then-not-is_word : goal.returns-then-not-is_word
unfolding event_of
returns-then-not-is_word c = rw (told c.is_word.ensures c.if-not-is_word.true)

pub returns-in_err-cpu : goal.returns-in_err-cpu
unfolding event_of
returns-in_err-cpu c =
    let is = told c.is_word.ensures c.if-not-is_word.false in
    rw (c.from_residual.ensures, is, none-told 64 c.args.a.now c.word_number.ensures c.in_err-cpu.was)

pub returns-in_err-word : goal.returns-in_err-word
unfolding event_of
returns-in_err-word c =
    let is = told c.is_word.ensures c.if-not-is_word.false in
    let cpu = number-told 64 c.args.a.now _ c.word_number.ensures c.in_ok-cpu.was in
    rw (c.from_residual-in_err-word.ensures, is, cpu.0, none-told 64 c.args.b.now c.word_number-2.ensures c.in_err-word.was)

pub returns-in_err-value : goal.returns-in_err-value
unfolding event_of
returns-in_err-value c =
    let is = told c.is_word.ensures c.if-not-is_word.false in
    let cpu = number-told 64 c.args.a.now _ c.word_number.ensures c.in_ok-cpu.was in
    let word = number-told 64 c.args.b.now _ c.word_number-2.ensures c.in_ok-word.was in
    rw (c.from_residual-in_err-value.ensures, is, cpu.0, word.0, none-told 32 c.args.c.now c.word32_number.ensures c.in_err-value.was)

pub returns : goal.returns
unfolding event_of
returns c =
    let is = told c.is_word.ensures c.if-not-is_word.false in
    let cpu = number-told 64 c.args.a.now _ c.word_number.ensures c.in_ok-cpu.was in
    let word = number-told 64 c.args.b.now _ c.word_number-2.ensures c.in_ok-word.was in
    let value = number-told 32 c.args.c.now _ c.word32_number.ensures c.in_ok-value.was in
    rw (is, cpu.0, word.0, value.0) (λ i. Store (cpu.1 i) (word.1 i) (value.1 i))
