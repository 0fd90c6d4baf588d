-- `lines::five_words` meets its contract: each exit is decided by the tests before it. Assumes nothing.
use Rattle.lines.specs.Lines.{event_of}
use Rattle.machine_state.specs.declared.Event.TheVariants.{Call}
use Rattle.lines.proofs.NumberLaws.{number-told, none-told}
use Rattle.lines.proofs.EventLaws.{told}
use Rattle.lines.proofs.five_words.Goals as goal

pub returns-then-not-is_word : goal.returns-then-not-is_word
unfolding event_of
returns-then-not-is_word c = rw (told c.is_word.ensures c.if-not-is_word.true)

pub returns-in_err-cpu : goal.returns-in_err-cpu
unfolding event_of
returns-in_err-cpu c =
    let is = told c.is_word.ensures c.if-not-is_word.false in
    rw (c.from_residual.ensures, is, none-told 64 c.args.a.now c.word_number.ensures c.in_err-cpu.was)

pub returns-in_err-code : goal.returns-in_err-code
unfolding event_of
returns-in_err-code c =
    let is = told c.is_word.ensures c.if-not-is_word.false in
    let cpu = number-told 64 c.args.a.now _ c.word_number.ensures c.in_ok-cpu.was in
    rw (c.from_residual-in_err-code.ensures, is, cpu.0, none-told 32 c.args.b.now c.word32_number.ensures c.in_err-code.was)

pub returns-in_err-arg1 : goal.returns-in_err-arg1
unfolding event_of
returns-in_err-arg1 c =
    let is = told c.is_word.ensures c.if-not-is_word.false in
    let cpu = number-told 64 c.args.a.now _ c.word_number.ensures c.in_ok-cpu.was in
    let code = number-told 32 c.args.b.now _ c.word32_number.ensures c.in_ok-code.was in
    rw (c.from_residual-in_err-arg1.ensures, is, cpu.0, code.0, none-told 64 c.args.c.now c.word_number-2.ensures c.in_err-arg1.was)

pub returns-in_err-arg2 : goal.returns-in_err-arg2
unfolding event_of
returns-in_err-arg2 c =
    let is = told c.is_word.ensures c.if-not-is_word.false in
    let cpu = number-told 64 c.args.a.now _ c.word_number.ensures c.in_ok-cpu.was in
    let code = number-told 32 c.args.b.now _ c.word32_number.ensures c.in_ok-code.was in
    let arg1 = number-told 64 c.args.c.now _ c.word_number-2.ensures c.in_ok-arg1.was in
    rw (c.from_residual-in_err-arg2.ensures, is, cpu.0, code.0, arg1.0, none-told 64 c.args.d.now c.word_number-3.ensures c.in_err-arg2.was)

pub returns : goal.returns
unfolding event_of
returns c =
    let is = told c.is_word.ensures c.if-not-is_word.false in
    let cpu = number-told 64 c.args.a.now _ c.word_number.ensures c.in_ok-cpu.was in
    let code = number-told 32 c.args.b.now _ c.word32_number.ensures c.in_ok-code.was in
    let arg1 = number-told 64 c.args.c.now _ c.word_number-2.ensures c.in_ok-arg1.was in
    let arg2 = number-told 64 c.args.d.now _ c.word_number-3.ensures c.in_ok-arg2.was in
    rw (is, cpu.0, code.0, arg1.0, arg2.0) (λ i. Call (cpu.1 i) (code.1 i) (arg1.1 i) (arg2.1 i))
