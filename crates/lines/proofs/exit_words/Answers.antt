-- `lines::exit_words` meets its contract: each exit is decided by the tests before it. Assumes nothing.
use Rattle.lines.specs.Lines.{is_exit}
use Rattle.machine_state.specs.declared.Event.TheVariants.{Exit}
use Rattle.std.specs.Prelude.{Some}
use Rattle.lines.proofs.NumberLaws.{number-told, none-told}
use Rattle.lines.proofs.EventLaws.{told}
use Rattle.lines.proofs.exit_words.Goals as goal

pub returns-then-not-is_word : goal.returns-then-not-is_word
unfolding is_exit
returns-then-not-is_word c = rw (told c.is_word.ensures c.if-not-is_word.true)

pub returns-in_err-cpu : goal.returns-in_err-cpu
unfolding is_exit
returns-in_err-cpu c =
    let is = told c.is_word.ensures c.if-not-is_word.false in
    rw (c.from_residual.ensures, is, none-told 64 c.args.a.now c.word_number.ensures c.in_err-cpu.was)

pub returns-in_err-kind : goal.returns-in_err-kind
unfolding is_exit
returns-in_err-kind c =
    let is = told c.is_word.ensures c.if-not-is_word.false in
    let cpu = number-told 64 c.args.a.now _ c.word_number.ensures c.in_ok-cpu.was in
    rw (c.from_residual-in_err-kind.ensures, is, cpu.0, none-told 64 c.args.b.now c.word_number-2.ensures c.in_err-kind.was)

pub returns : goal.returns
unfolding is_exit
returns c =
    let is = told c.is_word.ensures c.if-not-is_word.false in
    let cpu = number-told 64 c.args.a.now _ c.word_number.ensures c.in_ok-cpu.was in
    let kind = number-told 64 c.args.b.now _ c.word_number-2.ensures c.in_ok-kind.was in
    rw (is, cpu.0, kind.0) (λ i. Some (Exit (cpu.1 i) (kind.1 i)))
