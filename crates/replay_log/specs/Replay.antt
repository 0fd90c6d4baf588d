-- Replay. Document 01, "Replay program": what is printed for a system record and a log.
use Rattle.std.specs.Prelude.{true, false, List, [], ◌∷◌, ◌++◌, ℕ, eqb, ℤ, pos, negsuc}
use Rattle.machine_state.specs.declared.Machine.{Machine}
use Rattle.machine_state.specs.declared.Stepped.{Stepped}
use Rattle.machine_state.specs.Machine.{boot_of}
use Rattle.rules.specs.Step.{step}
use Rattle.lines.specs.Lines.{line_event, line_record}
use Rattle.texts.specs.Texts.{answer_line, boot_line}

-- "a line feed ends a line, the last may lack it": the lines of a log, of which the first bytes are already there. After the last line
-- feed no bytes are no line
abbrev pub line_feed : ℕ
line_feed = 10

unfoldable pub last_line : List ℕ → List (List ℕ)
last_line [] = []
last_line (b ∷ bs) = (b ∷ bs) ∷ []

unfoldable pub lines_from : List ℕ → List ℕ → List (List ℕ)
lines_from begun [] = last_line begun
lines_from begun (b ∷ bs) = elim (eqb b line_feed) [ true ↦ begun ∷ lines_from [] bs | false ↦ lines_from (begun ++ (b ∷ [])) bs ]

abbrev pub lines_of : List ℕ → List (List ℕ)
lines_of log = lines_from [] log

-- one line: its event meets the machine that the last one left
unfoldable pub step_line : List ℕ → Machine → Stepped
step_line line m = step (line_event line) (line_record line) m

-- the answers to lines, one after the other
unfoldable pub answers_to : List (List ℕ) → Machine → List ℕ
answers_to [] m = []
answers_to (l ∷ ls) m = answer_line (step_line l m).answer ++ answers_to ls (step_line l m).machine

-- "Prints `boot N`; stops if N is negative; then per line .."
unfoldable pub unless_negative : ℤ → List ℕ → List ℕ
unless_negative (pos n) text = text
unless_negative (negsuc n) text = []

unfoldable pub replay_text : List ℕ → List ℕ → List ℕ
replay_text system log = boot_line (boot_of system).code ++ unless_negative (boot_of system).code (answers_to (lines_of log) (boot_of system).machine)
