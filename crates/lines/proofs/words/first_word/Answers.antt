-- A word ends at the first space, or with the line. Assumes nothing.
use Rattle.std.proofs.Common.{sym, ap, ◌∙◌, ◌-◌, ◌+◌, List, ℕ, ◌∷◌, length, take, drop, length-drop, arith}
use Rattle.std.proofs.Math.Seq.{take_all}
use Rattle.lines.specs.Lines.{line_words}
use Rattle.lines.proofs.WordLaws.{word_more, word-last}
use Rattle.lines.proofs.words.first_word.Goals as goal

pub returns-in-Some : goal.returns-in-Some
returns-in-Some c =
    let line = c.args.line.now in
    let from = c.in-Some.end + 1 in
    word_more line c.in-Some.end (sym c.space.ensures ∙ c.in-Some.is)
    ∙ ap (λ (l : List ℕ). take c.in-Some.end line ∷ line_words l) (sym (take_all (length line - from) (drop from line) (omega (arith, length-drop from line))))

pub returns-in-None : goal.returns-in-None
returns-in-None c = word-last _ (sym c.space.ensures ∙ c.in-None.is)
