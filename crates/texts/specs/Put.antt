-- A text that was written into a buffer, and the place after it: what the functions behind the lines promise one another.
use Rattle.std.specs.Prelude.{◌≡◌, List, [], ℕ, ◌+◌, length}
use Rattle.std.proofs.lemmas.List.Edits.{sets}
use Rattle.machine_state.specs.declared.Answer.{Answer}
use Rattle.machine_state.specs.declared.Answer.TheVariants.{Code, Wait, Done, Off, Bad, Stopped, Held, Denied, Idle}
use Rattle.texts.specs.Texts.{answer_text, code_text, wait_text, decimal, signed}

-- `text` stands in `after` from `at` on, over what was in `out`; the next place is `next`
pub record Put (at : ℕ) (text out : List ℕ) (next : ℕ) (after : List ℕ) : Type 0 where
  pub place : next ≡ at + length text
  pub bytes : after ≡ sets out at text

-- an answer's text, cut where its number begins: the word
abbrev pub word_of : Answer → List ℕ
word_of (Code code) = code_text
word_of (Wait cell) = wait_text
word_of Done = answer_text Done
word_of Off = answer_text Off
word_of Bad = answer_text Bad
word_of Stopped = answer_text Stopped
word_of Held = answer_text Held
word_of Denied = answer_text Denied
word_of Idle = answer_text Idle

-- and the number, if it has one
abbrev pub number_of : Answer → List ℕ
number_of (Code code) = signed code
number_of (Wait cell) = decimal cell
number_of Done = []
number_of Off = []
number_of Bad = []
number_of Stopped = []
number_of Held = []
number_of Denied = []
number_of Idle = []
