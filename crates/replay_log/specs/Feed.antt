-- A log that comes in pieces: what is kept between two of them. `Laws.feed-append` says that two pieces are fed as one, `Laws.fed-is-replay`
-- that the text written is that of the log's lines, and `Laws.replay-is` the same of the whole output.
use Rattle.std.specs.Prelude.{true, false, List, [], ◌∷◌, ◌++◌, ℕ, suc, eqb, take}
use Rattle.machine_state.specs.declared.Machine.{Machine}
use Rattle.lines.specs.Lines.{max_line}
use Rattle.texts.specs.Texts.{answer_line}
use Rattle.replay_log.specs.declared.Replay.{Replay}
use Rattle.replay_log.specs.Replay.{line_feed, step_line}

-- the machine, the bytes of a line that has no line feed yet, and the text written so far
pub record Going : Type 0 where
  pub machine : Machine
  pub begun : List ℕ
  pub text : List ℕ

-- a line ends: its answer is written
unfoldable pub ended : Going → Going
ended g = record {
  machine = (step_line g.begun g.machine).machine;
  begun = [];
  text = g.text ++ answer_line (step_line g.begun g.machine).answer;
}

-- more bytes of a line. One longer than the longest is malformed whatever it holds, so no more than one byte past that is kept
abbrev pub kept_bytes : ℕ
kept_bytes = suc max_line

unfoldable pub longer : List ℕ → Going → Going
longer bytes g = record { machine = g.machine; begun = take kept_bytes (g.begun ++ bytes); text = g.text }

-- one byte, and a piece of log
unfoldable pub feed_byte : ℕ → Going → Going
feed_byte b g = elim (eqb b line_feed) [ true ↦ ended g | false ↦ longer (b ∷ []) g ]

unfoldable pub feed : List ℕ → Going → Going
feed [] g = g
feed (b ∷ bs) g = feed bs (feed_byte b g)

-- the end of the log: "the last may lack it"
unfoldable pub end_of : List ℕ → Going → Going
end_of [] g = g
end_of (b ∷ bs) g = ended g

abbrev pub text_at_end : Going → List ℕ
text_at_end g = (end_of g.begun g).text

-- the bytes of a piece before its first line feed
unfoldable pub line_length : List ℕ → ℕ
line_length [] = 0
line_length (b ∷ bs) = elim (eqb b line_feed) [ true ↦ 0 | false ↦ suc (line_length bs) ]

-- what a run keeps, with the text written so far
unfoldable pub going_of : Replay → List ℕ → Going
going_of r text = record { machine = r.machine; begun = take r.len r.line; text = text }
