-- What a run over a piece of a log gives.
use Rattle.std.specs.Prelude.{◌≡◌, false, ◌&&◌, List, [], ◌++◌, ℕ, ◌+◌, ◌-◌, ◌≤◌, leb, ltb, length, take, drop}
use Rattle.machine_state.specs.declared.Answer.{Answer}
use Rattle.texts.specs.Texts.{answer_line}
use Rattle.replay_log.specs.declared.Replay.{Replay}
use Rattle.replay_log.specs.declared.Ran.{Ran}
use Rattle.replay_log.specs.Feed.{feed, going_of}

-- an answer's line stands behind what was written, and nothing else is changed
pub record Puts (answer : Answer) (written : ℕ) (before : List ℕ) (place : ℕ) (after : List ℕ) : Type 0 where
  pub text : take place after ≡ take written before ++ answer_line answer
  pub rest : drop place after ≡ drop place before
  pub ahead : place ≡ written + length (answer_line answer)
  pub inside : place ≤ length before
  pub size : length after ≡ length before

-- the log up to `taken`, fed to what was kept, gives the run to go on with and the text written; the rest of the buffer stays; and the run
-- stops where the log is taken or no line fits
pub record Runs (kept : Replay) (log before : List ℕ) (r : Ran) (after : List ℕ) : Type 0 where
  pub fed : feed (take r.taken log) (going_of kept []) ≡ going_of r.replay (take r.written after)
  pub rest : drop r.written after ≡ drop r.written before
  pub taken : r.taken ≤ length log
  pub written : r.written ≤ length before
  pub stops : (ltb r.taken (length log) && leb 32 (length before - r.written)) ≡ false
