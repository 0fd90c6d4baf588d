-- Where a run stands between two turns: the log up to `at`, fed to what was kept, is the machine with the bytes of the line begun and the text written.
-- Assumes nothing.
use Rattle.std.proofs.Common.{◌≡◌, List, ℕ, ◌≤◌, length, take, drop}
use Rattle.machine_state.specs.declared.Machine.{Machine}
use Rattle.replay_log.specs.Feed.{Going, feed, kept_bytes}
use Rattle.replay_log.proofs.Laws.{going}

pub record Stands (log out₀ : List ℕ) (start : Going) (m : Machine) (out line : List ℕ) (at len written : ℕ) : Type 0 where
  pub fed : feed (take at log) start ≡ going m (take len line) (take written out)
  pub taken : at ≤ length log
  pub inside : written ≤ length out
  pub out_size : length out ≡ length out₀
  pub short : len ≤ kept_bytes
  pub line_size : length line ≡ kept_bytes
  pub rest : drop written out ≡ drop written out₀
