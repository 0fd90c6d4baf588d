-- The turns of a run: a line is read to its line feed and answered, or as far as the piece goes, and the run stands as it should again. Assumes
-- nothing.
use Rattle.std.proofs.Common.{◌≡◌, refl, sym, ap, ap₂, subst, ◌∙◌, List, ◌++◌, ℕ, ◌+◌, ◌-◌, ◌≤◌, ◌<◌, length, take, drop, Bool, false, ltb, leb, ◌&&◌, eqb, arith, min, [], le-ltb}
use Rattle.std.specs.Prelude.{Option, Some, None, position, true, not, cond, suc}
use Rattle.std.specs.Option.{unwrap_or}
use Rattle.std.proofs.lemmas.List.Sums.{prefix_len-le-length}
use mathlib.Core.Bool.{and-false}
use borrow.Author.Tests.{ltb-false}
use lib.ListN.{length-drop}
use lib.Seq.{take_all}
use borrow.Author.Tests.{lt-leb}
use Rattle.std.specs.List.{position_or_len}
use Rattle.std.proofs.lemmas.List.Recursion.{is_position_or_len}
use Rattle.machine_state.specs.declared.Answer.{Answer}
use Rattle.machine_state.specs.declared.Event.{Event}
use Rattle.machine_state.specs.declared.Machine.{Machine}
use Rattle.rules.specs.State.{answered}
use Rattle.rules.specs.Step.{step}
use Rattle.lines.specs.declared.Line.{Line}
use Rattle.lines.specs.Lines.{max_record}
use Rattle.lines.specs.Reading.{ReadsLine}
use Rattle.texts.specs.Texts.{answer_line}
use Rattle.replay_log.specs.Replay.{line_feed, step_line}
use Rattle.replay_log.specs.Feed.{Going, feed, line_length, going_of, kept_bytes}
use Rattle.replay_log.specs.declared.Replay.{Replay}
use Rattle.replay_log.specs.Run.{Puts, Runs}
use Rattle.replay_log.proofs.Buffers.{begun-short, next-inside, drop-further, kept-bytes, record-read}
use Rattle.replay_log.proofs.Laws.{going, goes-open, goes-on-ended}
use Rattle.replay_log.proofs.Standing.{Stands}

-- the bytes before the first line feed, as a search finds it
pub first-feed : (bytes : List ℕ) (r : Option ℕ) → r ≡ position (λ b. eqb b line_feed) bytes → unwrap_or r (length bytes) ≡ line_length bytes
unfolding line_length
first-feed bytes r e =
    let feed : ℕ → Bool = λ b. eqb b line_feed in
    let low = prefix_len-le-length (λ b. not (feed b)) bytes in
    ap (λ (x : Option ℕ). unwrap_or x (length bytes)) e ∙ by-place (ltb (position_or_len feed bytes) (length bytes)) refl low
    ∙ sym (is_position_or_len line_length feed refl (λ x xs. step (feed x) (line_length xs)) bytes)
  where
    step : (b : Bool) (n : ℕ) → elim b as (λ x. ℕ) [ true ↦ 0 | false ↦ suc n ] ≡ cond b 0 (1 + n)
    step true n = refl
    step false n = omega arith

    by-place : (b : Bool) → ltb (position_or_len (λ b. eqb b line_feed) bytes) (length bytes) ≡ b → position_or_len (λ b. eqb b line_feed) bytes ≤ length bytes
        → unwrap_or (cond b (Some (position_or_len (λ b. eqb b line_feed) bytes)) None) (length bytes) ≡ position_or_len (λ b. eqb b line_feed) bytes
    by-place true t low = refl
    by-place false t low = let past = ltb-false (position_or_len (λ b. eqb b line_feed) bytes) (length bytes) t in omega arith

-- the bytes from a place on
pub from-place : (at : ℕ) (log : List ℕ) → take (length log - at) (drop at log) ≡ drop at log
from-place at log = take_all (length log - at) (drop at log) (let e = length-drop at log in omega arith)

-- a line that was read is answered as the line
pub line-answered : (line buffer buffer' : List ℕ) (read : Line) (m : Machine) → ReadsLine line buffer read buffer' → length buffer ≡ max_record
    → step read.event (take read.len buffer') m ≡ step_line line m
unfolding step_line
line-answered line buffer buffer' read m r size =
    ap₂ (λ (e : Event) (bytes : List ℕ). step e bytes m) r.event (record-read line buffer buffer' read.len size r.size r.bytes)

module _ (log out₀ : List ℕ) (start : Going) (m : Machine) (out line : List ℕ) (at len written : ℕ) (s : Stands log out₀ start m out line at len written)
    (end size : ℕ) (line' : List ℕ) (is_end : end ≡ at + line_length (drop at log)) (inside : end ≤ length log)
    (is_line : take size line' ≡ take (length line) (take len line ++ take (end - at) (drop at log))) (sized : length line' ≡ length line) (fits : size ≤ length line) where
  whole-line : take size line' ≡ take kept_bytes (take len line ++ take (end - at) (drop at log))
  whole-line = is_line ∙ ap (λ (n : ℕ). take n (take len line ++ take (end - at) (drop at log))) s.line_size

  -- the piece ends before the line
  pub read-on : Stands log out₀ start m out line' end size written
  read-on = record {
    fed = goes-open log at end start m (take len line) (take written out) s.fed (begun-short line len s.short) is_end (take size line') whole-line;
    taken = inside;
    inside = s.inside;
    out_size = s.out_size;
    short = subst (λ (n : ℕ). size ≤ n) s.line_size fits;
    line_size = sized ∙ s.line_size;
    rest = s.rest;
  }

  -- the line ends, and its answer is written
  pub line-ended : end < length log → (answer : Answer) (next : Machine) (place : ℕ) (out' : List ℕ) → Puts answer written out place out'
      → answered answer next ≡ step_line (take size line') m → Stands log out₀ start next out' line' (end + 1) 0 place
  unfolding step_line
  line-ended more answer next place out' u is_step = record {
    fed =
        goes-on-ended log at end start m (take len line) (take written out) s.fed (begun-short line len s.short) is_end (take size line') whole-line more answer
        next (take place out') is_step u.text;
    taken = next-inside end (length log) more;
    inside = subst (λ (n : ℕ). place ≤ n) (sym u.size) u.inside;
    out_size = u.size ∙ s.out_size;
    short = omega arith;
    line_size = sized ∙ s.line_size;
    rest =
        u.rest ∙ subst (λ (n : ℕ). drop n out ≡ drop n out₀) (sym u.ahead) (drop-further out out₀ written (length (answer_line answer)) s.rest);
  }

-- the run ends where the log is taken or no line fits
module _ (log out : List ℕ) (at written : ℕ) where
  pub log-taken : length log ≤ at → (ltb at (length log) && leb 32 (length out - written)) ≡ false
  log-taken h = ap (λ (b : Bool). b && leb 32 (length out - written)) (le-ltb at (length log) h)

  pub no-room : (out' : List ℕ) → length out' ≡ length out → length out' - written < 32 → (ltb at (length log) && leb 32 (length out - written)) ≡ false
  no-room out' same h =
      ap (λ (b : Bool). ltb at (length log) && b) (ap (λ (n : ℕ). leb 32 (n - written)) (sym same) ∙ lt-leb 32 (length out' - written) h) ∙ and-false (ltb at (length log))

pub ran : (kept : Replay) (log out₀ : List ℕ) (n : ℕ) (m : Machine) (out line : List ℕ) (at len written : ℕ) → length kept.line ≡ kept_bytes → n ≡ min kept.len kept_bytes
    → Stands log out₀ (going kept.machine (take n kept.line) []) m out line at len written
    → (ltb at (length log) && leb 32 (length out₀ - written)) ≡ false
    → Runs kept log out₀ (record { replay = record { machine = m; line = line; len = len }; taken = at; written = written }) out
unfolding going_of
ran kept log out₀ n m out line at len written size is s stops = record {
  fed = ap (λ (b : List ℕ). feed (take at log) (going kept.machine b [])) (sym (kept-bytes kept.line kept.len n size is)) ∙ s.fed;
  rest = s.rest;
  taken = s.taken;
  written = subst (λ (k : ℕ). written ≤ k) s.out_size s.inside;
  stops = stops;
}
