-- A log in pieces. Feeding is by bytes, so that of two pieces it goes on where the first left; a piece without a line feed makes the line
-- begun longer, and a line feed ends it. Past the first byte behind the longest line nothing matters, so what is kept of it answers as the whole. Assumes
-- nothing.
use mathlib.Core.Path.{◌≡◌, refl, sym, ap, ap₂, ◌∙◌}
use mathlib.Core.Bool.{Bool, true, false}
use mathlib.Core.List.{List, [], ◌∷◌, ◌++◌}
use Prim.Native.Nat.{ℕ, zero, suc, ◌+◌, ◌-◌, ◌≤◌, ◌<◌}
use native.Mathlib.Nat.{}
use mathlib.Core.List.{append-nil, append_assoc}
use native.Mathlib.Numerals.{add-one}
use native.Mathlib.Omega.{arith}
use lib.Dec.{eqb}
use lib.ListN.{length, take, drop, get_or, length-take, length-drop}
use lib.Seq.{take-suc, take_all, take-add, get_or-drop}
use Rattle.machine_state.specs.declared.Event.{Event}
use Rattle.machine_state.specs.declared.Machine.{Machine}
use Rattle.machine_state.specs.declared.Stepped.{Stepped}
use Rattle.machine_state.specs.Machine.{boot_of}
use Rattle.rules.specs.State.{answered}
use Rattle.rules.specs.Step.{step}
use Rattle.lines.specs.Lines.{line_event, line_record}
use Rattle.lines.proofs.Laws.{event-cut, record-cut}
use Rattle.machine_state.specs.declared.Answer.{Answer}
use Rattle.texts.specs.Texts.{answer_line, boot_line}
use Rattle.texts.proofs.Laws.{answer-short}
use Rattle.replay_log.specs.Replay.{line_feed, last_line, lines_from, lines_of, step_line, answers_to, unless_negative, replay_text}
use Rattle.replay_log.specs.Feed.{Going, ended, longer, feed_byte, feed, end_of, text_at_end, line_length, kept_bytes}

-- two pieces are fed one after the other
pub feed-append : (xs ys : List ℕ) (g : Going) → feed (xs ++ ys) g ≡ feed ys (feed xs g)
unfolding feed
feed-append [] ys g = refl
feed-append (x ∷ xs) ys g = feed-append xs ys (feed_byte x g)

-- of bytes that are cut twice the second cut decides
cut_twice : (k : ℕ) (xs ys : List ℕ) → take k (take k xs ++ ys) ≡ take k (xs ++ ys)
cut_twice zero xs ys = refl
cut_twice (suc k) [] ys = refl
cut_twice (suc k) (x ∷ xs) ys = ap (λ (r : List ℕ). x ∷ r) (cut_twice k xs ys)

-- one byte, by whether it is a line feed
module _ (b : ℕ) (bs : List ℕ) where
  length-feed : eqb b line_feed ≡ true → line_length (b ∷ bs) ≡ 0
  unfolding line_length
  length-feed q = rw (q, line_length)

  length-other : eqb b line_feed ≡ false → line_length (b ∷ bs) ≡ suc (line_length bs)
  unfolding line_length
  length-other q = rw (q, line_length)

pub byte-feed : (b : ℕ) (g : Going) → eqb b line_feed ≡ true → feed_byte b g ≡ ended g
unfolding feed_byte
byte-feed b g q = rw (q, feed_byte)

pub byte-other : (b : ℕ) (g : Going) → eqb b line_feed ≡ false → feed_byte b g ≡ longer (b ∷ []) g
unfolding feed_byte
byte-other b g q = rw (q, feed_byte)

-- a line made longer twice
pub longer-twice : (bs cs : List ℕ) (g : Going) → longer cs (longer bs g) ≡ longer (bs ++ cs) g
unfolding longer
longer-twice bs cs g = λ i. record {
  machine = g.machine;
  begun = (cut_twice kept_bytes (g.begun ++ bs) cs ∙ ap (take kept_bytes) (append_assoc g.begun bs cs)) i;
  text = g.text;
}

pub longer-fits : (bs : List ℕ) (g : Going) → length (longer bs g).begun ≤ kept_bytes
unfolding longer
longer-fits bs g = let n = length-take kept_bytes (g.begun ++ bs) in omega arith

-- bytes without a line feed make the line longer
pub feed-plain : (bs : List ℕ) (g : Going) → length g.begun ≤ kept_bytes → line_length bs ≡ length bs → feed bs g ≡ longer bs g
unfolding feed longer
feed-plain [] g h e = λ i. record {
  machine = g.machine;
  begun = sym (ap (take kept_bytes) (append-nil g.begun) ∙ take_all kept_bytes g.begun h) i;
  text = g.text;
}
feed-plain (b ∷ bs) g h e = by-test (eqb b line_feed) refl (feed-plain bs (longer (b ∷ []) g) (longer-fits (b ∷ []) g))
  where
    by-test : (t : Bool) → eqb b line_feed ≡ t → (line_length bs ≡ length bs → feed bs (longer (b ∷ []) g) ≡ longer bs (longer (b ∷ []) g))
        → feed bs (feed_byte b g) ≡ longer (b ∷ bs) g
    by-test true q again = let none = sym (length-feed b bs q) ∙ e in absurd (omega arith)
    by-test false q again =
        let rest = sym (length-other b bs q) ∙ e in
        ap (feed bs) (byte-other b g q) ∙ again (omega arith) ∙ longer-twice (b ∷ []) bs g

-- the bytes before the first line feed have none, and it stands behind them
pub before-feed : (log : List ℕ) → line_length (take (line_length log) log) ≡ length (take (line_length log) log)
unfolding line_length
before-feed [] = refl
before-feed (b ∷ bs) = by-test (eqb b line_feed) refl (before-feed bs)
  where
    by-test : (t : Bool) → eqb b line_feed ≡ t → line_length (take (line_length bs) bs) ≡ length (take (line_length bs) bs)
        → line_length (take (line_length (b ∷ bs)) (b ∷ bs)) ≡ length (take (line_length (b ∷ bs)) (b ∷ bs))
    by-test true q h = ap (λ (n : ℕ). line_length (take n (b ∷ bs))) (length-feed b bs q) ∙ sym (ap (λ (n : ℕ). length (take n (b ∷ bs))) (length-feed b bs q))
    by-test false q h =
        ap (λ (n : ℕ). line_length (take n (b ∷ bs))) (length-other b bs q) ∙ length-other b (take (line_length bs) bs) q ∙ ap suc h
        ∙ sym (ap (λ (n : ℕ). length (take n (b ∷ bs))) (length-other b bs q))

pub at-feed : (log : List ℕ) → line_length log < length log → eqb (get_or log (line_length log) 0) line_feed ≡ true
at-feed [] h = absurd (omega arith)
at-feed (b ∷ bs) h = by-test (eqb b line_feed) refl (at-feed bs)
  where
    by-test : (t : Bool) → eqb b line_feed ≡ t → (line_length bs < length bs → eqb (get_or bs (line_length bs) 0) line_feed ≡ true)
        → eqb (get_or (b ∷ bs) (line_length (b ∷ bs)) 0) line_feed ≡ true
    by-test true q again = ap (λ (n : ℕ). eqb (get_or (b ∷ bs) n 0) line_feed) (length-feed b bs q) ∙ q
    by-test false q again =
        let e = length-other b bs q in
        ap (λ (n : ℕ). eqb (get_or (b ∷ bs) n 0) line_feed) e ∙ again (omega arith)

-- a turn of the run: the line that is begun goes on from `at` to `end`
module _ (log : List ℕ) (at end : ℕ) (start g : Going) (fed : feed (take at log) start ≡ g) (short : length g.begun ≤ kept_bytes)
    (is_end : end ≡ at + line_length (drop at log)) where
  -- to the end of the piece
  pub turn-open : feed (take end log) start ≡ longer (take (end - at) (drop at log)) g
  turn-open =
      let size : end - at ≡ line_length (drop at log) = omega arith in
      ap (λ (n : ℕ). feed (take n log) start) is_end ∙ ap (λ (l : List ℕ). feed l start) (take-add at (line_length (drop at log)) log)
      ∙ feed-append (take at log) (take (line_length (drop at log)) (drop at log)) start
      ∙ ap (feed (take (line_length (drop at log)) (drop at log))) fed
      ∙ feed-plain (take (line_length (drop at log)) (drop at log)) g short (before-feed (drop at log))
      ∙ ap (λ (n : ℕ). longer (take n (drop at log)) g) (sym size)

  -- to a line feed
  pub turn-ended : end < length log → feed (take (end + 1) log) start ≡ ended (longer (take (end - at) (drop at log)) g)
  unfolding feed
  turn-ended h =
      let inside : line_length (drop at log) < length (drop at log) = (let n = length-drop at log in omega arith) in
      let here : eqb (get_or log end 0) line_feed ≡ true =
      ap (λ (n : ℕ). eqb (get_or log n 0) line_feed) is_end ∙ ap (λ (x : ℕ). eqb x line_feed) (sym (get_or-drop at log (line_length (drop at log)) 0))
      ∙ at-feed (drop at log) inside in
      ap (λ (n : ℕ). feed (take n log) start) (add-one end) ∙ ap (λ (l : List ℕ). feed l start) (take-suc log end 0 h)
      ∙ feed-append (take end log) (get_or log end 0 ∷ []) start ∙ ap (feed_byte (get_or log end 0)) turn-open
      ∙ byte-feed (get_or log end 0) (longer (take (end - at) (drop at log)) g) here

-- a line that is cut answers as the whole
line-cut : (line : List ℕ) (m : Machine) → step_line (take kept_bytes line) m ≡ step_line line m
unfolding step_line
line-cut line m = ap₂ (λ (e : Event) (bytes : List ℕ). step e bytes m) (event-cut line) (record-cut line)

lines-feed : (b : ℕ) (bs begun : List ℕ) → eqb b line_feed ≡ true → lines_from begun (b ∷ bs) ≡ begun ∷ lines_from [] bs
unfolding lines_from
lines-feed b bs begun q = rw (q, lines_from)

lines_other : (b : ℕ) (bs begun : List ℕ) → eqb b line_feed ≡ false → lines_from begun (b ∷ bs) ≡ lines_from (begun ++ (b ∷ [])) bs
unfolding lines_from
lines_other b bs begun q = rw (q, lines_from)

-- the text written at the end of a log, from a line that is begun: that of the lines
text-from : (log begun : List ℕ) (m : Machine) (text : List ℕ)
    → text_at_end (feed log (record { machine = m; begun = take kept_bytes begun; text = text })) ≡ text ++ answers_to (lines_from begun log) m
unfolding feed lines_from last_line answers_to end_of ended longer
text-from [] [] m text = sym (append-nil text)
text-from [] (x ∷ xs) m text =
    ap (λ (s : Stepped). text ++ answer_line s.answer) (line-cut (x ∷ xs) m)
    ∙ sym (ap (λ (t : List ℕ). text ++ t) (append-nil (answer_line (step_line (x ∷ xs) m).answer)))
text-from (b ∷ bs) begun m text = by-test (eqb b line_feed) refl (text-from bs)
  where
    g : Going
    g = record { machine = m; begun = take kept_bytes begun; text = text }

    by-test : (t : Bool) → eqb b line_feed ≡ t
        → ((begun : List ℕ) (m : Machine) (text : List ℕ)
        → text_at_end (feed bs (record { machine = m; begun = take kept_bytes begun; text = text })) ≡ text ++ answers_to (lines_from begun bs) m)
        → text_at_end (feed bs (feed_byte b g)) ≡ text ++ answers_to (lines_from begun (b ∷ bs)) m
    by-test true q again =
        let s = step_line begun m in
        let first = answer_line s.answer in
        ap (λ (h : Going). text_at_end (feed bs h)) (byte-feed b g q)
        ∙ ap (λ (s : Stepped). text_at_end (feed bs (record { machine = s.machine; begun = []; text = text ++ answer_line s.answer }))) (line-cut begun m)
        ∙ again [] s.machine (text ++ first) ∙ append_assoc text first (answers_to (lines_from [] bs) s.machine)
        ∙ ap (λ (ls : List (List ℕ)). text ++ answers_to ls m) (sym (lines-feed b bs begun q))
    by-test false q again =
        ap (λ (h : Going). text_at_end (feed bs h)) (byte-other b g q)
        ∙ ap (λ (l : List ℕ). text_at_end (feed bs (record { machine = m; begun = l; text = text }))) (cut_twice kept_bytes begun (b ∷ []))
        ∙ again (begun ++ (b ∷ [])) m text ∙ ap (λ (ls : List (List ℕ)). text ++ answers_to ls m) (sym (lines_other b bs begun q))

-- however a log is cut, the text that a run writes is that of the log's lines
pub fed-is-replay : (log : List ℕ) (m : Machine)
    → text_at_end (feed log (record { machine = m; begun = []; text = [] })) ≡ answers_to (lines_of log) m
fed-is-replay log m = text-from log [] m []

-- a run's place, in its parts
abbrev pub going : Machine → List ℕ → List ℕ → Going
going m begun text = record { machine = m; begun = begun; text = text }

-- a turn of the run, on its parts: the bytes up to `end` were put behind those kept
module _ (log : List ℕ) (at end : ℕ) (start : Going) (m : Machine) (begun text : List ℕ) (fed : feed (take at log) start ≡ going m begun text)
    (short : length begun ≤ kept_bytes) (is_end : end ≡ at + line_length (drop at log)) (line : List ℕ)
    (is_line : line ≡ take kept_bytes (begun ++ take (end - at) (drop at log))) where
  -- the piece ends before the line
  pub goes-open : feed (take end log) start ≡ going m line text
  unfolding longer
  goes-open = turn-open log at end start (going m begun text) fed short is_end ∙ ap (λ (l : List ℕ). going m l text) (sym is_line)

  -- the line ends, and its answer is written
  pub goes-on-ended : end < length log → (answer : Answer) (next : Machine) (text' : List ℕ)
      → answered answer next ≡ step (line_event line) (line_record line) m → text' ≡ text ++ answer_line answer
      → feed (take (end + 1) log) start ≡ going next [] text'
  unfolding longer ended step_line answered
  goes-on-ended h answer next text' is_step is_text =
      turn-ended log at end start (going m begun text) fed short is_end h ∙ ap (λ (l : List ℕ). ended (going m l text)) (sym is_line)
      ∙ ap (λ (s : Stepped). going s.machine [] (text ++ answer_line s.answer)) (sym is_step) ∙ ap (going next []) (sym is_text)

-- the end of a log: no line, or one more
pub end_none : (m : Machine) (begun : List ℕ) → begun ≡ [] → text_at_end (going m begun []) ≡ []
unfolding end_of
end_none m begun e = ap (λ (b : List ℕ). text_at_end (going m b [])) e

pub text-at-end-short : (m : Machine) (begun : List ℕ) → length (text_at_end (going m begun [])) ≤ 32
unfolding end_of ended
text-at-end-short m [] = omega arith
text-at-end-short m (b ∷ bs) = answer-short (step_line (b ∷ bs) m).answer

-- the whole output of a replay: boot's line and, unless it is a refusal, what a run over the log writes
pub replay-is : (system log : List ℕ)
    → replay_text system log
    ≡ boot_line (boot_of system).code
    ++ unless_negative (boot_of system).code (text_at_end (feed log (record { machine = (boot_of system).machine; begun = []; text = [] })))
unfolding replay_text
replay-is system log =
    ap (λ (t : List ℕ). boot_line (boot_of system).code ++ unless_negative (boot_of system).code t) (sym (fed-is-replay log (boot_of system).machine))
