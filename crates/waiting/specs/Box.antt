-- Waiting calls on the reading-room box, computed under demand 3's definitions: a row is a call that is left waiting, the events after it, what is
-- answered, and what the account makes of it.
use Rattle.std.specs.Prelude.{Bool, true, false, not, ◌&&◌, ◌||◌, List, [], ◌∷◌, ℕ, ◌+◌, eqb, pos}
use Rattle.base.specs.Lists.{same}
use Rattle.base.specs.Rules.{EPERM}
use Rattle.machine_state.specs.declared.Answer.{Answer}
use Rattle.machine_state.specs.declared.Answer.TheVariants.{Code, Wait, Done, Held, Stopped}
use Rattle.rules.specs.Account.{answer_of}
use Rattle.rules.specs.Step.{step}
use Rattle.rules.specs.Run.{Line, after, happens, is_poll}
use Rattle.texts.specs.Texts.{answer_text}
use Rattle.reading_room.specs.ReadingRoom.{region, cell, limited_cell, search, limited_search, notes, same_bool, booted, log_call, log_create, log_store, log_fault, log_poll, Said, ◌▷◌, said_lines}
use Rattle.waiting.specs.Steps.{CallLine, call_line, Moment, account, account_ended, at_call, next, times_with, times_in}
use Rattle.waiting.specs.Demand3.{size_of_w, all_limited, sum_of_limits, messaged}

-- two cells like `notes`, a comm region alone: `clerk` with CPU 2 and `press` with CPU 3
unfoldable pub clerk : List ℕ
clerk = cell 0 (0x63 ∷ 0x6c ∷ 0x65 ∷ 0x72 ∷ 0x6b ∷ []) 4 1 (region 0 0 4096 11)

unfoldable pub press : List ℕ
press = cell 0 (0x70 ∷ 0x72 ∷ 0x65 ∷ 0x73 ∷ 0x73 ∷ []) 8 1 (region 0 0 4096 11)

-- the same with a reply limit
unfoldable pub limited_notes : ℕ → List ℕ
limited_notes limit = limited_cell limit 0 (0x6e ∷ 0x6f ∷ 0x74 ∷ 0x65 ∷ 0x73 ∷ []) 2 1 (region 0 0 4096 11)

unfoldable pub limited_clerk : ℕ → List ℕ
limited_clerk limit = limited_cell limit 0 (0x63 ∷ 0x6c ∷ 0x65 ∷ 0x72 ∷ 0x6b ∷ []) 4 1 (region 0 0 4096 11)

-- cells created and then started, so that no call waits on the way: `search` as 1 and `notes` as 2; `notes` as 1 and `clerk` as 2; and `press` as 3
abbrev pub both_started : List Line
both_started = log_create 0 search ∷ log_create 0 notes ∷ log_call 0 2 1 0 ∷ log_call 0 2 2 0 ∷ []

abbrev pub two_started : List Line
two_started = log_create 0 notes ∷ log_create 0 clerk ∷ log_call 0 2 1 0 ∷ log_call 0 2 2 0 ∷ []

abbrev pub three_started : List Line
three_started = log_create 0 notes ∷ log_create 0 clerk ∷ log_create 0 press ∷ log_call 0 2 1 0 ∷ log_call 0 2 2 0 ∷ log_call 0 2 3 0 ∷ []

-- `search` with a limit of one poll as 1 and `notes` as 2; `notes` with one of two polls as 1 and `clerk` with one of three as 2; and `press` as 3
abbrev pub hung_started : List Line
hung_started = log_create 0 (limited_search 1) ∷ log_create 0 notes ∷ log_call 0 2 1 0 ∷ log_call 0 2 2 0 ∷ []

abbrev pub two_limited : List Line
two_limited = log_create 0 (limited_notes 2) ∷ log_create 0 (limited_clerk 3) ∷ log_call 0 2 1 0 ∷ log_call 0 2 2 0 ∷ []

abbrev pub second_limited : List Line
second_limited = log_create 0 notes ∷ log_create 0 (limited_clerk 3) ∷ log_create 0 press ∷ log_call 0 2 1 0 ∷ log_call 0 2 2 0 ∷ log_call 0 2 3 0 ∷ []

-- a call of CPU 0
abbrev pub root_call : ℕ → ℕ → List ℕ → CallLine
root_call code a1 bytes = record { cpu = 0; code = code; a1 = a1; a2 = 0; bytes = bytes }

-- a row: the lines before the call, the call and its answer, the lines after it and theirs; and the cells that it messages, how often its effect
-- comes, the size of W, whether each of its cells has a limit, and the sum of these
pub record WaitingRow : Type 0 where
  pub before : List Line
  pub call : CallLine
  pub answer : Answer
  pub log : List Said
  pub messages : List ℕ
  pub effects : ℕ
  pub size : ℕ
  pub limited : Bool
  pub sum : ℕ

unfoldable pub same_answer : Answer → Answer → Bool
same_answer a b = same (answer_text a) (answer_text b)

-- every line is answered as said, and a poll so by the account too
unfoldable pub waiting_log_holds : Moment → List Said → Bool
waiting_log_holds now [] = account_ended now
waiting_log_holds now (s ∷ ss) =
    let after = next step s.line now in
    same_answer (happens step s.line now.machine).answer s.answer
    && (not (is_poll s.line.event) || same_answer (answer_of (account after)) s.answer)
    && waiting_log_holds after ss

unfoldable pub waiting_row_holds : WaitingRow → Bool
waiting_row_holds r =
    let met = after step booted r.before in
    let start = at_call step r.call met in
    same_answer (happens step (call_line r.call) met).answer r.answer
    && same_answer (answer_of (account start)) r.answer
    && waiting_log_holds start r.log
    && same (messaged step r.call met (said_lines r.log)) r.messages
    && eqb (times_with (account start) + times_in step start (said_lines r.log)) r.effects
    && eqb (size_of_w (account start) met) r.size
    && same_bool (all_limited (account start) met) r.limited
    && eqb (sum_of_limits (account start) met) r.sum

unfoldable pub waiting_rows : List WaitingRow
waiting_rows =
    -- Destroy with a denial
    record {
      before = both_started;
      call = root_call 4 1 [];
      answer = Wait 1;
      log = (log_store 2 1 2 ▷ Done) ∷ (log_poll ▷ Code EPERM) ∷ [];
      messages = 1 ∷ [];
      effects = 0;
      size = 2;
      limited = false;
      sum = 0;
    }
    -- with consent; root is held, a reply is taken back and given, and `notes` is told
    ∷ record {
      before = both_started;
      call = root_call 4 1 [];
      answer = Wait 1;
      log =
          (log_poll ▷ Wait 1) ∷ (log_call 0 5 4 0 ▷ Held) ∷ (log_store 2 1 3 ▷ Done) ∷ (log_store 2 1 0 ▷ Done) ∷ (log_poll ▷ Wait 1) ∷ (log_store 2 1 3 ▷ Done)
          ∷ (log_poll ▷ Wait 2) ∷ (log_store 1 1 5 ▷ Done) ∷ (log_poll ▷ Code (pos 0)) ∷ [];
      messages = 1 ∷ 2 ∷ [];
      effects = 1;
      size = 2;
      limited = false;
      sum = 0;
    }
    -- with a lock that appears while waiting
    ∷ record {
      before = both_started;
      call = root_call 4 1 [];
      answer = Wait 1;
      log = (log_store 1 2 1 ▷ Done) ∷ (log_store 2 1 3 ▷ Done) ∷ (log_poll ▷ Code EPERM) ∷ [];
      messages = 1 ∷ [];
      effects = 0;
      size = 2;
      limited = false;
      sum = 0;
    }
    -- Create telling two cells: its effect came with the call
    ∷ record {
      before = two_started;
      call = root_call 1 0 press;
      answer = Wait 1;
      log = (log_store 1 1 7 ▷ Done) ∷ (log_poll ▷ Wait 2) ∷ (log_store 2 1 8 ▷ Done) ∷ (log_poll ▷ Code (pos 3)) ∷ [];
      messages = 1 ∷ 2 ∷ [];
      effects = 1;
      size = 2;
      limited = false;
      sum = 0;
    }
    -- Disable over three cells with a fault in between
    ∷ record {
      before = three_started;
      call = root_call 0 0 [];
      answer = Wait 1;
      log =
          (log_store 1 1 3 ▷ Done) ∷ (log_poll ▷ Wait 2) ∷ (log_fault 2 ▷ Done) ∷ (log_poll ▷ Wait 3) ∷ (log_store 3 1 3 ▷ Done) ∷ (log_poll ▷ Code (pos 0)) ∷ [];
      messages = 1 ∷ 2 ∷ 3 ∷ [];
      effects = 1;
      size = 3;
      limited = false;
      sum = 0;
    }
    -- Destroy of a cell that hangs: the first poll is the last of its limit, and `notes` is told
    ∷ record {
      before = hung_started;
      call = root_call 4 1 [];
      answer = Wait 1;
      log = (log_poll ▷ Wait 2) ∷ (log_store 1 1 5 ▷ Done) ∷ (log_poll ▷ Code (pos 0)) ∷ [];
      messages = 1 ∷ 2 ∷ [];
      effects = 1;
      size = 2;
      limited = false;
      sum = 1;
    }
    -- refused at that poll for a lock elsewhere; a denial at that poll wins
    ∷ record {
      before = hung_started;
      call = root_call 4 1 [];
      answer = Wait 1;
      log = (log_store 1 2 1 ▷ Done) ∷ (log_poll ▷ Code EPERM) ∷ [];
      messages = 1 ∷ [];
      effects = 0;
      size = 2;
      limited = false;
      sum = 1;
    }
    ∷ record {
      before = hung_started;
      call = root_call 4 1 [];
      answer = Wait 1;
      log = (log_store 2 1 2 ▷ Done) ∷ (log_poll ▷ Code EPERM) ∷ [];
      messages = 1 ∷ [];
      effects = 0;
      size = 2;
      limited = false;
      sum = 1;
    }
    -- Create telling two cells that hang: it ends within the sum of their limits, five polls
    ∷ record {
      before = two_limited;
      call = root_call 1 0 press;
      answer = Wait 1;
      log = (log_poll ▷ Wait 1) ∷ (log_poll ▷ Wait 2) ∷ (log_poll ▷ Wait 2) ∷ (log_poll ▷ Wait 2) ∷ (log_poll ▷ Code (pos 3)) ∷ [];
      messages = 1 ∷ 2 ∷ [];
      effects = 1;
      size = 2;
      limited = true;
      sum = 5;
    }
    -- Disable over three cells of which the second hangs
    ∷ record {
      before = second_limited;
      call = root_call 0 0 [];
      answer = Wait 1;
      log =
          (log_poll ▷ Wait 1) ∷ (log_store 1 1 3 ▷ Done) ∷ (log_poll ▷ Wait 2) ∷ (log_poll ▷ Wait 2) ∷ (log_poll ▷ Wait 2) ∷ (log_poll ▷ Wait 3)
          ∷ (log_store 2 1 3 ▷ Stopped) ∷ (log_store 3 1 3 ▷ Done) ∷ (log_poll ▷ Code (pos 0)) ∷ [];
      messages = 1 ∷ 2 ∷ 3 ∷ [];
      effects = 1;
      size = 3;
      limited = false;
      sum = 3;
    }
    ∷ []
