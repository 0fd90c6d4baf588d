-- Demand 3, as one claim about a manager: "For every root call in the list that is left waiting", `WaitingCall` holds, whose fields are the demand's
-- sentences. A list of events is given by its part before the call and its part after it, so that a field speaks of every list and of every place
-- in it. The account beside the run is in Steps.
use Rattle.std.specs.Prelude.{◌≡◌, Bool, true, false, not, ◌&&◌, ◌||◌, List, ◌++◌, ℕ, zero, suc, ◌+◌, ◌*◌, ◌≤◌, eqb, pos, negsuc}
use Rattle.base.specs.Lists.{all, pairwise, up_to}
use Rattle.cpu_set.specs.CpuSet.{count_below}
use Rattle.cell_record.specs.CellRecord.{cell_of}
use Rattle.machine_state.specs.declared.Machine.{Machine}
use Rattle.rules.specs.State.{root_id, no_id, comm_at, cpu_at, limit_at, waits, with_waiting}
use Rattle.rules.specs.Asking.{asks, tells, may_be_messaged, with_polls}
use Rattle.rules.specs.Account.{Account, Place, Asks, Tells, Ended, ended_at, answer_of}
use Rattle.rules.specs.Run.{Line, Manager, Happened, happens, after, Accepted, start_of, is_poll}
use Rattle.rules.specs.Answers.{is_wait}
use Rattle.waiting.specs.Steps.{CallLine, call_line, poll_line, Moment, account, account_ended, at_call, next, moment_after, move_of, counted_for, but_waiting, cell_table_of, messaged_with, messaged_in, times_with, times_in, polls_in, heard_within}

-- ---- the call's steps

-- after the call, which met the machine `met`, and the events of `later`
abbrev pub since : Manager → CallLine → Machine → List Line → Moment
since manager c met later = moment_after manager (at_call manager c met) later

-- "A call waits from its answer `wait C` to the poll that answers `code N`": until its account has ended
abbrev pub StillWaits : Moment → Type 0
StillWaits now = account_ended now ≡ false

-- what is claimed of a step: of what happened, and of the account after it
abbrev pub OfStep : Type 1
OfStep = Happened → Account → Type 0

abbrev pub at_step : Manager → OfStep → Moment → Line → Type 0
at_step manager P now l = P (happens manager l now.machine) (account (next manager l now))

-- a call's own steps are its call and the polls up to its end
abbrev pub OwnSteps : Manager → CallLine → Machine → OfStep → Type 0
OwnSteps manager c met P =
    P (happens manager (call_line c) met) (account (at_call manager c met))
    × ((later : List Line) (bytes : List ℕ) → StillWaits (since manager c met later) → at_step manager P (since manager c met later) (poll_line bytes))

-- the events in between, of any CPU, obeyed or not
abbrev pub OtherSteps : Manager → CallLine → Machine → OfStep → Type 0
OtherSteps manager c met P =
    (later : List Line) (l : Line) → is_poll l.event ≡ false → StillWaits (since manager c met later) → at_step manager P (since manager c met later) l

-- ---- what is claimed of a step

-- "every poll until the end answers exactly as document 01's account of a waiting call does"
abbrev pub AnswersAsAccount : OfStep
AnswersAsAccount h a = h.answer ≡ answer_of a

-- "The call ends exactly when the account ends, with its code" (its answer is the account's): a call waits exactly as long as the account does
abbrev pub WaitsAsAccount : OfStep
WaitsAsAccount h a = waits h.after.waiting ≡ not (ended_at a.place)

-- no other call is left waiting
abbrev pub NoCallLeftWaiting : OfStep
NoCallLeftWaiting h a = is_wait h.answer ≡ false

-- "Its effect happens exactly when it does in the account, and otherwise never": an own step leaves the machine, but for the waiting call, as the
-- account's move makes it, the effect by its rule. Words of cells already heard "are not changed back"
abbrev pub MovesAsAccount : CallLine → OfStep
MovesAsAccount c h a = but_waiting h.after ≡ but_waiting (move_of a (cell_of c.bytes) (counted_for h.line.event h.before))

-- C-14: "a poll answered `wait C` for the same message changes that count and nothing else": a step with which the account stays where it is leaves the
-- machine with the account's count, and as it was
abbrev pub CountsOnly : OfStep
CountsOnly h a = a.moved ≡ false → h.after ≡ with_waiting (with_polls a.polls h.before.waiting) h.before

-- "Until its end nothing else changes live cells, phases, CPU owners or pool use": a step with which the effect does not come keeps the table
abbrev pub KeepsTable : OfStep
KeepsTable h a = a.effect ≡ false → cell_table_of h.after ≡ cell_table_of h.before

-- "Accepting a reply left from an earlier message because from was not cleared": right after its message a cell's `from` is 0
abbrev pub FromCleared : OfStep
FromCleared h a = all (λ id. eqb (comm_at h.after id).reply_from_cell 0) (messaged_with a) ≡ true

-- ---- the effect, exactly once

-- how often it has come at a place: not while the call asks, nor where it ends with a refusal
unfoldable pub times_due : Place → ℕ
times_due (Asks c) = 0
times_due (Tells c) = 1
times_due (Ended (pos n)) = 1
times_due (Ended (negsuc n)) = 0

abbrev pub EffectOnce : Manager → CallLine → Machine → Type 0
EffectOnce manager c met =
    (later : List Line)
    → times_with (account (at_call manager c met)) + times_in manager (at_call manager c met) later ≡ times_due (account (since manager c met later)).place

-- ---- the bound

-- "let W be the cells that it may message, active and not passive when it began": those that it asks or tells
unfoldable pub in_w : Account → Machine → ℕ → Bool
in_w a met id = (asks a.kind a.target id || tells a.kind) && may_be_messaged met id

-- "n of them"
abbrev pub size_of_w : Account → Machine → ℕ
size_of_w a met = count_below no_id (in_w a met)

-- C-14: "where every cell of W has a non-zero limit", and "the sum of those limits"
unfoldable pub all_limited : Account → Machine → Bool
all_limited a met = all (λ id. not (in_w a met id) || not (eqb (limit_at met id) 0)) (up_to no_id)

unfoldable pub sum_below : ℕ → (ℕ → ℕ) → ℕ
sum_below zero f = 0
sum_below (suc n) f = sum_below n f + f n

abbrev pub sum_of_limits : Account → Machine → ℕ
sum_of_limits a met = sum_below no_id (λ id. elim (in_w a met id) [ true ↦ limit_at met id | false ↦ 0 ])

-- the cells that the call messages, in their order
abbrev pub messaged : Manager → CallLine → Machine → List Line → List ℕ
messaged manager c met later = messaged_with (account (at_call manager c met)) ++ messaged_in manager (at_call manager c met) later

pub record Bounded (manager : Manager) (c : CallLine) (met : Machine) (later : List Line) : Type 0 where
  -- "n of them, at most 15"
  pub size : size_of_w (account (at_call manager c met)) met ≤ 15
  -- every cell that the call messages is in W, and it messages each at most once
  pub inside : all (in_w (account (at_call manager c met)) met) (messaged manager c met later) ≡ true
  pub once : pairwise (λ a b. not (eqb a b)) (messaged manager c met later) ≡ true
  -- "If each messaged cell shows a reply or a final state at one of the first K polls after its message (K at least 1), the call ends within n
  -- times K polls, if that many follow it in the list": every list `later`, so also the one that ends with the n times K-th poll. C-14: "a non-zero L
  -- serves where it is at most K"
  pub ends :
      (k : ℕ) → 1 ≤ k → heard_within manager k 0 (at_call manager c met) later ≡ true
      → size_of_w (account (at_call manager c met)) met * k ≤ polls_in later → account_ended (since manager c met later) ≡ true
  -- C-14: "where every cell of W has a non-zero limit, the call ends within the sum of those limits, if that many polls follow it in the list, with no
  -- premise about replies"
  pub ends_by_limits :
      all_limited (account (at_call manager c met)) met ≡ true → sum_of_limits (account (at_call manager c met)) met ≤ polls_in later
      → account_ended (since manager c met later) ≡ true

-- ---- the claim

-- a call that met the machine `met` and is left waiting
pub record WaitingCall (manager : Manager) (c : CallLine) (met : Machine) : Type 0 where
  -- "root call": no other is ever left waiting
  pub root : (cpu_at met c.cpu).cell ≡ root_id
  -- the call's answer and that of every poll until the end are the account's
  pub answers : OwnSteps manager c met AnswersAsAccount
  -- it ends at the poll at which the account ends and at no other event; until then no other call is left waiting
  pub end : OwnSteps manager c met WaitsAsAccount × OtherSteps manager c met (λ h a. WaitsAsAccount h a × NoCallLeftWaiting h a)
  -- its effect comes with the step with which the account's comes, once
  pub effect : OwnSteps manager c met (MovesAsAccount c) × EffectOnce manager c met
  -- nothing else changes the table, whatever any CPU does
  pub frame : OwnSteps manager c met KeepsTable × OtherSteps manager c met KeepsTable
  -- a poll that hears nothing counts, where the cell has a limit, and does no more
  pub counts : OwnSteps manager c met CountsOnly
  -- W, n and K, and the limits
  pub bound : (later : List Line) → Bounded manager c met later
  -- no reply from before a message is taken
  pub messages : OwnSteps manager c met FromCleared

abbrev pub LeftWaiting : Manager → CallLine → Machine → Type 0
LeftWaiting manager c met = is_wait (happens manager (call_line c) met).answer ≡ true

-- "Take every list of events .. from an accepted start": one that begins with `before` and goes on with the call
abbrev pub Demand3 : Manager → Type 0
Demand3 manager =
    (system : List ℕ) → Accepted system → (before : List Line) (c : CallLine)
    → LeftWaiting manager c (after manager (start_of system) before) → WaitingCall manager c (after manager (start_of system) before)
