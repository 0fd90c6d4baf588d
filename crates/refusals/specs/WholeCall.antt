-- Demand 1, of a whole call: where a call is left waiting and later ends with a negative code, each of its own steps (the call and the polls up to
-- its end) changes only the caller's exit counters (the call alone), the field of the waiting call, and the two message words of the cell that
-- this step messages. C-14: "a call refused at that poll or later leaves such a cell failed and stopped", that is the cell that its limit cut off,
-- and a poll that hears nothing changes the count of polls alone. What other CPUs change between its steps is theirs.
use Rattle.std.specs.Prelude.{◌≡◌, Bool, true, false, List, [], ◌∷◌, ℕ, eqb}
use Rattle.base.specs.Lists.{any}
use Rattle.machine_state.specs.declared.Event.TheVariants.{Call}
use Rattle.std.specs.Prelude.{None}
use Rattle.machine_state.specs.declared.Answer.{Answer}
use Rattle.machine_state.specs.declared.Answer.TheVariants.{Code, Wait}
use Rattle.machine_state.specs.declared.Machine.{Machine}
use Rattle.rules.specs.State.{root_id, comm_at, with_waiting, with_comm}
use Rattle.rules.specs.Effects.{counted, call_counter}
use Rattle.rules.specs.Asking.{message, with_polls, heard_in}
use Rattle.rules.specs.Run.{Manager, Line, Happened, happens, run, is_poll}
use Rattle.rules.specs.Answers.{is_negative, is_code, is_wait, is_unobeyed}

-- ---- the own steps of a call

-- "A call waits from its answer `wait C` to the poll that answers `code N`": of the steps after the call, its polls, that one included
unfoldable pub own_polls : List Happened → List Happened
own_polls [] = []
own_polls (h ∷ hs) =
    elim (is_poll h.line.event) [
      | true ↦ h ∷ elim (is_code h.answer) [ true ↦ [] | false ↦ own_polls hs ]
      | false ↦ own_polls hs
    ]

-- it ends with a negative code; no other of its polls answers a code
abbrev pub ends_refused : List Happened → Bool
ends_refused hs = any (λ (h : Happened). is_negative h.answer) (own_polls hs)

-- ---- what one of them may change

-- a machine without its waiting call, and without the two message words of cell `id`
abbrev pub none_waiting : Machine → Machine
none_waiting m = with_waiting None m

abbrev pub unmessaged : ℕ → Machine → Machine
unmessaged id m = with_comm id (message 0 (comm_at m id)) m

-- without the count of polls of the waiting call
abbrev pub uncounted : Machine → Machine
uncounted m = with_waiting (with_polls 0 m.waiting) m

-- a machine with what a step may change set aside. The step answers `answer`, and the call waited for cell `waited` before it: `wait` for another
-- cell has messaged that one; `wait` for the same one has heard nothing and changes the count alone; with any other answer nobody is messaged
unfoldable pub set_aside : ℕ → Answer → Machine → Machine
set_aside waited (Wait id) m = elim (eqb id waited) [ true ↦ uncounted m | false ↦ none_waiting (unmessaged id m) ]
set_aside waited (Code code) m = none_waiting m
set_aside waited _ m = m

-- the cell that the call waits for after an answer
unfoldable pub now_waited : ℕ → Answer → ℕ
now_waited waited (Wait id) = id
now_waited waited _ = waited

-- the machine that a poll met, with the cell cut off that its limit cuts off at this poll. A poll that is not obeyed cuts off none
unfoldable pub cut_off_by : Answer → Machine → Machine
cut_off_by answer m = elim (is_unobeyed answer) [ true ↦ m | false ↦ heard_in m.waiting m ]

-- each of some polls cuts off that cell, if any, and changes nothing more than is set aside
unfoldable pub OnlyMessages : ℕ → List Happened → Type 0
OnlyMessages waited [] = Unit {0}
OnlyMessages waited (h ∷ hs) =
    (set_aside waited h.answer h.after ≡ set_aside waited h.answer (cut_off_by h.answer h.before))
    × OnlyMessages (now_waited waited h.answer) hs

-- ---- the claim: from any machine, so wherever in a list the call stands, and whatever lines follow it

-- a call of CPU `cpu` and its polls: "An obeyed call .. first adds one", and before the call nobody is waited for (root, which no call messages)
pub record OwnStepsKeep (cpu : ℕ) (call : Happened) (polls : List Happened) : Type 0 where
  pub called : set_aside root_id call.answer call.after ≡ set_aside root_id call.answer (counted call_counter cpu call.before)
  pub polled : OnlyMessages (now_waited root_id call.answer) polls

abbrev pub RefusedKeeps : Manager → Type 0
RefusedKeeps manager =
    (cpu code a1 a2 : ℕ) (bytes : List ℕ) (m : Machine) (lines : List Line)
    → let call = happens manager (record { event = Call cpu code a1 a2; bytes = bytes }) m in
    let rest = run manager call.after lines in
    is_wait call.answer ≡ true → ends_refused rest ≡ true → OwnStepsKeep cpu call (own_polls rest)
