-- Lists of events. Demand 3: "Each event meets the machine that the last one left; nobody else writes it meanwhile." A claim about lists is said
-- of a manager, that is of what answers one event, so that it can be held against a wrong one.
use Rattle.std.specs.Prelude.{◌≡◌, Bool, true, false, List, [], ◌∷◌, ℕ, pos}
use Rattle.system_record.specs.SystemRecord.{boot_answer}
use Rattle.machine_state.specs.declared.Event.{Event}
use Rattle.machine_state.specs.declared.Event.TheVariants.{Poll}
use Rattle.machine_state.specs.declared.Answer.{Answer}
use Rattle.machine_state.specs.declared.Machine.{Machine}
use Rattle.machine_state.specs.declared.Stepped.{Stepped}
use Rattle.machine_state.specs.Machine.{boot_of}

-- an event with the record's bytes that come with it
pub record Line : Type 0 where
  pub event : Event
  pub bytes : List ℕ

-- the event is a poll
abbrev pub is_poll : Event → Bool
is_poll Poll = true
is_poll _ = false

-- what answers an event and gives the next machine; `Step.step` is ours
abbrev pub Manager : Type 0
Manager = Event → List ℕ → Machine → Stepped

-- one step of a run: the machine that the event met, the event, its answer, and the machine that it left
pub record Happened : Type 0 where
  pub before : Machine
  pub line : Line
  pub answer : Answer
  pub after : Machine

abbrev pub happens : Manager → Line → Machine → Happened
happens manager l m =
    record { before = m; line = l; answer = (manager l.event l.bytes m).answer; after = (manager l.event l.bytes m).machine }

-- the steps of a list of lines, and the machine that it leaves
unfoldable pub run : Manager → Machine → List Line → List Happened
run manager m [] = []
run manager m (l ∷ ls) = happens manager l m ∷ run manager (manager l.event l.bytes m).machine ls

unfoldable pub after : Manager → Machine → List Line → Machine
after manager m [] = m
after manager m (l ∷ ls) = after manager (manager l.event l.bytes m).machine ls

-- "an accepted start": boot answers 0
abbrev pub Accepted : List ℕ → Type 0
Accepted record-bytes = boot_answer record-bytes ≡ pos 0

abbrev pub start_of : List ℕ → Machine
start_of record-bytes = (boot_of record-bytes).machine

-- "state reached from an accepted start": some list of lines ends in it
pub record Reached (manager : Manager) (m : Machine) : Type 0 where
  pub system : List ℕ
  pub accepted : Accepted system
  pub lines : List Line
  pub ends : after manager (start_of system) lines ≡ m
