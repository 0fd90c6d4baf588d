-- Demand 1, of one event: "A refused call changes only the caller's exit counters and, if cells had already been messaged, those cells' two
-- message words." Of one event that says: an event that is not obeyed changes nothing; a call refused at once changes its caller's counters
-- and nothing else, a waiting call included; the poll that refuses a waiting call ends it and changes nothing else but, C-14, "a call refused at
-- that poll .. leaves such a cell failed and stopped". For every machine.
use Rattle.std.specs.Prelude.{◌≡◌, true, List, ℕ}
use Rattle.machine_state.specs.declared.Event.{Event}
use Rattle.machine_state.specs.declared.Event.TheVariants.{Call, Poll}
use Rattle.std.specs.Prelude.{None}
use Rattle.machine_state.specs.declared.Machine.{Machine}
use Rattle.rules.specs.State.{with_waiting}
use Rattle.rules.specs.Effects.{counted, call_counter}
use Rattle.rules.specs.Asking.{heard_in}
use Rattle.rules.specs.Run.{Manager}
use Rattle.rules.specs.Answers.{is_negative, is_unobeyed}

-- "These change nothing at all"
abbrev pub UnobeyedKeeps : Manager → Type 0
UnobeyedKeeps manager =
    (e : Event) (bytes : List ℕ) (m : Machine) → is_unobeyed (manager e bytes m).answer ≡ true → (manager e bytes m).machine ≡ m

-- what a negative code leaves: of a call, its caller counted; of a poll, no call waiting, and the cell cut off that its limit cuts off at this
-- poll. No other event is answered by a code
unfoldable pub refusal_leaves : Event → Machine → Machine
refusal_leaves (Call cpu code a1 a2) m = counted call_counter cpu m
refusal_leaves Poll m = with_waiting None (heard_in m.waiting m)
refusal_leaves _ m = m

abbrev pub RefusedAtOnce : Manager → Type 0
RefusedAtOnce manager =
    (e : Event) (bytes : List ℕ) (m : Machine) → is_negative (manager e bytes m).answer ≡ true → (manager e bytes m).machine ≡ refusal_leaves e m
