-- The steps of a list of events after a call, and the account beside them. Demand 3: "Take every list of events (calls, stores, faults, exits,
-- polls, malformed and unobeyed ones included) .. Each event meets the machine that the last one left". The account is fed by its observer
-- (`rules`, Account and Observer), which never sees the waiting call.
use Rattle.std.specs.Prelude.{Bool, true, false, not, ◌&&◌, ◌||◌, List, [], ◌∷◌, ◌++◌, map, ℕ, suc, ◌+◌, leb, ltb, eqb, Option, None, Some}
use Rattle.cell_record.specs.declared.CellConfig.{CellConfig}
use Rattle.machine_state.specs.declared.Cpu.{Cpu}
use Rattle.machine_state.specs.declared.Cell.{Cell}
use Rattle.machine_state.specs.declared.Power.{Power}
use Rattle.machine_state.specs.declared.Event.{Event}
use Rattle.machine_state.specs.declared.Event.TheVariants.{Call, Poll}
use Rattle.machine_state.specs.declared.Machine.{Machine}
use Rattle.rules.specs.State.{comm_at, with_comm, with_waiting}
use Rattle.rules.specs.Effects.{counted, call_counter, effect, cell_cut_off}
use Rattle.rules.specs.Asking.{message, shutdown_request, reconfig_completed}
use Rattle.rules.specs.Account.{Account, Place, Asks, Tells, Ended, ended_at, waited_at, heard_by, state_shown, limit_shown}
use Rattle.rules.specs.Observer.{Watched, watched_call, watched, shown_by}
use Rattle.rules.specs.Run.{Line, Manager, happens, is_poll}

-- a call of a CPU, with the bytes that come with it, and a poll
pub record CallLine : Type 0 where
  pub cpu : ℕ
  pub code : ℕ
  pub a1 : ℕ
  pub a2 : ℕ
  pub bytes : List ℕ

abbrev pub call_line : CallLine → Line
call_line c = record { event = Call c.cpu c.code c.a1 c.a2; bytes = c.bytes }

abbrev pub poll_line : List ℕ → Line
poll_line bytes = record { event = Poll; bytes = bytes }

-- ---- moments

-- a moment after the call: the machine that the last event left, and what the observer, with the account, has of the events up to it
pub record Moment : Type 0 where
  pub machine : Machine
  pub watch : Watched

abbrev pub account : Moment → Account
account now = now.watch.account

-- the account has ended
abbrev pub account_ended : Moment → Bool
account_ended now = ended_at now.watch.account.place

-- right after the call, which met the machine `met`
unfoldable pub at_call : Manager → CallLine → Machine → Moment
at_call manager c met = record { machine = (happens manager (call_line c) met).after; watch = watched_call c.code c.a1 met }

-- after one more event, and after a list of them
unfoldable pub next : Manager → Line → Moment → Moment
next manager l now = record {
  machine = (happens manager l now.machine).after;
  watch = watched l.event (happens manager l now.machine).answer now.machine now.watch;
}

unfoldable pub moment_after : Manager → Moment → List Line → Moment
moment_after manager now [] = now
moment_after manager now (l ∷ ls) = moment_after manager (next manager l now) ls

-- ---- what an own step does to the machine

-- "To message a cell: from becomes 0, then to becomes 1 (shutdown request) or 2 (reconfiguration completed)"
unfoldable pub messaged_at : Place → Machine → Machine
messaged_at (Asks c) m = with_comm c (message shutdown_request (comm_at m c)) m
messaged_at (Tells c) m = with_comm c (message reconfig_completed (comm_at m c)) m
messaged_at (Ended code) m = m

-- the account's last move on a machine: the cell that its limit cut off, if any; then the effect's rule, if it came with it; then the message, if
-- it moved. `new` is Create's cell
unfoldable pub cut_from : Option ℕ → Machine → Machine
cut_from None m = m
cut_from (Some c) m = cell_cut_off c m

unfoldable pub account_effect : Account → CellConfig → Machine → Machine
account_effect a new m = elim a.effect [ true ↦ effect a.kind a.target new m | false ↦ m ]

unfoldable pub move_of : Account → CellConfig → Machine → Machine
move_of a new m =
    let n = account_effect a new (cut_from a.cut m) in elim a.moved [ true ↦ messaged_at a.place n | false ↦ n ]

-- "An obeyed call .. first adds one to its own counter and the total of that CPU"
unfoldable pub counted_for : Event → Machine → Machine
counted_for (Call cpu code a1 a2) m = counted call_counter cpu m
counted_for _ m = m

-- the machine but for the field that holds the waiting call
abbrev pub but_waiting : Machine → Machine
but_waiting m = with_waiting None m

-- "live cells, phases, CPU owners or pool use": the table, with whether the machine is on
pub record CellTable : Type 0 where
  pub power : Power
  pub live : ℕ
  pub cells : List Cell
  pub root : ℕ
  pub owners : List ℕ
  pub pool : ℕ

unfoldable pub owner_in : Cpu → ℕ
owner_in p = p.cell

unfoldable pub cell_table_of : Machine → CellTable
cell_table_of m = record {
  power = m.power;
  live = m.live_ids;
  cells = m.cells;
  root = m.root_cpus;
  owners = map owner_in m.cpus;
  pool = m.pool_used;
}

-- ---- counting along a list

-- the cells that the account messaged with the last event: the one that it moved on to, or none
unfoldable pub cell_of_place : Place → List ℕ
cell_of_place (Asks c) = c ∷ []
cell_of_place (Tells c) = c ∷ []
cell_of_place (Ended code) = []

unfoldable pub messaged_with : Account → List ℕ
messaged_with a = elim a.moved [ true ↦ cell_of_place a.place | false ↦ [] ]

unfoldable pub messaged_in : Manager → Moment → List Line → List ℕ
messaged_in manager now [] = []
messaged_in manager now (l ∷ ls) = messaged_with (account (next manager l now)) ++ messaged_in manager (next manager l now) ls

-- how often the effect came: with the last event, and along a list
unfoldable pub times_with : Account → ℕ
times_with a = elim a.effect [ true ↦ 1 | false ↦ 0 ]

unfoldable pub times_in : Manager → Moment → List Line → ℕ
times_in manager now [] = 0
times_in manager now (l ∷ ls) = times_with (account (next manager l now)) + times_in manager (next manager l now) ls

-- the polls of a list
unfoldable pub polls_in : List Line → ℕ
polls_in [] = 0
polls_in (l ∷ ls) = elim (is_poll l.event) [ true ↦ suc (polls_in ls) | false ↦ polls_in ls ]

-- the cell waited for shows a reply or a final state
abbrev pub shows : Moment → Bool
shows now = heard_by now.watch.reply (state_shown (waited_at (account now).place) (shown_by now.machine))

-- C-14: "In the K form, a non-zero L serves where it is at most K": the limit of the cell waited for
abbrev pub waited_limit : Moment → ℕ
waited_limit now = limit_shown (waited_at (account now).place) (shown_by now.machine)

abbrev pub serves : ℕ → ℕ → Bool
serves k limit = not (eqb limit 0) && leb limit k

-- "each messaged cell shows a reply or a final state at one of the first K polls after its message", or its limit serves: `spent` polls since its
-- message have shown none, and one more that shows none is not yet the K-th. After the end nothing is asked
unfoldable pub heard_within : Manager → ℕ → ℕ → Moment → List Line → Bool
heard_within manager k spent now [] = true
heard_within manager k spent now (l ∷ ls) =
    let after = next manager l now in
    elim (account_ended now) [
      | true ↦ true
      | false ↦ elim (is_poll l.event) [
        | true ↦ elim (shows now || serves k (waited_limit now)) [
          | true ↦ heard_within manager k 0 after ls
          | false ↦ ltb (suc spent) k && heard_within manager k (suc spent) after ls
        ]
        | false ↦ heard_within manager k spent after ls
      ]
    ]
