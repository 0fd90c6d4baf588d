-- The observer that feeds the account from a run. Document 01, "Asking and waiting": "The reply at a poll is the value that the last obeyed
-- store to from since the message put there, if other than 0; states are as the events before left them." It sees events, their answers, the
-- owner of a CPU that stores, and of the live cells their records and states; never the waiting call, nor the words `to` and `from`.
use Rattle.std.specs.Prelude.{Bool, true, false, ◌&&◌, List, [], ◌∷◌, ℕ, eqb}
use Rattle.base.specs.Rules.{first_rule, ◌⇒◌}
use Rattle.machine_state.specs.declared.CallKind.{CallKind}
use Rattle.machine_state.specs.declared.Event.{Event}
use Rattle.machine_state.specs.declared.Event.TheVariants.{Store, Poll}
use Rattle.machine_state.specs.declared.Answer.{Answer}
use Rattle.machine_state.specs.declared.Answer.TheVariants.{Done}
use Rattle.machine_state.specs.declared.Machine.{Machine}
use Rattle.rules.specs.State.{comm_at, cpu_at, state_at, limit_at, cell_ids, live}
use Rattle.rules.specs.Calls.{hypervisor_disable, cell_create, cell_start, cell_set_loadable}
use Rattle.rules.specs.Account.{Shown, Account, stays, begun, polled, waited_at}

-- what a machine shows of its live cells, by rising ID
unfoldable pub shown_from : Machine → List ℕ → List Shown
shown_from m [] = []
shown_from m (id ∷ ids) =
    elim (live m id) [
      | true ↦ record { id = id; passive = (comm_at m id).passive; limit = limit_at m id; state = state_at m id } ∷ shown_from m ids
      | false ↦ shown_from m ids
    ]

abbrev pub shown_by : Machine → List Shown
shown_by m = shown_from m cell_ids

-- the account, and the reply of the cell that it waits for: what the last obeyed store since the message put there, 0 where there was none
pub record Watched : Type 0 where
  pub account : Account
  pub reply : ℕ

-- the kind of call that a code means, for the calls that may wait; the others never do
unfoldable pub kind_of_code : ℕ → CallKind
kind_of_code code =
    first_rule
    ((eqb code hypervisor_disable ⇒ CallKind.Disable)
    ∷ (eqb code cell_create ⇒ CallKind.Create)
    ∷ (eqb code cell_start ⇒ CallKind.Start)
    ∷ (eqb code cell_set_loadable ⇒ CallKind.SetLoadable)
    ∷ [])
    CallKind.Destroy

-- the call: the account begins, and nobody has replied yet. `a1` is the call's target; Disable and Create have none
unfoldable pub target_of : CallKind → ℕ → ℕ
target_of CallKind.Disable a1 = 0
target_of CallKind.Create a1 = 0
target_of _ a1 = a1

unfoldable pub watched_call : ℕ → ℕ → Machine → Watched
watched_call code a1 m = record { account = begun (kind_of_code code) (target_of (kind_of_code code) a1) (shown_by m); reply = 0 }

-- a poll: the account hears the reply. Where it moves on, no reply to its next message is there yet
unfoldable pub watched_poll : Watched → Machine → Watched
watched_poll w m =
    let a = polled w.account w.reply (shown_by m) in record { account = a; reply = elim a.moved [ true ↦ 0 | false ↦ w.reply ] }

-- any other event: the account stays as it is
abbrev pub watched_other : ℕ → Watched → Watched
watched_other reply w = record { account = stays w.account; reply = reply }

-- an obeyed store
unfoldable pub is_done : Answer → Bool
is_done Done = true
is_done _ = false

-- a store to `from` (word 1) of the cell waited for, by a CPU of it
unfoldable pub watched_store : ℕ → ℕ → ℕ → Answer → Machine → Watched → Watched
watched_store cpu word value answer m w =
    elim (is_done answer && eqb word 1 && eqb (cpu_at m cpu).cell (waited_at w.account.place)) [
      | true ↦ watched_other value w
      | false ↦ watched_other w.reply w
    ]

-- one event of a run while the call waits: its machine before it, the event and its answer
unfoldable pub watched : Event → Answer → Machine → Watched → Watched
watched (Store cpu word value) answer m w = watched_store cpu word value answer m w
watched Poll answer m w = watched_poll w m
watched _ answer m w = watched_other w.reply w
