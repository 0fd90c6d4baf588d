-- Asking and waiting. Document 01, the section of that name: whom a call messages, what a poll hears, and how a call moves on to its effect
-- and its end. Every call that may wait goes the same way: it asks, has its effect, and tells; Create has nobody to ask.
use Rattle.std.specs.Prelude.{Bool, true, false, not, ◌&&◌, ◌||◌, ℕ, ◌+◌, ◌%◌, ◌^◌, leb, ltb, eqb, ℤ, pos}
use Rattle.base.specs.Rules.{EPERM}
use Rattle.cell_record.specs.declared.CellConfig.{CellConfig}
use Rattle.machine_state.specs.declared.CommRegion.{CommRegion}
use Rattle.machine_state.specs.declared.CallKind.{CallKind}
use Rattle.machine_state.specs.declared.CallKind.TheVariants.{Disable, Create, Destroy}
use Rattle.machine_state.specs.declared.Stage.{Stage}
use Rattle.machine_state.specs.Machine.{Waiting}
use Rattle.std.specs.Prelude.{None, Some}
use Rattle.machine_state.specs.declared.Answer.TheVariants.{Code, Wait, Idle}
use Rattle.machine_state.specs.declared.Machine.{Machine}
use Rattle.machine_state.specs.declared.Stepped.{Stepped}
use Rattle.rules.specs.State.{comm_at, limit_at, cell_ids, no_id, first, active, is_final, with_waiting, with_comm, answered}
use Rattle.rules.specs.Effects.{effect, with_message, with_reply, cell_cut_off}
use Rattle.rules.specs.Create.{other_cell_locked}

-- the messages and the consenting reply, by their names in source document 001
abbrev pub shutdown_request : ℕ
shutdown_request = 1

abbrev pub reconfig_completed : ℕ
reconfig_completed = 2

abbrev pub request_approved : ℕ
request_approved = 3

-- "Only active, non-passive cells are messaged"
unfoldable pub may_be_messaged : Machine → ℕ → Bool
may_be_messaged m id = active m id && not (comm_at m id).passive

-- "one at a time, rising ID": the first after a given cell that passes a test and may be messaged
unfoldable pub next_to_message : (ℕ → Bool) → ℕ → Machine → ℕ
next_to_message among after m = first (λ id. ltb after id && among id && may_be_messaged m id) cell_ids

-- "Start, Set Loadable and Destroy ask their target, Disable all cells"; Create asks nobody
unfoldable pub asks : CallKind → ℕ → ℕ → Bool
asks Disable target id = true
asks Create target id = false
asks _ target id = eqb id target

-- "Create and Destroy, after their effect, tell all remaining cells"
abbrev pub tells : CallKind → Bool
tells Create = true
tells Destroy = true
tells _ = false

abbrev pub every_cell : ℕ → Bool
every_cell id = true

abbrev pub is_destroy : CallKind → Bool
is_destroy Destroy = true
is_destroy _ = false

-- "To message a cell: from becomes 0, then to becomes 1 (shutdown request) or 2 (reconfiguration completed)"
unfoldable pub message : ℕ → CommRegion → CommRegion
message code c = with_message code (with_reply 0 c)

-- the stage of a call that waits for a cell that it has asked, or told, `polls` polls ago
abbrev pub asking : ℕ → ℕ → ℕ → Stage
asking target cell polls = record { target = target; cell = cell; telling = false; polls = polls }

abbrev pub telling : ℕ → ℕ → ℕ → Stage
telling target cell polls = record { target = target; cell = cell; telling = true; polls = polls }

-- "message the next cell .. and wait for it"
unfoldable pub wait_for : CallKind → Stage → ℕ → Machine → Stepped
wait_for kind stage code m =
    answered (Wait stage.cell) (with_waiting (Some (kind, stage)) (with_comm stage.cell (message code (comm_at m stage.cell)) m))

-- the call ends with a code
unfoldable pub finished : ℤ → Machine → Stepped
finished code m = answered (Code code) (with_waiting None m)

-- "the new ID or 0"; an ID is below 16
unfoldable pub end_code : CallKind → ℕ → ℤ
end_code Create target = pos (target % 2 ^ 31)
end_code _ target = pos 0

-- move on while telling: "message the next cell to .. tell"; "With none left to tell it ends with the new ID or 0"
unfoldable pub tell : CallKind → ℕ → ℕ → Machine → Stepped
tell kind target after m =
    let next = next_to_message every_cell after m in
    elim (ltb next no_id) [
      | true ↦ wait_for kind (telling target next 0) reconfig_completed m
      | false ↦ finished (end_code kind target) m
    ]

-- "the effect comes, Create and Destroy begin to tell and move on, the others end with 0"
unfoldable pub carry_out : CallKind → ℕ → CellConfig → Machine → Stepped
carry_out kind target new m =
    elim (tells kind) [ true ↦ tell kind target 0 (effect kind target new m) | false ↦ finished (pos 0) (effect kind target new m) ]

-- "With none left to ask .., Destroy ends with -1 if another cell has a lock (state 1); else the effect comes"
unfoldable pub none_to_ask : CallKind → ℕ → CellConfig → Machine → Stepped
none_to_ask kind target new m =
    elim (is_destroy kind && other_cell_locked target m) [ true ↦ finished EPERM m | false ↦ carry_out kind target new m ]

-- move on while asking: "message the next cell to ask .. and wait for it"
unfoldable pub ask : CallKind → ℕ → ℕ → CellConfig → Machine → Stepped
ask kind target after new m =
    let next = next_to_message (asks kind target) after m in
    elim (ltb next no_id) [
      | true ↦ wait_for kind (asking target next 0) shutdown_request m
      | false ↦ none_to_ask kind target new m
    ]

-- "From = 0 and state not final: nothing changes .. Otherwise it is heard"
unfoldable pub is_heard : CommRegion → Bool
is_heard c = not (eqb c.reply_from_cell 0) || is_final c.cell_state

-- "a final state counts as consent; else for message 1 only from = 3 consents and any other value is a denial"
unfoldable pub consents : CommRegion → Bool
consents c = is_final c.cell_state || eqb c.reply_from_cell request_approved

-- a heard cell: "a denial ends it, -1; else it moves on"; "for message 2 any value serves"
unfoldable pub hear : CallKind → Stage → CellConfig → Machine → Stepped
hear kind stage new m =
    elim stage.telling [
      | true ↦ tell kind stage.target stage.cell m
      | false ↦ elim (consents (comm_at m stage.cell)) [
        | true ↦ ask kind stage.target stage.cell new m
        | false ↦ finished EPERM m
      ]
    ]

-- ---- the reply limit. C-14: "a limit L in polls; 0 means none"

-- "the L-th poll after a message": `polls` came before it. A count past the limit is reached by no start
unfoldable pub is_last_poll : ℕ → ℕ → Bool
is_last_poll limit polls = not (eqb limit 0) && leb limit (polls + 1)

-- "where L isn't 0, a waiting call counts the polls since its message"
unfoldable pub polls_after : ℕ → ℕ → ℕ
polls_after limit polls = elim (eqb limit 0) [ true ↦ polls | false ↦ polls + 1 ]

-- the waiting call with another count
unfoldable pub with_polls : ℕ → Waiting → Waiting
with_polls polls None = None
with_polls polls (Some (kind, stage)) = Some (kind, record stage { polls = polls })

-- "If the L-th poll after a message finds neither reply nor final state"; "a reply seen at that poll wins"
unfoldable pub cuts_off : Stage → Machine → Bool
cuts_off stage m = not (is_heard (comm_at m stage.cell)) && is_last_poll (limit_at m stage.cell) stage.polls

-- ".. the cell's state becomes 3, its CPUs stop, and it is heard as final": whether the cell is heard, and the machine on which it is
unfoldable pub hears_at : Stage → Machine → Bool
hears_at stage m = is_heard (comm_at m stage.cell) || cuts_off stage m

unfoldable pub heard_at : Stage → Machine → Machine
heard_at stage m = elim (cuts_off stage m) [ true ↦ cell_cut_off stage.cell m | false ↦ m ]

-- "a poll answered `wait C` for the same message changes that count and nothing else"
unfoldable pub still_waits : CallKind → Stage → Machine → Machine
still_waits kind stage m =
    with_waiting (with_polls (polls_after (limit_at m stage.cell) stage.polls) (Some (kind, stage))) m

-- "A poll looks at the cell waited for. From = 0 and state not final: nothing changes, answer `wait C`. Otherwise it is heard"
unfoldable pub poll_cell : CallKind → Stage → CellConfig → Machine → Stepped
poll_cell kind stage new m =
    elim (hears_at stage m) [ true ↦ hear kind stage new (heard_at stage m) | false ↦ answered (Wait stage.cell) (still_waits kind stage m) ]

-- a poll of the waiting call; where none waits the poll is not obeyed
unfoldable pub poll : Waiting → CellConfig → Machine → Stepped
poll None new m = answered Idle m
poll (Some (kind, stage)) new m = poll_cell kind stage new m

-- the machine on which a poll of the waiting call hears
unfoldable pub heard_in : Waiting → Machine → Machine
heard_in None m = m
heard_in (Some (kind, stage)) m = heard_at stage m
