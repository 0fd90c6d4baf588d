-- "The return code is a signed 32-bit number, negative exactly for a refusal", and "Each refusal is given then and only then": when an event is
-- answered with a negative code, for every machine. A call: where a row of its table applies. A poll: where a cell denies, or where Destroy has
-- been allowed and another cell has a lock. Any other event: never.
use Rattle.std.specs.Prelude.{◌≡◌, Bool, false, not, ◌&&◌, ◌||◌, List, ℕ, leb, ltb, eqb}
use Rattle.cpu_set.specs.CpuSet.{member}
use Rattle.cell_record.specs.CellRecord.{cell_of}
use Rattle.machine_state.specs.declared.CallKind.{CallKind}
use Rattle.machine_state.specs.declared.Stage.{Stage}
use Rattle.machine_state.specs.Machine.{Waiting}
use Rattle.std.specs.Prelude.{None, Some}
use Rattle.machine_state.specs.declared.Event.{Event}
use Rattle.machine_state.specs.declared.Event.TheVariants.{Call, Poll}
use Rattle.machine_state.specs.declared.Machine.{Machine}
use Rattle.rules.specs.State.{root_id, boot_cpu_set, comm_at, cpu_at, state_at, no_id, live}
use Rattle.rules.specs.Unobeyed.{is_obeyed}
use Rattle.rules.specs.Create.{some_cell_locked, other_cell_locked, too_long, invalid, name_in_use, busy, no_room}
use Rattle.rules.specs.Asking.{next_to_message, asks, is_destroy, consents, hears_at, heard_at}
use Rattle.rules.specs.Calls.{cell_create, cell_start, cell_set_loadable, cell_destroy, hypervisor_get_info, cell_get_state, cpu_get_info_code}
use Rattle.rules.specs.Run.{Manager}
use Rattle.rules.specs.Answers.{is_negative}

-- "Codes 0 to 4 and 6 from a non-root CPU"
abbrev pub not_root : ℕ → Machine → Bool
not_root cpu m = not (eqb (cpu_at m cpu).cell root_id)

abbrev pub roots_only : ℕ → Bool
roots_only code = leb code cell_destroy || eqb code cell_get_state

-- Create: -1, -7, -22, -17, -16, -12
abbrev pub create_refused : ℕ → List ℕ → Machine → Bool
create_refused cpu bytes m =
    some_cell_locked m || too_long bytes || invalid bytes m || name_in_use (cell_of bytes).name m || busy cpu (cell_of bytes) m || no_room (cell_of bytes) m

-- Start, Set Loadable, Destroy: -22, -2; Destroy: -1
abbrev pub target_refused : ℕ → Machine → Bool
target_refused id m = eqb id root_id || not (live m id)

-- Get Info: "else -22"
abbrev pub info_refused : ℕ → Bool
info_refused type = ltb 4 type

-- Get State: "no such cell -2; other state -22", as C-12 amends it; root has state 0
abbrev pub state_refused : ℕ → Machine → Bool
state_refused id m = not (eqb id root_id) && (not (live m id) || ltb 3 (state_at m id))

-- CPU Get Info: "-22 CPU outside the boot set; -1 caller non-root and CPU not in its cell; .. else -22"
abbrev pub cpu_info_refused : ℕ → ℕ → ℕ → Machine → Bool
cpu_info_refused caller cpu type m =
    not (member cpu (boot_cpu_set m))
    || not_root caller m && not (eqb (cpu_at m cpu).cell (cpu_at m caller).cell)
    || not (eqb type 0 || leb 1000 type && leb type 1005)

-- an obeyed call is refused at once: a row for each code. Disable has none
unfoldable pub call_refused : ℕ → ℕ → ℕ → ℕ → List ℕ → Machine → Bool
call_refused cpu code a1 a2 bytes m =
    ltb cpu_get_info_code code
    || not_root cpu m && roots_only code
    || eqb code cell_create && create_refused cpu bytes m
    || (eqb code cell_start || eqb code cell_set_loadable) && target_refused a1 m
    || eqb code cell_destroy && (target_refused a1 m || other_cell_locked a1 m)
    || eqb code hypervisor_get_info && info_refused a1
    || eqb code cell_get_state && state_refused a1 m
    || eqb code cpu_get_info_code && cpu_info_refused cpu a1 a2 m

-- "With none left to ask"
abbrev pub none_left : CallKind → Stage → Machine → Bool
none_left kind stage m = not (ltb (next_to_message (asks kind stage.target) stage.cell m) no_id)

-- a poll refuses the waiting call: the cell that it asked denies; or none is left to ask, the call is Destroy and another cell has a lock. It is
-- heard on the machine where its limit may have cut it off
unfoldable pub waiting_refused : Waiting → Machine → Bool
waiting_refused None m = false
waiting_refused (Some (kind, stage)) m =
    let heard = heard_at stage m in
    not stage.telling && hears_at stage m
    && (not (consents (comm_at heard stage.cell)) || none_left kind stage heard && (is_destroy kind && other_cell_locked stage.target heard))

unfoldable pub refuses : Event → List ℕ → Machine → Bool
refuses (Call cpu code a1 a2) bytes m = call_refused cpu code a1 a2 bytes m
refuses Poll bytes m = waiting_refused m.waiting m
refuses _ bytes m = false

-- negative exactly where the event is obeyed and refused
abbrev pub NegativeIsRefusal : Manager → Type 0
NegativeIsRefusal manager =
    (e : Event) (bytes : List ℕ) (m : Machine) → is_negative (manager e bytes m).answer ≡ (is_obeyed e m && refuses e bytes m)
