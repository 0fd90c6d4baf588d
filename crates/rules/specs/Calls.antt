-- Calls. Document 01, "Calls and their return codes": what an obeyed call, already counted, answers and does. A row's refusals are a table
-- read from the top: "Each refusal is given then and only then".
use Rattle.std.specs.Prelude.{not, ◌&&◌, ◌||◌, List, [], ◌∷◌, ℕ, leb, ltb, eqb, ℤ}
use Rattle.base.specs.Rules.{first_rule, ◌⇒◌, EPERM, ENOENT, E2BIG, ENOMEM, EBUSY, EEXIST, EINVAL, ENOSYS}
use Rattle.cell_record.specs.declared.CellConfig.{CellConfig}
use Rattle.cell_record.specs.CellRecord.{cell_of}
use Rattle.machine_state.specs.declared.CallKind.{CallKind}
use Rattle.machine_state.specs.declared.CallKind.TheVariants.{Disable, Create, Start, SetLoadable, Destroy}
use Rattle.machine_state.specs.declared.Answer.TheVariants.{Code}
use Rattle.machine_state.specs.declared.Machine.{Machine}
use Rattle.machine_state.specs.declared.Stepped.{Stepped}
use Rattle.rules.specs.State.{root_id, cpu_at, live, answered}
use Rattle.rules.specs.Queries.{get_info, get_state, cpu_get_info}
use Rattle.rules.specs.Create.{some_cell_locked, other_cell_locked, too_long, invalid, name_in_use, busy, free_id, no_room}
use Rattle.rules.specs.Asking.{ask, is_destroy}

-- the codes of the calls, by Jailhouse's names
abbrev pub hypervisor_disable : ℕ
hypervisor_disable = 0

abbrev pub cell_create : ℕ
cell_create = 1

abbrev pub cell_start : ℕ
cell_start = 2

abbrev pub cell_set_loadable : ℕ
cell_set_loadable = 3

abbrev pub cell_destroy : ℕ
cell_destroy = 4

abbrev pub hypervisor_get_info : ℕ
hypervisor_get_info = 5

abbrev pub cell_get_state : ℕ
cell_get_state = 6

abbrev pub cpu_get_info_code : ℕ
cpu_get_info_code = 7

-- a call that ends at once with a code and changes nothing more
abbrev pub ends : ℤ → Machine → Stepped
ends code m = answered (Code code) m

-- "0 Disable | ask every cell; one denial -1; else 0"
unfoldable pub disable_call : CellConfig → Machine → Stepped
disable_call new m = ask Disable root_id 0 new m

-- "1 Create | -1 some active cell has state 1; -7 record longer than the limit; -22 rule broken, no CPU, or a CPU outside the boot set; -17 name in
-- use, root's included; -16 caller's CPU wanted, a CPU not root's, or a region physically meeting a live non-root cell's ..; -12 no free ID,
-- or pool used would pass its total; else the new ID"
unfoldable pub create_call : ℕ → List ℕ → Machine → Stepped
create_call caller bytes m =
    first_rule
    ((some_cell_locked m ⇒ ends EPERM m)
    ∷ (too_long bytes ⇒ ends E2BIG m)
    ∷ (invalid bytes m ⇒ ends EINVAL m)
    ∷ (name_in_use (cell_of bytes).name m ⇒ ends EEXIST m)
    ∷ (busy caller (cell_of bytes) m ⇒ ends EBUSY m)
    ∷ (no_room (cell_of bytes) m ⇒ ends ENOMEM m)
    ∷ [])
    (ask Create (free_id m) 0 (cell_of bytes) m)

-- "2 Start, 3 Set Loadable | -22 ID 0; -2 no such cell; ask target; denied -1; else 0", and "4 Destroy | as 2, but before asking and again
-- once allowed: -1 if another active cell has state 1"
unfoldable pub target_call : CallKind → ℕ → CellConfig → Machine → Stepped
target_call kind id new m =
    first_rule
    ((eqb id root_id ⇒ ends EINVAL m)
    ∷ (not (live m id) ⇒ ends ENOENT m)
    ∷ (is_destroy kind && other_cell_locked id m ⇒ ends EPERM m)
    ∷ [])
    (ask kind id 0 new m)

-- the call that a code means. "Arguments are 64-bit"
unfoldable pub call_by_code : ℕ → ℕ → ℕ → ℕ → List ℕ → Machine → Stepped
call_by_code cpu code a1 a2 bytes m =
    first_rule
    ((eqb code hypervisor_disable ⇒ disable_call (cell_of bytes) m)
    ∷ (eqb code cell_create ⇒ create_call cpu bytes m)
    ∷ (eqb code cell_start ⇒ target_call Start a1 (cell_of bytes) m)
    ∷ (eqb code cell_set_loadable ⇒ target_call SetLoadable a1 (cell_of bytes) m)
    ∷ (eqb code cell_destroy ⇒ target_call Destroy a1 (cell_of bytes) m)
    ∷ (eqb code hypervisor_get_info ⇒ ends (get_info a1 m) m)
    ∷ (eqb code cell_get_state ⇒ ends (get_state a1 m) m)
    ∷ (eqb code cpu_get_info_code ⇒ ends (cpu_get_info cpu a1 a2 m) m)
    ∷ [])
    (ends ENOSYS m)

-- "A code above 7 gives -38 first. Codes 0 to 4 and 6 from a non-root CPU give -1."
unfoldable pub call : ℕ → ℕ → ℕ → ℕ → List ℕ → Machine → Stepped
call cpu code a1 a2 bytes m =
    first_rule
    ((ltb cpu_get_info_code code ⇒ ends ENOSYS m)
    ∷ (not (eqb (cpu_at m cpu).cell root_id) && (leb code cell_destroy || eqb code cell_get_state) ⇒ ends EPERM m)
    ∷ [])
    (call_by_code cpu code a1 a2 bytes m)
