-- The rows of Create's table in `rules`, as the code that they give; `Laws` ties it to Create's call.
use Rattle.std.specs.Prelude.{true, false, List, [], ◌∷◌, ℕ, ℤ, pos, Option, Some, None, Result, Ok, Err}
use Rattle.base.specs.declared.Errno.{Errno}
use Rattle.base.specs.Codes.{number_of}
use Rattle.base.specs.Rules.{first_rule, ◌⇒◌, EPERM, E2BIG, ENOMEM, EBUSY, EEXIST, EINVAL}
use Rattle.cell_record.specs.declared.CellConfig.{CellConfig}
use Rattle.cell_record.specs.CellRecord.{cell_of}
use Rattle.machine_state.specs.declared.Machine.{Machine}
use Rattle.rules.specs.Create.{some_cell_locked, too_long, invalid, name_in_use, busy, free_id, no_room}

-- the code where the name, or a CPU or a region that the new cell wants, is in use, and 0 where none is
unfoldable pub use_code : ℕ → List ℕ → Machine → ℤ
use_code caller bytes m = first_rule ((name_in_use (cell_of bytes).name m ⇒ EEXIST) ∷ (busy caller (cell_of bytes) m ⇒ EBUSY) ∷ []) (pos 0)

-- the new cell's ID, where there is one and room for the cell
unfoldable pub new_id : CellConfig → Machine → Option ℕ
new_id new m = elim (no_room new m) [ true ↦ None | false ↦ Some (free_id m) ]

-- 0 for a new cell's ID, else the code of the refusal
abbrev pub code_of_id : Result ℕ Errno → ℤ
code_of_id (Ok id) = pos 0
code_of_id (Err why) = number_of why

-- the code with which Create is refused, and 0 where it is not
unfoldable pub create_code : ℕ → List ℕ → Machine → ℤ
create_code caller bytes m =
    first_rule
    ((some_cell_locked m ⇒ EPERM)
    ∷ (too_long bytes ⇒ E2BIG)
    ∷ (invalid bytes m ⇒ EINVAL)
    ∷ (name_in_use (cell_of bytes).name m ⇒ EEXIST)
    ∷ (busy caller (cell_of bytes) m ⇒ EBUSY)
    ∷ (no_room (cell_of bytes) m ⇒ ENOMEM)
    ∷ [])
    (pos 0)
