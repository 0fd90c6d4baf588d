-- The communication region as its cell reads it, little-endian. Document 001, "Communication region layout" and "Platform Information for x86";
-- document 01, "The machine": three words, and "a zero word, the PM timer address and the cell's number of CPUs".
use Rattle.std.specs.Prelude.{Bool, true, false, not, ◌&&◌, List, [], ◌∷◌, ◌++◌, ℕ, zero, suc, ◌*◌, ◌/◌, ◌%◌, ltb, eqb, get_or, Option, None, Some}
use Rattle.cpu_set.specs.CpuSet.{count}
use Rattle.fields.specs.Fields.{u32}
use Rattle.machine_state.specs.declared.CommRegion.{CommRegion}
use Rattle.machine_state.specs.declared.Machine.{Machine}
use Rattle.rules.specs.State.{root_id, cell_at, comm_at, live}

-- a number's bytes, the lowest first
unfoldable pub bytes : ℕ → ℕ → List ℕ
bytes zero n = []
bytes (suc size) n = n % 256 ∷ bytes size (n / 256)

-- message to cell, message from cell, cell state, reserved (32 bit each), PM timer address, number of CPUs (16 bit each)
unfoldable pub layout : CommRegion → ℕ → ℕ → List ℕ
layout c timer cpus =
    bytes 4 c.msg_to_cell ++ bytes 4 c.reply_from_cell ++ bytes 4 c.cell_state ++ bytes 4 0 ++ bytes 2 timer ++ bytes 2 cpus

abbrev pub shown_in : ℕ → Machine → List ℕ
shown_in id m = layout (comm_at m id) m.system.timer (count (cell_at m id).cpus)

-- a live cell other than root sees it, if it has one
unfoldable pub sees_region : ℕ → Machine → Bool
sees_region id m = not (eqb id root_id) && live m id && (comm_at m id).mapped

-- one of its 5 words, and one of its 20 bytes: what lies past them in its page is named by neither document
unfoldable pub region_word : ℕ → ℕ → Machine → Option ℕ
region_word id word m = elim (sees_region id m && ltb word 5) [ true ↦ Some (u32 (4 * word) (shown_in id m)) | false ↦ None ]

unfoldable pub region_byte : ℕ → ℕ → Machine → Option ℕ
region_byte id offset m = elim (sees_region id m && ltb offset 20) [ true ↦ Some (get_or (shown_in id m) offset 0) | false ↦ None ]
