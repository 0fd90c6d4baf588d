-- What is done to the words of a cell, and which cells a search looks at, as values that one function hands to another.
use Rattle.std.specs.Prelude.{◌≡◌, Bool, true, false, not, ℕ, ◌<◌, ltb, eqb}
use Rattle.machine_state.specs.declared.CommRegion.{CommRegion}
use Rattle.machine_state.specs.declared.Machine.{Machine}
use Rattle.machine_state.specs.Machine.{max_cells}
use Rattle.rules.specs.State.{comm_at, with_comm}
use Rattle.rules.specs.Effects.{store_word}
use Rattle.rules.specs.Asking.{message}
use Rattle.comms.specs.declared.WordsChange.{WordsChange}
use Rattle.comms.specs.declared.WordsChange.TheVariants as Words
use Rattle.comms.specs.declared.Whom.{Whom}
use Rattle.comms.specs.declared.Whom.TheVariants.{Everyone, Nobody, Only, EveryoneBut}

unfoldable pub words_of : WordsChange → CommRegion → CommRegion
words_of Words.Keep c = c
words_of (Words.Store word value) c = store_word word value c
words_of (Words.Message code) c = message code c

-- the machine with the words of one cell changed
unfoldable pub words_at : ℕ → WordsChange → Machine → Machine
words_at cell how m = with_comm cell (words_of how (comm_at m cell)) m

-- the cells that a search looks at
unfoldable pub among : Whom → ℕ → Bool
among Everyone id = true
among Nobody id = false
among (Only cell) id = eqb id cell
among (EveryoneBut cell) id = not (eqb id cell)

-- a function's place in a table of `size` places is the definition's
pub record Index (place size r : ℕ) : Type 0 where
  pub is : r ≡ place
  pub inside : r < size

-- a cell's place in the tables; 0 where they have none for its number
unfoldable pub cell_index : ℕ → ℕ
cell_index id = elim (ltb id max_cells) [ true ↦ id | false ↦ 0 ]
