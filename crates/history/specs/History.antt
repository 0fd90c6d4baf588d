-- The history of a run: which cells have been created and not destroyed, and by which records, read from the events and their answers alone
-- and never from the machine's tables. Create's effect comes with its call unless that is refused; Destroy's with the first answer, the call's
-- own or a poll's, that is neither a refusal nor `wait` for its target; Disable's with its 0.
use Rattle.std.specs.Prelude.{Bool, true, false, not, ◌&&◌, List, [], ◌∷◌, ℕ, leb, eqb, pos, negsuc, Option, None, Some}
use Rattle.base.specs.Lists.{any}
use Rattle.cell_record.specs.declared.CellConfig.{CellConfig}
use Rattle.cell_record.specs.CellRecord.{cell_of}
use Rattle.machine_state.specs.declared.CallKind.{CallKind}
use Rattle.machine_state.specs.declared.CallKind.TheVariants.{Disable, Create, Destroy}
use Rattle.machine_state.specs.declared.Event.{Event}
use Rattle.machine_state.specs.declared.Event.TheVariants.{Call, Poll}
use Rattle.machine_state.specs.declared.Answer.{Answer}
use Rattle.machine_state.specs.declared.Answer.TheVariants.{Code, Wait}
use Rattle.machine_state.specs.declared.Machine.{Machine}
use Rattle.rules.specs.State.{cell_ids, first}
use Rattle.rules.specs.Answers.{is_negative}
use Rattle.rules.specs.Calls.{cell_destroy}
use Rattle.rules.specs.Observer.{kind_of_code, target_of}
use Rattle.rules.specs.Run.{Line, Manager, Happened, run}

-- ---- cells that have been created and not destroyed

-- a cell's ID, and the bytes of the record that its Create brought
pub record Created : Type 0 where
  pub id : ℕ
  pub bytes : List ℕ

-- the list has a cell of this ID; what its record says, nothing where there is none
unfoldable pub has_cell : ℕ → List Created → Bool
has_cell id cells = any (λ c. eqb c.id id) cells

unfoldable pub record_brought : ℕ → List Created → CellConfig
record_brought id [] = cell_of []
record_brought id (c ∷ cells) = elim (eqb c.id id) [ true ↦ cell_of c.bytes | false ↦ record_brought id cells ]

-- "the ID and its room are free again"
unfoldable pub cells_but : ℕ → List Created → List Created
cells_but id [] = []
cells_but id (c ∷ cells) = elim (eqb c.id id) [ true ↦ cells_but id cells | false ↦ c ∷ cells_but id cells ]

-- "smallest free ID from 1"
unfoldable pub smallest_free : List Created → ℕ
smallest_free cells = first (λ id. not (has_cell id cells)) cell_ids

-- what a call's effect does to them. `bytes` is the record that comes with the call
unfoldable pub cells_after : CallKind → ℕ → List ℕ → List Created → List Created
cells_after Disable target bytes cells = []
cells_after Create target bytes cells = record { id = smallest_free cells; bytes = bytes } ∷ cells
cells_after Destroy target bytes cells = cells_but target cells
cells_after _ target bytes cells = cells

-- ---- the call whose effect is still to come: its kind and its target

abbrev pub Ahead : Type 0
Ahead = Option (CallKind × ℕ)

-- a call that waits for `cell` has had its effect: Create from its call on, Destroy once it waits for another than its target
unfoldable pub has_come : CallKind → ℕ → ℕ → Bool
has_come Create target cell = true
has_come Destroy target cell = not (eqb cell target)
has_come _ target cell = false

-- ---- the history

-- the cells, the call whose effect is still to come, and the cell that a call waits for, 0 where none waits
pub record History : Type 0 where
  pub cells : List Created
  pub ahead : Ahead
  pub waits_for : ℕ

abbrev pub nothing_yet : History
nothing_yet = record { cells = []; ahead = None; waits_for = 0 }

-- a call has its effect
unfoldable pub come : CallKind → ℕ → List ℕ → ℕ → History → History
come kind target bytes cell h = record { cells = cells_after kind target bytes h.cells; ahead = None; waits_for = cell }

-- an answer, the call's own or a poll's, to a call whose effect is still to come
unfoldable pub answered_by : CallKind → ℕ → List ℕ → Answer → History → History
answered_by kind target bytes (Code (pos n)) h = come kind target bytes 0 h
answered_by kind target bytes (Code (negsuc n)) h = record h { ahead = None; waits_for = 0 }
answered_by kind target bytes (Wait cell) h =
    elim (has_come kind target cell) [
      | true ↦ come kind target bytes cell h
      | false ↦ record h { ahead = Some (kind, target); waits_for = cell }
    ]
answered_by kind target bytes _ h = h

-- a call: codes 0 to 4 have effects, and one that is refused leaves all as it was, another call that waits included
unfoldable pub after_call : ℕ → ℕ → List ℕ → Answer → History → History
after_call code a1 bytes answer h =
    elim (leb code cell_destroy && not (is_negative answer)) [
      | true ↦ answered_by (kind_of_code code) (target_of (kind_of_code code) a1) bytes answer h
      | false ↦ h
    ]

-- a poll of a call that has had its effect: only the cell that it waits for changes
unfoldable pub after_telling : Answer → History → History
after_telling (Code z) h = record h { ahead = None; waits_for = 0 }
after_telling (Wait cell) h = record h { ahead = None; waits_for = cell }
after_telling _ h = h

unfoldable pub after_poll : Ahead → Answer → History → History
after_poll None answer h = after_telling answer h
after_poll (Some (kind, target)) answer h = answered_by kind target [] answer h

-- one event and its answer
unfoldable pub seen : Event → List ℕ → Answer → History → History
seen (Call cpu code a1 a2) bytes answer h = after_call code a1 bytes answer h
seen Poll bytes answer h = after_poll h.ahead answer h
seen _ bytes answer h = h

-- the history of a run, from its start to its end
unfoldable pub history_from : History → List Happened → History
history_from h [] = h
history_from h (s ∷ ss) = history_from (seen s.line.event s.line.bytes s.answer h) ss

abbrev pub history : Manager → Machine → List Line → History
history manager m ls = history_from nothing_yet (run manager m ls)
