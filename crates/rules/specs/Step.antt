-- One event: the answer and the next machine, for every machine, event and record. A call with code 1 comes with the bytes of its record.
use Rattle.std.specs.Prelude.{List, ℕ}
use Rattle.base.specs.Rules.{first_rule}
use Rattle.cell_record.specs.CellRecord.{cell_of}
use Rattle.machine_state.specs.declared.Event.{Event}
use Rattle.machine_state.specs.declared.Event.TheVariants.{Call, Store, Fault, Exit, Poll, Malformed}
use Rattle.machine_state.specs.declared.Answer.TheVariants.{Done, Bad}
use Rattle.machine_state.specs.declared.Machine.{Machine}
use Rattle.machine_state.specs.declared.Stepped.{Stepped}
use Rattle.rules.specs.State.{answered}
use Rattle.rules.specs.Unobeyed.{unobeyed}
use Rattle.rules.specs.Effects.{counted, exit_counter, call_counter, stored, faulted}
use Rattle.rules.specs.Asking.{poll}
use Rattle.rules.specs.Calls.{call}

-- what an obeyed event does: "An obeyed call or exit first adds one to its own counter and the total of that CPU". A malformed line is never
-- obeyed
unfoldable pub obeyed : Event → List ℕ → Machine → Stepped
obeyed (Call cpu code a1 a2) bytes m = call cpu code a1 a2 bytes (counted call_counter cpu m)
obeyed (Store cpu word value) bytes m = answered Done (stored cpu word value m)
obeyed (Fault cpu) bytes m = answered Done (faulted cpu m)
obeyed (Exit cpu kind) bytes m = answered Done (counted (exit_counter kind) cpu m)
obeyed Poll bytes m = poll m.waiting (cell_of bytes) m
obeyed Malformed bytes m = answered Bad m

unfoldable pub step : Event → List ℕ → Machine → Stepped
step e bytes m = first_rule (unobeyed e m) (obeyed e bytes m)
