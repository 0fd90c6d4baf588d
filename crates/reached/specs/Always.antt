-- "In each state reached from an accepted start": a claim about what the system record said, the history and the machine, in every state that a
-- list of lines reaches, while a call waits and after Disable too. It is said of a manager, so that it can be held against a wrong one.
use Rattle.std.specs.Prelude.{List, ℕ}
use Rattle.system_record.specs.declared.SystemConfig.{SystemConfig}
use Rattle.system_record.specs.SystemRecord.{system_of}
use Rattle.machine_state.specs.declared.Machine.{Machine}
use Rattle.rules.specs.Run.{Line, Manager, after, Accepted, start_of}
use Rattle.history.specs.History.{History, history}

abbrev pub Always : (SystemConfig → History → Machine → Type 0) → Manager → Type 0
Always Claim manager =
    (bytes : List ℕ) → Accepted bytes → (lines : List Line)
    → Claim (system_of bytes) (history manager (start_of bytes) lines) (after manager (start_of bytes) lines)
