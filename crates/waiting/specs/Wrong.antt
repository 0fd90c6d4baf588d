-- Wrong managers, each a small change of ours at calls or at polls, against which demand 3 is held: of each a run on the reading-room box shows that
-- the claim is false. Document 01, "What a reader must rely on" and "Errors a good engineer makes".
use Rattle.std.specs.Prelude.{Bool, true, false, not, ◌&&◌, List, ℕ, eqb, pos}
use Rattle.cell_record.specs.CellRecord.{cell_of}
use Rattle.machine_state.specs.Machine.{Waiting}
use Rattle.std.specs.Prelude.{None, Some}
use Rattle.machine_state.specs.declared.Answer.TheVariants.{Wait}
use Rattle.machine_state.specs.declared.Event.TheVariants.{Call, Poll}
use Rattle.machine_state.specs.declared.Machine.{Machine}
use Rattle.machine_state.specs.declared.Stepped.{Stepped}
use Rattle.rules.specs.State.{comm_at, limit_at, with_comm, with_cpus, with_waiting, waited_for, answered}
use Rattle.rules.specs.Answers.{is_negative, is_wait}
use Rattle.rules.specs.Effects.{with_message, with_reply, cell_destroyed, cell_cut_off}
use Rattle.rules.specs.Asking.{message, shutdown_request, consents, is_destroy, tell, carry_out, ask, finished, hear, is_last_poll, with_polls, cuts_off, still_waits}
use Rattle.rules.specs.Calls.{cell_destroy}
use Rattle.rules.specs.Step.{step}
use Rattle.rules.specs.Run.{Manager}

-- our step, changed at calls (code, first argument, the machine met, our step) and at polls (the record's bytes, the machine met, our step)
unfoldable pub changed : (ℕ → ℕ → Machine → Stepped → Stepped) → (List ℕ → Machine → Stepped → Stepped) → Manager
changed at_call at_poll (Call cpu code a1 a2) bytes m = at_call code a1 m (step (Call cpu code a1 a2) bytes m)
changed at_call at_poll Poll bytes m = at_poll bytes m (step Poll bytes m)
changed at_call at_poll e bytes m = step e bytes m

abbrev pub ours_at_call : ℕ → ℕ → Machine → Stepped → Stepped
ours_at_call code a1 m s = s

-- another machine with our answer, where a test passes
unfoldable pub leaving : Bool → Machine → Stepped → Stepped
leaving test m s = elim test [ true ↦ answered s.answer m | false ↦ s ]

-- the cell waited for; 0 where no call waits
abbrev pub waited_in : Machine → ℕ
waited_in m = waited_for m.waiting

-- ---- "one that destroys at the first step and then only stages the polls"
unfoldable pub effect_first : Manager
effect_first =
    changed
    (λ code a1 m s. leaving (is_wait s.answer && eqb code cell_destroy) (with_comm a1 (comm_at s.machine a1) (cell_destroyed a1 s.machine)) s)
    (λ bytes m s. leaving true (with_waiting s.machine.waiting m) s)

-- ---- "One that ends every wait early": a poll that would wait ends with 0
unfoldable pub ends_early : Manager
ends_early = changed ours_at_call (λ bytes m s. elim (is_wait s.answer) [ true ↦ finished (pos 0) m | false ↦ s ])

-- ---- "Accepting a reply left from an earlier message because from was not cleared"
unfoldable pub reply_kept : Machine → Stepped → Stepped
reply_kept m s =
    let id = waited_in s.machine in
    leaving (is_wait s.answer) (with_comm id (with_reply (comm_at m id).reply_from_cell (comm_at s.machine id)) s.machine) s

unfoldable pub stale_reply : Manager
stale_reply = changed (λ code a1 m s. reply_kept m s) (λ bytes m s. reply_kept m s)

-- ---- a denial taken for consent: where the cell waited for denies, the call asks on
unfoldable pub asks_on : Waiting → List ℕ → Machine → Stepped → Stepped
asks_on None bytes m s = s
asks_on (Some (kind, stage)) bytes m s = ask kind stage.target stage.cell (cell_of bytes) m

unfoldable pub denial_consents : Manager
denial_consents =
    changed ours_at_call
    (λ bytes m s. elim (is_negative s.answer && not (consents (comm_at m (waited_in m)))) [ true ↦ asks_on m.waiting bytes m s | false ↦ s ])

-- ---- "Testing locks only before the wait": where the cell waited for consents, the effect comes
unfoldable pub carries_out : Waiting → List ℕ → Machine → Stepped → Stepped
carries_out None bytes m s = s
carries_out (Some (kind, stage)) bytes m s = carry_out kind stage.target (cell_of bytes) m

unfoldable pub locks_before : Manager
locks_before =
    changed ours_at_call
    (λ bytes m s. elim (is_negative s.answer && consents (comm_at m (waited_in m))) [ true ↦ carries_out m.waiting bytes m s | false ↦ s ])

-- ---- a cell messaged twice: a poll that waits on messages the cell that it looked at again
unfoldable pub messages_twice : Manager
messages_twice =
    changed ours_at_call
    (λ bytes m s. leaving (is_wait s.answer) (with_comm (waited_in m) (message shutdown_request (comm_at s.machine (waited_in m))) s.machine) s)

-- ---- "Cells already heard are not changed back": a poll that goes on to another cell clears the words of the one that it heard
unfoldable pub changes_back : Manager
changes_back =
    changed ours_at_call
    (λ bytes m s. leaving (is_wait s.answer && not (eqb (waited_in m) (waited_in s.machine)))
    (with_comm (waited_in m) (with_message 0 (with_reply 0 (comm_at s.machine (waited_in m)))) s.machine) s)

-- ---- telling before the effect: Destroy tells once its target consents, and has its effect when all are told
unfoldable pub tells_on : Waiting → Machine → Stepped → Stepped
tells_on None m s = s
tells_on (Some (kind, stage)) m s =
    elim (is_destroy kind && not (is_negative s.answer)) [
      | true ↦ elim stage.telling [
        | true ↦ elim (is_wait s.answer) [ true ↦ s | false ↦ finished (pos 0) (cell_destroyed stage.target m) ]
        | false ↦ elim (consents (comm_at m stage.cell)) [ true ↦ tell kind stage.target stage.target m | false ↦ s ]
      ]
      | false ↦ s
    ]

unfoldable pub tells_first : Manager
tells_first = changed ours_at_call (λ bytes m s. tells_on m.waiting m s)

-- ---- the reply limit: it never cuts a cell off; the CPUs of the cell go on running; a reply at the limit's poll is lost
unfoldable pub waits_on : Waiting → Machine → Stepped → Stepped
waits_on None m s = s
waits_on (Some (kind, stage)) m s = elim (cuts_off stage m) [ true ↦ answered (Wait stage.cell) (still_waits kind stage m) | false ↦ s ]

unfoldable pub never_cuts_off : Manager
never_cuts_off = changed ours_at_call (λ bytes m s. waits_on m.waiting m s)

unfoldable pub runs_on : Waiting → Machine → Stepped → Stepped
runs_on None m s = s
runs_on (Some (kind, stage)) m s = leaving (cuts_off stage m) (with_cpus m.cpus s.machine) s

unfoldable pub leaves_running : Manager
leaves_running = changed ours_at_call (λ bytes m s. runs_on m.waiting m s)

unfoldable pub cuts_anyway : Waiting → List ℕ → Machine → Stepped → Stepped
cuts_anyway None bytes m s = s
cuts_anyway (Some (kind, stage)) bytes m s =
    elim (is_last_poll (limit_at m stage.cell) stage.polls) [ true ↦ hear kind stage (cell_of bytes) (cell_cut_off stage.cell m) | false ↦ s ]

unfoldable pub loses_reply : Manager
loses_reply = changed ours_at_call (λ bytes m s. cuts_anyway m.waiting bytes m s)

-- ---- a poll that waits counts though the cell has no limit
unfoldable pub counts_unlimited : Manager
counts_unlimited = changed ours_at_call (λ bytes m s. leaving (is_wait s.answer) (with_waiting (with_polls 1 s.machine.waiting) s.machine) s)
