-- What an unobeyed and a refused event leave. A word of the table of unobeyed events comes with the machine as it was; an obeyed call answers no
-- word, and a negative code only where it ends at once; a poll answers a negative code only where it ends the call. Assumes nothing.
use Rattle.std.proofs.Common.{◌≡◌, refl, sym, ◌∙◌, Bool, true, false, ◌&&◌, true≢false, List, ℕ, ℤ, pos, None, Some}
use Rattle.cell_record.specs.declared.CellConfig.{CellConfig}
use Rattle.cell_record.specs.CellRecord.{cell_of}
use Rattle.machine_state.specs.declared.CallKind.{CallKind}
use Rattle.machine_state.specs.declared.CallKind.TheVariants.{Disable, Create, Start, SetLoadable, Destroy}
use Rattle.machine_state.specs.declared.Stage.{Stage}
use Rattle.machine_state.specs.Machine.{Waiting}
use Rattle.machine_state.specs.declared.Event.{Event}
use Rattle.machine_state.specs.declared.Event.TheVariants.{Call, Store, Fault, Exit, Poll, Malformed}
use Rattle.machine_state.specs.declared.Answer.{Answer}
use Rattle.machine_state.specs.declared.Answer.TheVariants.{Code, Wait, Done, Bad, Idle}
use Rattle.machine_state.specs.declared.Machine.{Machine}
use Rattle.machine_state.specs.declared.Stepped.{Stepped}
use Rattle.rules.specs.State.{root_id, with_waiting, answered}
use Rattle.rules.specs.Effects.{counted, call_counter, exit_counter, stored, faulted}
use Rattle.rules.specs.Create.{other_cell_locked, free_id}
use Rattle.rules.specs.Asking.{is_destroy, asking, telling, wait_for, finished, ask, poll, cuts_off, heard_at, heard_in, poll_cell}
use Rattle.rules.specs.Calls.{call}
use Rattle.rules.specs.Step.{obeyed, step}
use Rattle.rules.specs.Answers.{is_negative, is_unobeyed}
use Rattle.refusals.specs.AtOnce.{refusal_leaves, UnobeyedKeeps, RefusedAtOnce}
use Rattle.rules.proofs.Cases.{word-cases, step-cases, ask-cases, call-cases, poll-asking, poll-telling}

-- ---- both claims of one step: where it answers a word it leaves `m`, where it answers a negative code it leaves `left`

record Leaves (m left : Machine) (s : Stepped) : Type 0 where
  word : is_unobeyed s.answer ≡ true → s.machine ≡ m
  negative : is_negative s.answer ≡ true → s.machine ≡ left

-- neither a word nor negative
goes-well : (m left : Machine) (s : Stepped) → is_unobeyed s.answer ≡ false → is_negative s.answer ≡ false → Leaves m left s
goes-well m left s u n = record { word = λ t. absurd (true≢false (sym t ∙ u)); negative = λ t. absurd (true≢false (sym t ∙ n)) }

-- a word, with the machine as it was
words-keep : (m left : Machine) (w : Answer) → is_unobeyed w ≡ true → Leaves m left (answered w m)
unfolding answered is_unobeyed is_negative
words-keep m left w u = record {
  word = λ t. refl;
  negative = λ t. absurd (true≢false (sym t ∙ word-cases (λ (a : Answer). is_negative a ≡ false) refl refl refl refl refl refl w u));
}

code-leaves : (m left : Machine) (z : ℤ) → Leaves m left (answered (Code z) left)
unfolding answered is_unobeyed
code-leaves m left z = record { word = λ t. absurd (true≢false (sym t)); negative = λ t. refl }

waits-well : (m left : Machine) (kind : CallKind) (stage : Stage) (code : ℕ) (k : Machine) → Leaves m left (wait_for kind stage code k)
unfolding wait_for answered is_unobeyed is_negative
waits-well m left kind stage code k = goes-well m left (wait_for kind stage code k) refl refl

ends-well : (m left : Machine) (n : ℕ) (k : Machine) → Leaves m left (finished (pos n) k)
unfolding finished answered is_unobeyed is_negative
ends-well m left n k = goes-well m left (finished (pos n) k) refl refl

wait-well : (m left : Machine) (c : ℕ) (k : Machine) → Leaves m left (answered (Wait c) k)
unfolding answered is_unobeyed is_negative
wait-well m left c k = goes-well m left (answered (Wait c) k) refl refl

done-well : (m left k : Machine) → Leaves m left (answered Done k)
unfolding answered is_unobeyed is_negative
done-well m left k = goes-well m left (answered Done k) refl refl

-- ---- calls and polls

-- a call that asks; no lock refuses it, since that row stands in its table
ask-leaves : (k m : Machine) (kind : CallKind) (target : ℕ) (new : CellConfig) → (is_destroy kind && other_cell_locked target m) ≡ false
    → Leaves k m (ask kind target 0 new m)
ask-leaves k m kind target new unlocked =
    ask-cases (Leaves k m) kind target 0 new m
    (λ c l. waits-well k m kind (asking target c 0) _ m)
    (λ locked. absurd (true≢false (sym locked ∙ unlocked)))
    (λ c l. waits-well k m kind (telling target c 0) _ _)
    (λ n. ends-well k m n _)

call-leaves : (k m : Machine) (cpu code a1 a2 : ℕ) (bytes : List ℕ) → Leaves k m (call cpu code a1 a2 bytes m)
call-leaves k m cpu code a1 a2 bytes =
    call-cases (Leaves k m) cpu code a1 a2 bytes m
    (record {
      at_once = λ z. code-leaves k m z;
      disables = λ e. ask-leaves k m Disable root_id (cell_of bytes) refl;
      creates = λ e may. ask-leaves k m Create (free_id m) (cell_of bytes) refl;
      starts = λ e may. ask-leaves k m Start a1 (cell_of bytes) refl;
      loads = λ e may. ask-leaves k m SetLoadable a1 (cell_of bytes) refl;
      destroys = λ e may. ask-leaves k m Destroy a1 (cell_of bytes) may.unlocked;
    })

poll-leaves : (w : Waiting) (new : CellConfig) (m : Machine) → Leaves m (with_waiting None (heard_in w m)) (poll w new m)
unfolding poll is_unobeyed finished heard_in heard_at cuts_off
poll-leaves None new m = words-keep m (with_waiting None m) Idle refl
poll-leaves (Some (kind, stage)) new m = by-stage stage.telling
  where
    target : ℕ
    target = stage.target

    cell : ℕ
    cell = stage.cell

    heard : Machine
    heard = heard_at stage m

    left : Machine
    left = with_waiting None heard

    by-stage : (b : Bool) → Leaves m left (poll_cell kind (record { target = target; cell = cell; telling = b; polls = stage.polls }) new m)
    by-stage true =
        poll-telling (Leaves m left) kind target cell stage.polls new m (λ u. wait-well m left cell _)
        (λ c l. waits-well m left kind (telling target c 0) _ heard)
        (λ n. ends-well m left n heard)
    by-stage false =
        poll-asking (Leaves m left) kind target cell stage.polls new m (λ u. wait-well m left cell _)
        (code-leaves m left _)
        (λ c l. waits-well m left kind (asking target c 0) _ heard)
        (λ c l. waits-well m left kind (telling target c 0) _ _)
        (λ n. ends-well m left n _)

-- ---- events

obeyed-leaves : (e : Event) (bytes : List ℕ) (m : Machine) → Leaves m (refusal_leaves e m) (obeyed e bytes m)
unfolding obeyed refusal_leaves is_unobeyed
obeyed-leaves (Call cpu code a1 a2) bytes m = call-leaves m (counted call_counter cpu m) cpu code a1 a2 bytes
obeyed-leaves (Store cpu word value) bytes m = done-well m m (stored cpu word value m)
obeyed-leaves (Fault cpu) bytes m = done-well m m (faulted cpu m)
obeyed-leaves (Exit cpu kind) bytes m = done-well m m (counted (exit_counter kind) cpu m)
obeyed-leaves Poll bytes m = poll-leaves m.waiting (cell_of bytes) m
obeyed-leaves Malformed bytes m = words-keep m m Bad refl

step-leaves : (e : Event) (bytes : List ℕ) (m : Machine) → Leaves m (refusal_leaves e m) (step e bytes m)
step-leaves e bytes m =
    step-cases (Leaves m (refusal_leaves e m)) e bytes m (λ w u t. words-keep m (refusal_leaves e m) w u) (λ t. obeyed-leaves e bytes m)

pub unobeyed-keeps : UnobeyedKeeps step
unobeyed-keeps e bytes m = (step-leaves e bytes m).word

pub refused-at-once : RefusedAtOnce step
refused-at-once e bytes m = (step-leaves e bytes m).negative
