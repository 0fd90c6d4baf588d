-- A call that ends with a negative code never had its effect. Once it tells, it ends with 0 or the new ID; so each of its steps before a negative
-- end is one that asks, and such a step messages a cell, or hears nothing, or is the end, on the machine where a limit may have cut a cell off. By
-- induction over the lines after the call: between two polls every event leaves the call waiting as it was. Assumes nothing.
use Rattle.std.proofs.Common.{◌≡◌, refl, sym, ap, ◌∙◌, subst, Bool, true, false, ◌&&◌, ◌||◌, true≢false, List, [], ◌∷◌, ℕ, ◌<◌, arith, eq-eqb, eqb, eqb→eq, pos, Some}
use Rattle.base.specs.Lists.{any}
use Rattle.base.specs.Rules.{EPERM}
use Rattle.base.proofs.Tests.{is_false}
use Rattle.cell_record.specs.declared.CellConfig.{CellConfig}
use Rattle.cell_record.specs.CellRecord.{cell_of}
use Rattle.machine_state.specs.declared.CallKind.{CallKind}
use Rattle.machine_state.specs.declared.CallKind.TheVariants.{Disable, Create, Start, SetLoadable, Destroy}
use Rattle.machine_state.specs.declared.Stage.{Stage}
use Rattle.machine_state.specs.Machine.{Waiting}
use Rattle.machine_state.specs.declared.Event.{Event}
use Rattle.machine_state.specs.declared.Event.TheVariants.{Call, Store, Fault, Exit, Poll, Malformed}
use Rattle.machine_state.specs.declared.Answer.{Answer}
use Rattle.machine_state.specs.declared.Answer.TheVariants.{Wait}
use Rattle.machine_state.specs.declared.Machine.{Machine}
use Rattle.machine_state.specs.declared.Stepped.{Stepped}
use Rattle.rules.specs.State.{root_id, comm_at, with_waiting, answered}
use Rattle.rules.specs.Effects.{counted, call_counter, effect, cell_cut_off}
use Rattle.rules.specs.Create.{other_cell_locked, free_id}
use Rattle.rules.specs.Asking.{is_destroy, asking, telling, wait_for, finished, ask, poll, is_heard, with_polls, cuts_off, hears_at, heard_at, heard_in, still_waits, poll_cell, shutdown_request, reconfig_completed}
use Rattle.rules.specs.Calls.{ends}
use Rattle.rules.specs.Step.{obeyed, step}
use Rattle.rules.specs.Run.{Line, Happened, run, is_poll}
use Rattle.rules.specs.Answers.{is_negative, is_unobeyed, is_code, is_wait}
use Rattle.refusals.specs.WholeCall.{own_polls, ends_refused, none_waiting, uncounted, set_aside, now_waited, cut_off_by, OnlyMessages, OwnStepsKeep, RefusedKeeps}
use Rattle.rules.proofs.Cases.{word-cases, step-cases, ask-cases, call-cases, poll-asking, poll-telling}
use Rattle.refusals.proofs.Kept.{step_waits, message-only}

-- a step of a run, of which `s` is what the event answered and left
abbrev met : Line → Machine → Stepped → Happened
met l m s = record { before = m; line = l; answer = s.answer; after = s.machine }

abbrev poll_line : List ℕ → Line
poll_line bytes = record { event = Poll; bytes = bytes }

-- that step and those after it
abbrev on : Line → List Line → Machine → Stepped → List Happened
on l ls m s = met l m s ∷ run step s.machine ls

-- what a run shows of an event that is no poll: nothing
between : (l : Line) (ls : List Line) (m : Machine) → is_poll l.event ≡ false
    → own_polls (run step m (l ∷ ls)) ≡ own_polls (run step (step l.event l.bytes m).machine ls)
unfolding run own_polls
between l ls m e = rw (e, own_polls)

-- a poll, where a call waits
at-poll : (P : Stepped → Type 0) (kind : CallKind) (stage : Stage) (bytes : List ℕ) (m : Machine) → m.waiting ≡ Some (kind, stage)
    → ((w : Answer) → is_unobeyed w ≡ true → P (answered w m))
    → P (poll_cell kind stage (cell_of bytes) m)
    → P (step Poll bytes m)
unfolding obeyed poll
at-poll P kind stage bytes m e word polled =
    step-cases P Poll bytes m (λ w u t. word w u) (λ t. subst (λ (w : Waiting). P (poll w (cell_of bytes) m)) (sym e) polled)

-- ---- a call that tells does not end with a negative code

Ends : List Line → Machine → Type 0
Ends ls m = ends_refused (run step m ls) ≡ false

Tells : CallKind → ℕ → ℕ → ℕ → Machine → Type 0
Tells kind target c polls m = m.waiting ≡ Some (kind, telling target c polls)

module _ (bytes : List ℕ) (ls : List Line) (rest : (kind : CallKind) (target c polls : ℕ) (m : Machine) → Tells kind target c polls m → Ends ls m) where
  EndsWell : Machine → Stepped → Type 0
  EndsWell m s = ends_refused (on (poll_line bytes) ls m s) ≡ false

  tells-word : (m : Machine) (w : Answer) → is_unobeyed w ≡ true → Ends ls m → EndsWell m (answered w m)
  unfolding EndsWell Ends own_polls is_code is_negative answered
  tells-word m w u e = word-cases (λ (a : Answer). EndsWell m (answered a m)) e e e e e e w u

  tells-wait : (m : Machine) (c : ℕ) (k : Machine) → Ends ls k → EndsWell m (answered (Wait c) k)
  unfolding EndsWell Ends own_polls is_code is_negative answered
  tells-wait m c k e = e

  tells-end : (m : Machine) (n : ℕ) (k : Machine) → EndsWell m (finished (pos n) k)
  unfolding EndsWell own_polls is_code is_negative answered finished
  tells-end m n k = refl

  tells-on : (kind : CallKind) (target c : ℕ) (m k : Machine) → EndsWell m (wait_for kind (telling target c 0) reconfig_completed k)
  unfolding wait_for Tells with_waiting
  tells-on kind target c m k = tells-wait m c _ (rest kind target c 0 _ refl)

  tells-still : (kind : CallKind) (target c polls : ℕ) (m : Machine) → EndsWell m (answered (Wait c) (still_waits kind (telling target c polls) m))
  unfolding still_waits with_polls Tells with_waiting
  tells-still kind target c polls m = tells-wait m c _ (rest kind target c _ _ refl)

  tells-poll : (kind : CallKind) (target c polls : ℕ) (m : Machine) → Tells kind target c polls m → EndsWell m (step Poll bytes m)
  unfolding Tells
  tells-poll kind target c polls m h =
      at-poll (EndsWell m) kind (telling target c polls) bytes m h (λ w u. tells-word m w u (rest kind target c polls m h))
      (poll-telling (EndsWell m) kind target c polls (cell_of bytes) m (λ u. tells-still kind target c polls m)
      (λ d l. tells-on kind target d m _)
      (λ n. tells-end m n _))

event-cases : (P : Event → Type 0) → P Poll → ((e : Event) → is_poll e ≡ false → P e) → (e : Event) → P e
event-cases P p f (Call cpu code a1 a2) = f (Call cpu code a1 a2) refl
event-cases P p f (Store cpu word value) = f (Store cpu word value) refl
event-cases P p f (Fault cpu) = f (Fault cpu) refl
event-cases P p f (Exit cpu kind) = f (Exit cpu kind) refl
event-cases P p f Poll = p
event-cases P p f Malformed = f Malformed refl

abbrev line : Event → List ℕ → Line
line e bytes = record { event = e; bytes = bytes }

telling-ends : (ls : List Line) (kind : CallKind) (target c polls : ℕ) (m : Machine) → Tells kind target c polls m → Ends ls m
unfolding Ends Tells EndsWell run own_polls
telling-ends [] kind target c polls m h = refl
telling-ends (l ∷ ls) kind target c polls m h =
    event-cases (λ (e : Event). Ends (line e l.bytes ∷ ls) m)
    (tells-poll l.bytes ls (telling-ends ls) kind target c polls m h)
    (λ e p.
    ap (any (λ (s : Happened). is_negative s.answer)) (between (line e l.bytes) ls m p)
    ∙ telling-ends ls kind target c polls _ (step_waits (Some (kind, telling target c polls)) refl e l.bytes m p h))
    l.event

-- ---- a call that asks changes messages only, if it ends with a negative code

Asks : CallKind → ℕ → ℕ → ℕ → Machine → Type 0
Asks kind target c polls m = m.waiting ≡ Some (kind, asking target c polls)

Keeps : List Line → ℕ → Machine → Type 0
Keeps ls c m = ends_refused (run step m ls) ≡ true → OnlyMessages c (own_polls (run step m ls))

-- no call messages the cell that it waits for, or root
other-cell : (a b : ℕ) → a < b → eqb b a ≡ false
other-cell a b l = is_false (eqb b a) (λ t. not-below a b l (eqb→eq b a t))
  where
    not-below : (a b : ℕ) → a < b → b ≡ a → ⊥
    not-below a b l e = omega arith

-- a step that messages the next cell
messages : (waited : ℕ) (kind : CallKind) (target c : ℕ) (m : Machine) → waited < c
    → set_aside waited (Wait c) (wait_for kind (asking target c 0) shutdown_request m).machine ≡ set_aside waited (Wait c) m
unfolding set_aside wait_for answered
messages waited kind target c m l = rw (other-cell waited c l, set_aside) (message-only c shutdown_request (Some (kind, asking target c 0)) m)

-- a poll that hears nothing counts, and cuts off no cell
still-uncounted : (kind : CallKind) (stage : Stage) (m : Machine) → m.waiting ≡ Some (kind, stage) → uncounted (still_waits kind stage m) ≡ uncounted m
unfolding still_waits with_polls with_waiting
still-uncounted kind stage m e = ap (λ (w : Waiting). with_waiting (with_polls 0 w) m) (sym e)

none-cut : (stage : Stage) (m : Machine) → hears_at stage m ≡ false → heard_at stage m ≡ m
unfolding hears_at heard_at
none-cut stage m u =
    ap (λ (b : Bool). elim b [ true ↦ cell_cut_off stage.cell m | false ↦ m ]) (or_right (is_heard (comm_at m stage.cell)) (cuts_off stage m) u)
  where
    or_right : (a b : Bool) → (a || b) ≡ false → b ≡ false
    or_right true b e = absurd (true≢false e)
    or_right false b e = e

module _ (bytes : List ℕ) (ls : List Line) (rest : (kind : CallKind) (target c polls : ℕ) (m : Machine) → Asks kind target c polls m → Keeps ls c m) where
  KeepsOn : ℕ → Machine → Stepped → Type 0
  KeepsOn c m s = ends_refused (on (poll_line bytes) ls m s) ≡ true → OnlyMessages c (own_polls (on (poll_line bytes) ls m s))

  asks-word : (c : ℕ) (m : Machine) (w : Answer) → is_unobeyed w ≡ true → Keeps ls c m → KeepsOn c m (answered w m)
  unfolding KeepsOn Keeps OnlyMessages cut_off_by is_unobeyed own_polls is_code is_negative answered set_aside now_waited
  asks-word c m w u k = word-cases (λ (a : Answer). KeepsOn c m (answered a m)) go go go go go go w u
    where
      go : ends_refused (run step m ls) ≡ true → (m ≡ m) × OnlyMessages c (own_polls (run step m ls))
      go t = (refl, k t)

  module _ (kind : CallKind) (target c polls : ℕ) (m : Machine) (h : Asks kind target c polls m) where
    abbrev stage : Stage
    stage = asking target c polls

    -- the machine on which the poll hears
    heard-here : heard_at stage m ≡ heard_in m.waiting m
    unfolding Asks heard_in
    heard-here = ap (λ (w : Waiting). heard_in w m) (sym h)

    asks-wait : hears_at stage m ≡ false → KeepsOn c m (answered (Wait c) (still_waits kind stage m))
    unfolding KeepsOn Keeps Asks OnlyMessages cut_off_by is_unobeyed own_polls is_code is_negative answered now_waited still_waits with_polls with_waiting set_aside
    asks-wait u t = (
      rw (eq-eqb c c refl, set_aside) (still-uncounted kind stage m h ∙ ap uncounted (sym (none-cut stage m u) ∙ heard-here)),
      rest kind target c _ _ refl t,
    )

    asks-end : KeepsOn c m (finished EPERM (heard_at stage m))
    unfolding KeepsOn OnlyMessages cut_off_by is_unobeyed own_polls is_code is_negative answered finished set_aside with_waiting
    asks-end t = (ap none_waiting heard-here, tt)

    asks-on : (d : ℕ) → c < d → KeepsOn c m (wait_for kind (asking target d 0) shutdown_request (heard_at stage m))
    unfolding KeepsOn Keeps Asks OnlyMessages cut_off_by is_unobeyed own_polls is_code is_negative answered now_waited wait_for with_waiting
    asks-on d l t = (messages c kind target d (heard_at stage m) l ∙ ap (set_aside c (Wait d)) heard-here, rest kind target d 0 _ refl t)

  -- the effect has come: no negative end follows
  asks-tells : (kind : CallKind) (target c d : ℕ) (m k : Machine) → KeepsOn c m (wait_for kind (telling target d 0) reconfig_completed k)
  unfolding KeepsOn Ends Tells own_polls is_code is_negative answered wait_for with_waiting
  asks-tells kind target c d m k t = absurd (true≢false (sym t ∙ telling-ends ls kind target d 0 _ refl))

  asks-ends : (c : ℕ) (m : Machine) (n : ℕ) (k : Machine) → KeepsOn c m (finished (pos n) k)
  unfolding KeepsOn own_polls is_code is_negative answered finished
  asks-ends c m n k t = absurd (true≢false (sym t))

  asks-poll : (kind : CallKind) (target c polls : ℕ) (m : Machine) → Asks kind target c polls m → KeepsOn c m (step Poll bytes m)
  unfolding Asks
  asks-poll kind target c polls m h =
      at-poll (KeepsOn c m) kind (asking target c polls) bytes m h (λ w u. asks-word c m w u (rest kind target c polls m h))
      (poll-asking (KeepsOn c m) kind target c polls (cell_of bytes) m (asks-wait kind target c polls m h)
      (asks-end kind target c polls m h)
      (asks-on kind target c polls m h)
      (λ d l. asks-tells kind target c d m _)
      (λ n. asks-ends c m n _))

asking-keeps : (ls : List Line) (kind : CallKind) (target c polls : ℕ) (m : Machine) → Asks kind target c polls m → Keeps ls c m
unfolding Keeps Asks KeepsOn OnlyMessages run own_polls
asking-keeps [] kind target c polls m h = λ t. tt
asking-keeps (l ∷ ls) kind target c polls m h =
    event-cases (λ (e : Event). Keeps (line e l.bytes ∷ ls) c m)
    (asks-poll l.bytes ls (asking-keeps ls) kind target c polls m h)
    (λ e p.
    subst (λ (hs : List Happened). any (λ (s : Happened). is_negative s.answer) hs ≡ true → OnlyMessages c hs)
    (sym (between (line e l.bytes) ls m p))
    (asking-keeps ls kind target c polls _ (step_waits (Some (kind, asking target c polls)) refl e l.bytes m p h)))
    l.event

-- ---- the call

module _ (cpu code a1 a2 : ℕ) (bytes : List ℕ) (m : Machine) (ls : List Line) where
  -- what is claimed of the call that answered and left `s`
  Claimed : Stepped → Type 0
  Claimed s =
      is_wait s.answer ≡ true → ends_refused (run step s.machine ls) ≡ true
      → OwnStepsKeep cpu (met (line (Call cpu code a1 a2) bytes) m s) (own_polls (run step s.machine ls))

  no-wait : (s : Stepped) → is_wait s.answer ≡ false → Claimed s
  unfolding Claimed
  no-wait s e w t = absurd (true≢false (sym w ∙ e))

  counts : Machine
  counts = counted call_counter cpu m

  asks-first : (kind : CallKind) (target : ℕ) (new : CellConfig) → (is_destroy kind && other_cell_locked target counts) ≡ false
      → Claimed (ask kind target 0 new counts)
  unfolding is_wait answered finished wait_for Claimed Keeps Asks Ends Tells with_waiting now_waited counts
  asks-first kind target new unlocked =
      ask-cases Claimed kind target 0 new counts
      (λ c l w t. record { called = messages root_id kind target c counts l; polled = asking-keeps ls kind target c 0 _ refl t })
      (λ locked. absurd (true≢false (sym locked ∙ unlocked)))
      (λ c l w t. absurd (true≢false (sym t ∙ telling-ends ls kind target c 0 _ refl)))
      (λ n. no-wait (finished (pos n) (effect kind target new counts)) refl)

  call-keeps : Claimed (step (Call cpu code a1 a2) bytes m)
  unfolding obeyed answered is_wait counts
  call-keeps =
      step-cases Claimed (Call cpu code a1 a2) bytes m
      (λ w u t. no-wait (answered w m) (word-cases (λ (a : Answer). is_wait a ≡ false) refl refl refl refl refl refl w u))
      (λ o. call-cases Claimed cpu code a1 a2 bytes counts
      (record {
        at_once = λ z. no-wait (ends z counts) refl;
        disables = λ e. asks-first Disable root_id (cell_of bytes) refl;
        creates = λ e may. asks-first Create (free_id counts) (cell_of bytes) refl;
        starts = λ e may. asks-first Start a1 (cell_of bytes) refl;
        loads = λ e may. asks-first SetLoadable a1 (cell_of bytes) refl;
        destroys = λ e may. asks-first Destroy a1 (cell_of bytes) may.unlocked;
      }))

pub refused-keeps : RefusedKeeps step
unfolding Claimed
refused-keeps cpu code a1 a2 bytes m ls = call-keeps cpu code a1 a2 bytes m ls
