-- The ways in which a step can go. A table ends with one of its rows or past all of them; a call that its table lets pass asks, and then waits for
-- a cell, or is refused by a lock, or has its effect, after which it waits for a cell that it tells or ends with a code that is not negative.
-- Each law is by the tests of its definition, and says: what holds of every way holds of the step. Assumes nothing.
use Rattle.std.proofs.Common.{◌≡◌, refl, sym, subst, ap, ◌∙◌, Bool, true, false, not, ◌&&◌, ◌||◌, true≢false, List, [], ◌∷◌, ℕ, ◌<◌, ◌%◌, ◌^◌, ltb-true, eqb-true, leb, ltb, eqb, ℤ, pos}
use Rattle.std.proofs.lemmas.Bool.{and_parts, not-false, not-true, or_parts}
use Rattle.std.proofs.Math.Bool.{and-true}
use Rattle.base.specs.Lists.{any}
use Rattle.base.specs.Rules.{Refusal, first_rule, EPERM}
use Rattle.base.proofs.Rules.{by-rule, by-none}
use Rattle.cell_record.specs.declared.CellConfig.{CellConfig}
use Rattle.cell_record.specs.CellRecord.{cell_of}
use Rattle.machine_state.specs.declared.CallKind.{CallKind}
use Rattle.machine_state.specs.declared.CallKind.TheVariants.{Disable, Create, Start, SetLoadable, Destroy}
use Rattle.machine_state.specs.declared.Stage.{Stage}
use Rattle.machine_state.specs.declared.Event.{Event}
use Rattle.machine_state.specs.declared.Event.TheVariants.{Call, Store, Fault, Exit, Poll, Malformed}
use Rattle.machine_state.specs.declared.Answer.{Answer}
use Rattle.machine_state.specs.declared.Answer.TheVariants.{Code, Wait, Done, Off, Bad, Stopped, Held, Denied, Idle}
use Rattle.machine_state.specs.declared.Machine.{Machine}
use Rattle.machine_state.specs.declared.Stepped.{Stepped}
use Rattle.rules.specs.State.{root_id, live, cell_at, comm_at, cpu_at, state_at, cell_ids, no_id, first, is_final, failed, waits, with_comm, with_cpus, with_cpu, answered}
use Rattle.rules.specs.Unobeyed.{held, unobeyed, is_obeyed}
use Rattle.rules.specs.Effects.{effect, fail_cpu, all_failed, cell_failed, faulted, with_state, cell_cut_off}
use Rattle.rules.specs.Create.{some_cell_locked, other_cell_locked, too_long, invalid, name_in_use, busy, free_id, no_room}
use Rattle.rules.specs.Asking.{may_be_messaged, next_to_message, asks, tells, every_cell, is_destroy, asking, telling, wait_for, finished, end_code, tell, carry_out, none_to_ask, ask, consents, hear, cuts_off, hears_at, heard_at, still_waits, poll_cell, shutdown_request, reconfig_completed}
use Rattle.rules.specs.Calls.{hypervisor_disable, cell_create, cell_start, cell_set_loadable, cell_destroy, ends, disable_call, create_call, target_call, call_by_code, call}
use Rattle.rules.specs.Step.{obeyed, step}
use Rattle.rules.specs.Answers.{is_unobeyed}
use Rattle.rules.proofs.Ids.{by-test}

-- ---- the six words

pub word-cases : (P : Answer → Type 0) → P Off → P Bad → P Stopped → P Held → P Denied → P Idle → (w : Answer) → is_unobeyed w ≡ true → P w
unfolding is_unobeyed
word-cases P a b c d e f (Code z) u = absurd (true≢false (sym u))
word-cases P a b c d e f (Wait id) u = absurd (true≢false (sym u))
word-cases P a b c d e f Done u = absurd (true≢false (sym u))
word-cases P a b c d e f Off u = a
word-cases P a b c d e f Bad u = b
word-cases P a b c d e f Stopped u = c
word-cases P a b c d e f Held u = d
word-cases P a b c d e f Denied u = e
word-cases P a b c d e f Idle u = f

-- ---- an event: one of the six words, with the machine as it was, or what an obeyed event does

-- each row gives a word and the machine as it was
record Word (m : Machine) (s : Stepped) : Type 0 where
  word : Answer
  unheeded : is_unobeyed word ≡ true
  kept : s ≡ answered word m

Words : Machine → List (Refusal Stepped) → Type 0
Words m [] = Unit {0}
Words m (r ∷ rs) = Word m r.code × Words m rs

says : (w : Answer) (m : Machine) → is_unobeyed w ≡ true → Word m (answered w m)
says w m h = record { word = w; unheeded = h; kept = refl }

words : (e : Event) (m : Machine) → Words m (unobeyed e m)
unfolding Words unobeyed is_unobeyed
words (Call cpu code a1 a2) m = (says Off m refl, (says Bad m refl, (says Stopped m refl, (says Held m refl, tt))))
words (Store cpu word value) m = (says Off m refl, (says Bad m refl, (says Stopped m refl, (says Held m refl, (says Denied m refl, tt)))))
words (Fault cpu) m = (says Off m refl, (says Bad m refl, (says Stopped m refl, (says Held m refl, tt))))
words (Exit cpu kind) m = (says Off m refl, (says Bad m refl, (says Bad m refl, (says Stopped m refl, (says Held m refl, tt)))))
words Poll m = (says Off m refl, (says Idle m refl, tt))
words Malformed m = (says Off m refl, (says Bad m refl, tt))

applies : List (Refusal Stepped) → Bool
applies rs = any (λ (r : Refusal Stepped). r.when) rs

table-cases : (P : Stepped → Type 0) (m : Machine) (rs : List (Refusal Stepped)) (otherwise : Stepped) → Words m rs
    → ((w : Answer) → is_unobeyed w ≡ true → applies rs ≡ true → P (answered w m))
    → (applies rs ≡ false → P otherwise)
    → P (first_rule rs otherwise)
unfolding Words applies
table-cases P m [] otherwise ws f g = by-none P otherwise (g refl)
table-cases P m (r ∷ rs) otherwise ws f g =
    by-rule P r rs otherwise
    (λ e. subst P (sym ws.0.kept) (f ws.0.word ws.0.unheeded (rw e refl)))
    (λ e. table-cases P m rs otherwise ws.1 (λ w u t. f w u (rw e t)) (λ t. g (rw e t)))

pub step-cases : (P : Stepped → Type 0) (e : Event) (bytes : List ℕ) (m : Machine)
    → ((w : Answer) → is_unobeyed w ≡ true → is_obeyed e m ≡ false → P (answered w m))
    → (is_obeyed e m ≡ true → P (obeyed e bytes m))
    → P (step e bytes m)
unfolding step is_obeyed applies
step-cases P e bytes m f g =
    table-cases P m (unobeyed e m) (obeyed e bytes m) (words e m) (λ w u t. f w u (ap not t)) (λ t. g (ap not t))

-- an obeyed event is one to which no row applies, row by row
unfoldable pub NoneApplies : List (Refusal Stepped) → Type 0
NoneApplies [] = Unit {0}
NoneApplies (r ∷ rs) = (r.when ≡ false) × NoneApplies rs

none-applies : (rs : List (Refusal Stepped)) → applies rs ≡ false → NoneApplies rs
unfolding applies NoneApplies
none-applies [] e = tt
none-applies (r ∷ rs) e = let parts = or_parts r.when (applies rs) e in (parts.0, none-applies rs parts.1)

pub no_row : (e : Event) (m : Machine) → is_obeyed e m ≡ true → NoneApplies (unobeyed e m)
unfolding is_obeyed applies
no_row e m o = none-applies (unobeyed e m) (not-true (applies (unobeyed e m)) o)

-- "held": while a call waits, an obeyed event is of a CPU that is not root's
pub not_root : (cpu : ℕ) (m : Machine) → waits m.waiting ≡ true → (held cpu m).when ≡ false → eqb (cpu_at m cpu).cell root_id ≡ false
not_root cpu m w e = sym (and-true _) ∙ ap (λ (b : Bool). eqb (cpu_at m cpu).cell root_id && b) (sym w) ∙ e

-- ---- a fault: its CPU is marked, and its cell, whose state was then not final, may have failed

abbrev pub faulted_cpu : ℕ → Machine → Machine
faulted_cpu cpu m = with_cpu cpu (fail_cpu (cpu_at m cpu)) m

pub fault-cases : (P : Machine → Type 0) (cpu : ℕ) (m : Machine) → P (faulted_cpu cpu m)
    → (is_final (state_at m (cpu_at m cpu).cell) ≡ false
    → P (with_comm (cpu_at m cpu).cell (with_state failed (comm_at m (cpu_at m cpu).cell)) (faulted_cpu cpu m)))
    → P (faulted cpu m)
unfolding faulted cell_failed with_cpus
fault-cases P cpu m p q =
    by-test P (all && not (is_final (state_at m id))) _ _ (λ e. q (not-true (is_final (state_at m id)) (and_parts all (not (is_final (state_at m id))) e).1)) (λ e. p)
  where
    id : ℕ
    id = (cpu_at m cpu).cell

    all : Bool
    all = not (eqb id root_id) && all_failed (cell_at m id).cpus (faulted_cpu cpu m).cpus

-- ---- whom a call messages next

-- a cell that is found passes the test
first_passes : (p : ℕ → Bool) (ids : List ℕ) → ltb (first p ids) no_id ≡ true → p (first p ids) ≡ true
unfolding first
first_passes p [] h = absurd (true≢false (sym h))
first_passes p (id ∷ ids) h =
    by-test (λ x. ltb x no_id ≡ true → p x ≡ true) (p id) id (first p ids) (λ e l. e) (λ e. first_passes p ids) h

next-later : (among : ℕ → Bool) (after : ℕ) (m : Machine) → ltb (next_to_message among after m) no_id ≡ true → after < next_to_message among after m
unfolding next_to_message
next-later among after m h =
    let found = first (λ id. ltb after id && among id && may_be_messaged m id) cell_ids in
    ltb-true after found
    (and_parts _ (among found) (and_parts _ (may_be_messaged m found)
    (first_passes (λ id. ltb after id && among id && may_be_messaged m id) cell_ids h)).0).0

-- ---- a call that tells

end-code : (P : ℤ → Type 0) (kind : CallKind) (target : ℕ) → ((n : ℕ) → P (pos n)) → P (end_code kind target)
unfolding end_code
end-code P Disable target f = f 0
end-code P Create target f = f (target % 2 ^ 31)
end-code P Start target f = f 0
end-code P SetLoadable target f = f 0
end-code P Destroy target f = f 0

pub tell-cases : (P : Stepped → Type 0) (kind : CallKind) (target after : ℕ) (m : Machine)
    → ((c : ℕ) → after < c → P (wait_for kind (telling target c 0) reconfig_completed m))
    → ((n : ℕ) → P (finished (pos n) m))
    → P (tell kind target after m)
unfolding tell
tell-cases P kind target after m waits ends =
    by-test P _ _ _
    (λ h. waits _ (next-later every_cell after m h))
    (λ h. end-code (λ z. P (finished z m)) kind target ends)

-- ---- a call that has its effect

pub carry-cases : (P : Stepped → Type 0) (kind : CallKind) (target : ℕ) (new : CellConfig) (m : Machine)
    → ((c : ℕ) → 0 < c → P (wait_for kind (telling target c 0) reconfig_completed (effect kind target new m)))
    → ((n : ℕ) → P (finished (pos n) (effect kind target new m)))
    → P (carry_out kind target new m)
unfolding carry_out
carry-cases P kind target new m waits ends =
    by-test P (tells kind) _ _ (λ h. tell-cases P kind target 0 (effect kind target new m) waits ends) (λ h. ends 0)

-- ---- a call that asks

pub ask-cases : (P : Stepped → Type 0) (kind : CallKind) (target after : ℕ) (new : CellConfig) (m : Machine)
    → ((c : ℕ) → after < c → P (wait_for kind (asking target c 0) shutdown_request m))
    → ((is_destroy kind && other_cell_locked target m) ≡ true → P (finished EPERM m))
    → ((c : ℕ) → 0 < c → P (wait_for kind (telling target c 0) reconfig_completed (effect kind target new m)))
    → ((n : ℕ) → P (finished (pos n) (effect kind target new m)))
    → P (ask kind target after new m)
unfolding ask none_to_ask
ask-cases P kind target after new m waits locked tells ends =
    by-test P _ _ _
    (λ h. waits _ (next-later (asks kind target) after m h))
    (λ h. by-test P (is_destroy kind && other_cell_locked target m) _ _ locked (λ l. carry-cases P kind target new m tells ends))

-- ---- a poll: nothing heard, a denial or a lock, or a move on, on the machine where the cell is heard

-- that is the machine as it was, or with the cell cut off
pub heard-cases : (P : Machine → Type 0) (stage : Stage) (m : Machine) → P m → P (cell_cut_off stage.cell m) → P (heard_at stage m)
unfolding heard_at
heard-cases P stage m kept cut = by-test P (cuts_off stage m) (cell_cut_off stage.cell m) m (λ h. cut) (λ h. kept)

pub poll-asking : (P : Stepped → Type 0) (kind : CallKind) (target cell polls : ℕ) (new : CellConfig) (m : Machine)
    → let stage = asking target cell polls in
    let heard = heard_at stage m in
    (hears_at stage m ≡ false → P (answered (Wait cell) (still_waits kind stage m)))
    → P (finished EPERM heard)
    → ((c : ℕ) → cell < c → P (wait_for kind (asking target c 0) shutdown_request heard))
    → ((c : ℕ) → 0 < c → P (wait_for kind (telling target c 0) reconfig_completed (effect kind target new heard)))
    → ((n : ℕ) → P (finished (pos n) (effect kind target new heard)))
    → P (poll_cell kind stage new m)
unfolding poll_cell hear
poll-asking P kind target cell polls new m unheard refused waits tells ends =
    let heard = heard_at (asking target cell polls) m in
    by-test P (hears_at (asking target cell polls) m) _ _
    (λ h. by-test P (consents (comm_at heard cell)) _ _ (λ c. ask-cases P kind target cell new heard waits (λ l. refused) tells ends) (λ c. refused))
    unheard

pub poll-telling : (P : Stepped → Type 0) (kind : CallKind) (target cell polls : ℕ) (new : CellConfig) (m : Machine)
    → let stage = telling target cell polls in
    let heard = heard_at stage m in
    (hears_at stage m ≡ false → P (answered (Wait cell) (still_waits kind stage m)))
    → ((c : ℕ) → cell < c → P (wait_for kind (telling target c 0) reconfig_completed heard))
    → ((n : ℕ) → P (finished (pos n) heard))
    → P (poll_cell kind stage new m)
unfolding poll_cell hear
poll-telling P kind target cell polls new m unheard tells ends =
    by-test P (hears_at (telling target cell polls) m) _ _
    (λ h. tell-cases P kind target cell (heard_at (telling target cell polls) m) tells ends) unheard

-- ---- a call: it ends at once with a code and changes nothing more, or its table lets it pass, and it begins to ask

-- what Create's table has shown
pub record MayCreate (cpu : ℕ) (bytes : List ℕ) (m : Machine) : Type 0 where
  pub unlocked : some_cell_locked m ≡ false
  pub short : too_long bytes ≡ false
  pub valid : invalid bytes m ≡ false
  pub unnamed : name_in_use (cell_of bytes).name m ≡ false
  pub free : busy cpu (cell_of bytes) m ≡ false
  pub room : no_room (cell_of bytes) m ≡ false

-- what the table of Start, Set Loadable and Destroy has
pub record MayTarget (kind : CallKind) (id : ℕ) (m : Machine) : Type 0 where
  pub other : eqb id root_id ≡ false
  pub lives : live m id ≡ true
  pub unlocked : (is_destroy kind && other_cell_locked id m) ≡ false

pub record Ways (P : Stepped → Type 0) (cpu code a1 : ℕ) (bytes : List ℕ) (m : Machine) : Type 0 where
  pub at_once : (z : ℤ) → P (ends z m)
  pub disables : code ≡ hypervisor_disable → P (ask Disable root_id 0 (cell_of bytes) m)
  pub creates : code ≡ cell_create → MayCreate cpu bytes m → P (ask Create (free_id m) 0 (cell_of bytes) m)
  pub starts : code ≡ cell_start → MayTarget Start a1 m → P (ask Start a1 0 (cell_of bytes) m)
  pub loads : code ≡ cell_set_loadable → MayTarget SetLoadable a1 m → P (ask SetLoadable a1 0 (cell_of bytes) m)
  pub destroys : code ≡ cell_destroy → MayTarget Destroy a1 m → P (ask Destroy a1 0 (cell_of bytes) m)

target-cases : (P : Stepped → Type 0) (kind : CallKind) (id : ℕ) (new : CellConfig) (m : Machine)
    → ((z : ℤ) → P (ends z m)) → (MayTarget kind id m → P (ask kind id 0 new m)) → P (target_call kind id new m)
unfolding target_call
target-cases P kind id new m at_once goes_on =
    by-rule P _ _ _ (λ e. at_once _)
    (λ a. by-rule P _ _ _ (λ e. at_once _)
    (λ b. by-rule P _ _ _ (λ e. at_once _)
    (λ c. by-none P _ (goes_on (record { other = a; lives = not-false (live m id) b; unlocked = c })))))

create-cases : (P : Stepped → Type 0) (cpu : ℕ) (bytes : List ℕ) (m : Machine)
    → ((z : ℤ) → P (ends z m)) → (MayCreate cpu bytes m → P (ask Create (free_id m) 0 (cell_of bytes) m)) → P (create_call cpu bytes m)
unfolding create_call
create-cases P cpu bytes m at_once goes_on =
    by-rule P _ _ _ (λ e. at_once _)
    (λ a. by-rule P _ _ _ (λ e. at_once _)
    (λ b. by-rule P _ _ _ (λ e. at_once _)
    (λ c. by-rule P _ _ _ (λ e. at_once _)
    (λ d. by-rule P _ _ _ (λ e. at_once _)
    (λ e. by-rule P _ _ _ (λ e. at_once _)
    (λ f. by-none P _ (goes_on (record { unlocked = a; short = b; valid = c; unnamed = d; free = e; room = f }))))))))

-- one of a CPU that is not root's ends at once: a code above 4 asks nobody
pub others-cases : (P : Stepped → Type 0) (cpu code a1 a2 : ℕ) (bytes : List ℕ) (m : Machine) → eqb (cpu_at m cpu).cell root_id ≡ false
    → ((z : ℤ) → P (ends z m)) → P (call cpu code a1 a2 bytes m)
unfolding call call_by_code
others-cases P cpu code a1 a2 bytes m other at_once =
    by-rule P _ _ _ (λ e. at_once _)
    (λ e. by-rule P _ _ _ (λ e. at_once _)
    (λ e. by-none P _ (query (or_parts (leb code 4) (eqb code 6) (asked e)).0)))
  where
    asked : (not (eqb (cpu_at m cpu).cell root_id) && (leb code 4 || eqb code 6)) ≡ false → (leb code 4 || eqb code 6) ≡ false
    asked e = ap (λ (b : Bool). not b && (leb code 4 || eqb code 6)) (sym other) ∙ e

    low : {s : Stepped} (k : ℕ) → leb code 4 ≡ false → leb k 4 ≡ true → eqb code k ≡ true → P s
    low k h l e = absurd (true≢false (sym l ∙ ap (λ (n : ℕ). leb n 4) (sym (eqb-true code k e)) ∙ h))

    query : leb code 4 ≡ false → P (call_by_code cpu code a1 a2 bytes m)
    query h =
        by-rule P _ _ _ (low 0 h refl)
        (λ e. by-rule P _ _ _ (low 1 h refl)
        (λ e. by-rule P _ _ _ (low 2 h refl)
        (λ e. by-rule P _ _ _ (low 3 h refl)
        (λ e. by-rule P _ _ _ (low 4 h refl)
        (λ e. by-rule P _ _ _ (λ e. at_once _)
        (λ e. by-rule P _ _ _ (λ e. at_once _)
        (λ e. by-rule P _ _ _ (λ e. at_once _) (λ e. by-none P _ (at_once _)))))))))

pub call-cases : (P : Stepped → Type 0) (cpu code a1 a2 : ℕ) (bytes : List ℕ) (m : Machine) → Ways P cpu code a1 bytes m → P (call cpu code a1 a2 bytes m)
unfolding call call_by_code disable_call
call-cases P cpu code a1 a2 bytes m ways =
    by-rule P _ _ _ (λ e. now _)
    (λ e. by-rule P _ _ _ (λ e. now _)
    (λ e. by-none P _ by_code))
  where
    now : (z : ℤ) → P (ends z m)
    now z = ways.at_once z

    by_code : P (call_by_code cpu code a1 a2 bytes m)
    by_code =
        by-rule P _ _ _ (λ e. ways.disables (eqb-true code 0 e))
        (λ e. by-rule P _ _ _ (λ e. create-cases P cpu bytes m now (ways.creates (eqb-true code 1 e)))
        (λ e. by-rule P _ _ _ (λ e. target-cases P Start a1 (cell_of bytes) m now (ways.starts (eqb-true code 2 e)))
        (λ e. by-rule P _ _ _ (λ e. target-cases P SetLoadable a1 (cell_of bytes) m now (ways.loads (eqb-true code 3 e)))
        (λ e. by-rule P _ _ _ (λ e. target-cases P Destroy a1 (cell_of bytes) m now (ways.destroys (eqb-true code 4 e)))
        (λ e. by-rule P _ _ _ (λ e. now _)
        (λ e. by-rule P _ _ _ (λ e. now _)
        (λ e. by-rule P _ _ _ (λ e. now _) (λ e. by-none P _ (now _)))))))))
