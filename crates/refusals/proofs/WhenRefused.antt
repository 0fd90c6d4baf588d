-- An answer is negative exactly where a row of a table refuses. Each table is walked row by row, over plain truth values in place of its tests:
-- a row with a negative code answers it where it holds, and past all rows the answer is not negative. Counting the caller changes none of the
-- tests. Assumes nothing.
use Rattle.std.proofs.Common.{◌≡◌, refl, sym, ap, ap₂, ◌∙◌, Bool, true, false, not, ◌&&◌, ◌||◌, true≢false, List, [], ◌∷◌, ℕ, zero, suc, arith, lt-ltb, ne_eqb, leb, ltb, eqb, pos, None, Some}
use Rattle.std.proofs.Math.Bool.{or-false}
use Rattle.base.specs.Rules.{first_rule, ◌⇒◌, EPERM, ENOENT, E2BIG, ENOMEM, EBUSY, EEXIST, EINVAL, ENOSYS}
use Rattle.cpu_set.specs.CpuSet.{member}
use Rattle.cell_record.specs.declared.CellConfig.{CellConfig}
use Rattle.cell_record.specs.CellRecord.{cell_of}
use Rattle.machine_state.specs.declared.CallKind.{CallKind}
use Rattle.machine_state.specs.declared.CallKind.TheVariants.{Disable, Create, Start, SetLoadable, Destroy}
use Rattle.machine_state.specs.Machine.{Waiting}
use Rattle.machine_state.specs.declared.Event.{Event}
use Rattle.machine_state.specs.declared.Event.TheVariants.{Call, Store, Fault, Exit, Poll, Malformed}
use Rattle.machine_state.specs.declared.Answer.{Answer}
use Rattle.machine_state.specs.declared.Answer.TheVariants.{Code, Wait}
use Rattle.machine_state.specs.declared.Machine.{Machine}
use Rattle.machine_state.specs.declared.Stepped.{Stepped}
use Rattle.rules.specs.State.{root_id, boot_cpu_set, cpu_at, comm_at, state_at, live, active, no_id, with_cpus, answered}
use Rattle.rules.specs.Queries.{get_info, get_state, cpu_get_info}
use Rattle.rules.specs.Effects.{counted, call_counter}
use Rattle.rules.specs.Create.{some_cell_locked, other_cell_locked, too_long, invalid, name_in_use, busy, region_in_use, free_id, no_room}
use Rattle.rules.specs.Asking.{next_to_message, asks, is_destroy, asking, wait_for, finished, tell, carry_out, none_to_ask, ask, consents, hear, hears_at, heard_at, still_waits, poll_cell, poll, shutdown_request}
use Rattle.rules.specs.Calls.{cell_create, cell_start, cell_set_loadable, cell_destroy, hypervisor_get_info, cell_get_state, cpu_get_info_code, ends, disable_call, create_call, target_call, call_by_code, call}
use Rattle.rules.specs.Step.{obeyed, step}
use Rattle.rules.specs.Unobeyed.{is_obeyed}
use Rattle.rules.specs.Answers.{is_negative}
use Rattle.refusals.specs.WhenRefused.{not_root, roots_only, create_refused, target_refused, info_refused, state_refused, cpu_info_refused, call_refused, waiting_refused, refuses, NegativeIsRefusal}
use Rattle.rules.proofs.Cases.{word-cases, step-cases, ask-cases, tell-cases, carry-cases}
use Rattle.refusals.proofs.Kept.{counted-owner}

negative : Stepped → Bool
negative s = is_negative s.answer

-- ---- numbers

above-3 : (n : ℕ) → not (eqb n 0 || eqb n 1 || eqb n 2 || eqb n 3) ≡ ltb 3 n
above-3 zero = refl
above-3 (suc zero) = refl
above-3 (suc (suc zero)) = refl
above-3 (suc (suc (suc zero))) = refl
above-3 (suc (suc (suc (suc n)))) =
    let m = suc (suc (suc (suc n))) in
    rw (ne_eqb m 0 (λ e. omega arith), ne_eqb m 1 (λ e. omega arith), ne_eqb m 2 (λ e. omega arith), ne_eqb m 3 (λ e. omega arith))
    (sym (lt-ltb 3 m (omega arith)))

above-4 : (n : ℕ) → not (eqb n 0 || eqb n 1 || eqb n 2 || eqb n 3 || eqb n 4) ≡ ltb 4 n
above-4 zero = refl
above-4 (suc zero) = refl
above-4 (suc (suc zero)) = refl
above-4 (suc (suc (suc zero))) = refl
above-4 (suc (suc (suc (suc zero)))) = refl
above-4 (suc (suc (suc (suc (suc n))))) =
    let m = suc (suc (suc (suc (suc n)))) in
    rw (ne_eqb m 0 (λ e. omega arith), ne_eqb m 1 (λ e. omega arith), ne_eqb m 2 (λ e. omega arith), ne_eqb m 3 (λ e. omega arith), ne_eqb m 4 (λ e. omega arith))
    (sym (lt-ltb 4 m (omega arith)))

-- ---- queries

info-rows : (a b c d e : Bool) (v w x y z : ℕ)
    → is_negative (Code (first_rule ((a ⇒ pos v) ∷ (b ⇒ pos w) ∷ (c ⇒ pos x) ∷ (d ⇒ pos y) ∷ (e ⇒ pos z) ∷ []) EINVAL)) ≡ not (a || b || c || d || e)
unfolding first_rule is_negative
info-rows true b c d e v w x y z = refl
info-rows false true c d e v w x y z = refl
info-rows false false true d e v w x y z = refl
info-rows false false false true e v w x y z = refl
info-rows false false false false true v w x y z = refl
info-rows false false false false false v w x y z = refl

info-negative : (type : ℕ) (m : Machine) → is_negative (Code (get_info type m)) ≡ info_refused type
unfolding get_info
info-negative type m = info-rows (eqb type 0) (eqb type 1) (eqb type 2) (eqb type 3) (eqb type 4) _ _ _ _ _ ∙ above-4 type

state-rows : (root gone a b c d : Bool)
    → is_negative (Code (first_rule ((root ⇒ pos 0) ∷ (gone ⇒ ENOENT) ∷ (a || b ⇒ pos 0) ∷ (c ⇒ pos 1) ∷ (d ⇒ pos 2) ∷ []) EINVAL))
    ≡ (not root && (gone || not (a || b || c || d)))
unfolding first_rule is_negative
state-rows true gone a b c d = refl
state-rows false true a b c d = refl
state-rows false false true b c d = refl
state-rows false false false true c d = refl
state-rows false false false false true d = refl
state-rows false false false false false true = refl
state-rows false false false false false false = refl

state-negative : (id : ℕ) (m : Machine) → is_negative (Code (get_state id m)) ≡ state_refused id m
unfolding get_state
state-negative id m =
    let s = state_at m id in
    state-rows (eqb id root_id) (not (live m id)) (eqb s 0) (eqb s 1) (eqb s 2) (eqb s 3)
    ∙ ap (λ (b : Bool). not (eqb id root_id) && (not (live m id) || b)) (above-3 s)

cpu-rows : (a b t up r : Bool) (n : ℕ)
    → is_negative (Code (first_rule ((a ⇒ EINVAL) ∷ (b ⇒ EPERM) ∷ (t && up ⇒ pos 0) ∷ (t ⇒ pos 2) ∷ (r ⇒ pos n) ∷ []) EINVAL))
    ≡ (a || b || not (t || r))
unfolding first_rule is_negative
cpu-rows true b t up r n = refl
cpu-rows false true t up r n = refl
cpu-rows false false true true r n = refl
cpu-rows false false true false r n = refl
cpu-rows false false false up true n = refl
cpu-rows false false false up false n = refl

cpu-negative : (caller cpu type : ℕ) (m : Machine) → is_negative (Code (cpu_get_info caller cpu type m)) ≡ cpu_info_refused caller cpu type m
unfolding cpu_get_info
cpu-negative caller cpu type m =
    cpu-rows (not (member cpu (boot_cpu_set m))) (not_root caller m && not (eqb (cpu_at m cpu).cell (cpu_at m caller).cell)) (eqb type 0) (not (cpu_at m cpu).failed)
    (leb 1000 type && leb type 1005) _

-- ---- calls that may wait

Well : Stepped → Type 0
Well s = negative s ≡ false

-- past its rows a call is not refused, unless Destroy meets a lock
ask-well : (kind : CallKind) (target after : ℕ) (new : CellConfig) (m : Machine) → (is_destroy kind && other_cell_locked target m) ≡ false
    → negative (ask kind target after new m) ≡ false
unfolding Well negative is_negative wait_for finished answered
ask-well kind target after new m unlocked =
    ask-cases Well kind target after new m (λ c l. refl) (λ locked. absurd (true≢false (sym locked ∙ unlocked))) (λ c l. refl) (λ n. refl)

disable-negative : (new : CellConfig) (m : Machine) → negative (disable_call new m) ≡ false
unfolding disable_call
disable-negative new m = ask-well Disable root_id 0 new m refl

create-rows : (a b c d e f : Bool) (m : Machine) (otherwise : Stepped) → negative otherwise ≡ false
    → negative (first_rule ((a ⇒ ends EPERM m) ∷ (b ⇒ ends E2BIG m) ∷ (c ⇒ ends EINVAL m) ∷ (d ⇒ ends EEXIST m) ∷ (e ⇒ ends EBUSY m) ∷ (f ⇒ ends ENOMEM m) ∷ []) otherwise)
    ≡ (a || b || c || d || e || f)
unfolding first_rule negative is_negative answered
create-rows true b c d e f m otherwise h = refl
create-rows false true c d e f m otherwise h = refl
create-rows false false true d e f m otherwise h = refl
create-rows false false false true e f m otherwise h = refl
create-rows false false false false true f m otherwise h = refl
create-rows false false false false false true m otherwise h = refl
create-rows false false false false false false m otherwise h = h

create-negative : (cpu : ℕ) (bytes : List ℕ) (m : Machine) → negative (create_call cpu bytes m) ≡ create_refused cpu bytes m
unfolding create_call
create-negative cpu bytes m =
    create-rows (some_cell_locked m) (too_long bytes) (invalid bytes m) (name_in_use (cell_of bytes).name m) (busy cpu (cell_of bytes) m) (no_room (cell_of bytes) m) m _
    (ask-well Create (free_id m) 0 (cell_of bytes) m refl)

target-rows : (a b c : Bool) (m : Machine) (otherwise : Stepped) → (c ≡ false → negative otherwise ≡ false)
    → negative (first_rule ((a ⇒ ends EINVAL m) ∷ (b ⇒ ends ENOENT m) ∷ (c ⇒ ends EPERM m) ∷ []) otherwise) ≡ (a || b || c)
unfolding first_rule negative is_negative answered
target-rows true b c m otherwise h = refl
target-rows false true c m otherwise h = refl
target-rows false false true m otherwise h = refl
target-rows false false false m otherwise h = h refl

target-negative : (kind : CallKind) (id : ℕ) (new : CellConfig) (m : Machine)
    → negative (target_call kind id new m) ≡ (target_refused id m || is_destroy kind && other_cell_locked id m)
unfolding target_call
target-negative kind id new m =
    target-rows (eqb id root_id) (not (live m id)) (is_destroy kind && other_cell_locked id m) m _ (ask-well kind id 0 new m)

-- ---- a call by its code: the two rows before the table, and its own

first_rows : (a b : Bool) (m : Machine) (otherwise : Stepped)
    → negative (first_rule ((a ⇒ ends ENOSYS m) ∷ (b ⇒ ends EPERM m) ∷ []) otherwise) ≡ (a || b || negative otherwise)
unfolding first_rule negative is_negative answered
first_rows true b m otherwise = refl
first_rows false true m otherwise = refl
first_rows false false m otherwise = refl

module _ (cpu a1 a2 : ℕ) (bytes : List ℕ) (m : Machine) where
  Agrees : ℕ → Type 0
  Agrees code = negative (call cpu code a1 a2 bytes m) ≡ call_refused cpu code a1 a2 bytes m

  by_rows : (code : ℕ) (x : Bool) → negative (call_by_code cpu code a1 a2 bytes m) ≡ x
      → (ltb 7 code || not_root cpu m && roots_only code || x) ≡ call_refused cpu code a1 a2 bytes m → Agrees code
  unfolding Agrees call
  by_rows code x e q =
      first_rows (ltb 7 code) (not_root cpu m && roots_only code) m _
      ∙ ap (λ (b : Bool). ltb 7 code || not_root cpu m && roots_only code || b) e
      ∙ q

  above-7 : (code : ℕ) → ltb 7 code ≡ true → Agrees code
  unfolding Agrees call call_refused
  above-7 code e = first_rows (ltb 7 code) (not_root cpu m && roots_only code) m _ ∙ rw e refl

  -- of the rows of `call_refused` those of other codes are false
  agrees : (code : ℕ) → Agrees code
  unfolding call_by_code first_rule call_refused negative answered
  agrees zero = by_rows 0 false (disable-negative (cell_of bytes) m) (simp or-false)
  agrees (suc zero) = by_rows 1 (create_refused cpu bytes m) (create-negative cpu bytes m) (simp or-false)
  agrees (suc (suc zero)) = by_rows 2 (target_refused a1 m) (target-negative Start a1 (cell_of bytes) m ∙ or-false _) (simp or-false)
  agrees (suc (suc (suc zero))) = by_rows 3 (target_refused a1 m) (target-negative SetLoadable a1 (cell_of bytes) m ∙ or-false _) (simp or-false)
  agrees (suc (suc (suc (suc zero)))) =
      by_rows 4 (target_refused a1 m || other_cell_locked a1 m) (target-negative Destroy a1 (cell_of bytes) m) (simp or-false)
  agrees (suc (suc (suc (suc (suc zero))))) = by_rows 5 (info_refused a1) (info-negative a1 m) (simp or-false)
  agrees (suc (suc (suc (suc (suc (suc zero)))))) = by_rows 6 (state_refused a1 m) (state-negative a1 m) (simp or-false)
  agrees (suc (suc (suc (suc (suc (suc (suc zero))))))) = by_rows 7 (cpu_info_refused cpu a1 a2 m) (cpu-negative cpu a1 a2 m) (simp or-false)
  agrees (suc (suc (suc (suc (suc (suc (suc (suc n)))))))) =
      let code = suc (suc (suc (suc (suc (suc (suc (suc n))))))) in
      above-7 code (lt-ltb 7 code (omega arith))

-- counting the caller changes none of the tests: the owners of CPUs stay, and no other test looks at CPUs
with-owners : (cpu code a1 a2 : ℕ) (bytes : List ℕ) (m : Machine) (caller asked : ℕ) → Bool
with-owners cpu code a1 a2 bytes m caller asked =
    ltb cpu_get_info_code code
    || not (eqb caller root_id) && roots_only code
    || eqb code cell_create && create_refused cpu bytes m
    || (eqb code cell_start || eqb code cell_set_loadable) && target_refused a1 m
    || eqb code cell_destroy && (target_refused a1 m || other_cell_locked a1 m)
    || eqb code hypervisor_get_info && info_refused a1
    || eqb code cell_get_state && state_refused a1 m
    || eqb code cpu_get_info_code
    && (not (member a1 (boot_cpu_set m)) || not (eqb caller root_id) && not (eqb asked caller) || not (eqb a2 0 || leb 1000 a2 && leb a2 1005))

counted_same : (cpu code a1 a2 : ℕ) (bytes : List ℕ) (m : Machine)
    → call_refused cpu code a1 a2 bytes (counted call_counter cpu m) ≡ call_refused cpu code a1 a2 bytes m
unfolding call_refused with-owners counted with_cpus other_cell_locked active invalid name_in_use busy region_in_use no_room free_id
counted_same cpu code a1 a2 bytes m =
    ap₂ (λ (caller asked : ℕ). with-owners cpu code a1 a2 bytes m caller asked) (counted-owner call_counter cpu cpu m) (counted-owner call_counter cpu a1 m)

-- ---- polls

heard-rows : (heard tells consent next lock : Bool) (m : Machine) (told waits carried unheard : Stepped)
    → negative told ≡ false → negative waits ≡ false → negative carried ≡ false → negative unheard ≡ false
    → negative
    (elim heard [
      | true ↦ elim tells [
        | true ↦ told
        | false ↦ elim consent [
          | true ↦ elim next [ true ↦ waits | false ↦ elim lock [ true ↦ finished EPERM m | false ↦ carried ] ]
          | false ↦ finished EPERM m
        ]
      ]
      | false ↦ unheard
    ])
    ≡ (not tells && heard && (not consent || not next && lock))
unfolding negative is_negative finished answered
heard-rows false true consent next lock m told waits carried unheard t w c u = u
heard-rows false false consent next lock m told waits carried unheard t w c u = u
heard-rows true true consent next lock m told waits carried unheard t w c u = t
heard-rows true false true true lock m told waits carried unheard t w c u = w
heard-rows true false true false true m told waits carried unheard t w c u = refl
heard-rows true false true false false m told waits carried unheard t w c u = c
heard-rows true false false next lock m told waits carried unheard t w c u = refl

tell-well : (kind : CallKind) (target after : ℕ) (m : Machine) → negative (tell kind target after m) ≡ false
unfolding Well negative is_negative wait_for finished answered
tell-well kind target after m = tell-cases Well kind target after m (λ c l. refl) (λ n. refl)

carry-well : (kind : CallKind) (target : ℕ) (new : CellConfig) (m : Machine) → negative (carry_out kind target new m) ≡ false
unfolding Well negative is_negative wait_for finished answered
carry-well kind target new m = carry-cases Well kind target new m (λ c l. refl) (λ n. refl)

poll-negative : (w : Waiting) (new : CellConfig) (m : Machine) → negative (poll w new m) ≡ waiting_refused w m
unfolding poll poll_cell hear ask none_to_ask waiting_refused negative is_negative answered wait_for
poll-negative None new m = refl
poll-negative (Some (kind, stage)) new m =
    let heard = heard_at stage m in
    let next = next_to_message (asks kind stage.target) stage.cell heard in
    heard-rows (hears_at stage m) stage.telling (consents (comm_at heard stage.cell)) (ltb next no_id) (is_destroy kind && other_cell_locked stage.target heard) heard
    (tell kind stage.target stage.cell heard)
    (wait_for kind (asking stage.target next 0) shutdown_request heard)
    (carry_out kind stage.target new heard)
    (answered (Wait stage.cell) (still_waits kind stage m))
    (tell-well kind stage.target stage.cell heard)
    refl
    (carry-well kind stage.target new heard)
    refl

-- ---- events

obeyed-negative : (e : Event) (bytes : List ℕ) (m : Machine) → negative (obeyed e bytes m) ≡ refuses e bytes m
unfolding obeyed refuses negative is_negative answered Agrees
obeyed-negative (Call cpu code a1 a2) bytes m =
    agrees cpu a1 a2 bytes (counted call_counter cpu m) code ∙ counted_same cpu code a1 a2 bytes m
obeyed-negative (Store cpu word value) bytes m = refl
obeyed-negative (Fault cpu) bytes m = refl
obeyed-negative (Exit cpu kind) bytes m = refl
obeyed-negative Poll bytes m = poll-negative m.waiting (cell_of bytes) m
obeyed-negative Malformed bytes m = refl

Exactly : Bool → Bool → Stepped → Type 0
Exactly obeys refused s = negative s ≡ (obeys && refused)

pub negative-is-refusal : NegativeIsRefusal step
unfolding Exactly negative is_negative answered
negative-is-refusal e bytes m =
    step-cases (Exactly (is_obeyed e m) (refuses e bytes m)) e bytes m
    (λ w u o. word-cases (λ (a : Answer). is_negative a ≡ false) refl refl refl refl refl refl w u ∙ sym (ap (λ (b : Bool). b && refuses e bytes m) o))
    (λ o. obeyed-negative e bytes m ∙ sym (ap (λ (b : Bool). b && refuses e bytes m) o))
