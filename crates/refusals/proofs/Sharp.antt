-- Each claim is false of a wrong manager: one run on the box, computed, gives two figures that the claim says are equal, and they are not. The runs
-- are computed in one place. Assumes nothing.
use Rattle.std.proofs.Common.{◌≡◌, refl, sym, ap, ◌∙◌, true, false, ◌&&◌, true≢false, List, [], ◌∷◌, ℕ, ltb, eqb, length, get_or}
use Rattle.std.proofs.Math.Dec.{eqb_refl}
use Rattle.base.proofs.Tests.{is_true}
use Rattle.machine_state.specs.declared.Event.{Event}
use Rattle.machine_state.specs.declared.Event.TheVariants.{Call}
use Rattle.machine_state.specs.declared.Answer.{Answer}
use Rattle.machine_state.specs.declared.Machine.{Machine}
use Rattle.rules.specs.State.{root_id, cell_at, cpu_at, comm_at, answered}
use Rattle.rules.specs.Effects.{counted, call_counter}
use Rattle.rules.specs.Run.{Manager, Line, Happened, happens, run, after}
use Rattle.rules.specs.Step.{step}
use Rattle.base.specs.Lists as Lists
use Rattle.base.specs.Rules as Rules
use Rattle.cpu_set.specs.CpuSet as CpuSet
use Rattle.fields.specs.Fields as Fields
use Rattle.regions.specs.Regions as Regions
use Rattle.region_table.specs.Tables as Tables
use Rattle.system_record.specs.SystemRecord as SystemRecord
use Rattle.cell_record.specs.CellRecord as CellRecord
use Rattle.machine_state.specs.Machine as Machine
use Rattle.rules.specs.State as State
use Rattle.rules.specs.Unobeyed as Unobeyed
use Rattle.rules.specs.Queries as Queries
use Rattle.rules.specs.Create as Create
use Rattle.rules.specs.Effects as Effects
use Rattle.rules.specs.Asking as Asking
use Rattle.rules.specs.Calls as Calls
use Rattle.rules.specs.Step as Step
use Rattle.rules.specs.Run as Run
use Rattle.rules.specs.CommRegion as CommRegion
use Rattle.reading_room.specs.ReadingRoom as Room
use Rattle.rules.specs.Answers as Answers
use Rattle.refusals.specs.AtOnce as AtOnce
use Rattle.refusals.specs.WholeCall as WholeCall
use Rattle.refusals.specs.WhenRefused as WhenRefused
use Rattle.refusals.specs.Wrong as Wrong
use Rattle.reading_room.specs.ReadingRoom.{limited_search, notes, phase_number, booted, started, with_notes, log_call, log_create, log_store, log_poll}
use Rattle.rules.specs.Unobeyed.{is_obeyed}
use Rattle.rules.specs.Answers.{is_negative, is_unobeyed, is_wait}
use Rattle.refusals.specs.AtOnce.{refusal_leaves, UnobeyedKeeps, RefusedAtOnce}
use Rattle.refusals.specs.WholeCall.{own_polls, ends_refused, set_aside, now_waited, cut_off_by, OnlyMessages, RefusedKeeps}
use Rattle.refusals.specs.WhenRefused.{refuses, NegativeIsRefusal}
use Rattle.refusals.specs.Wrong.{counts_unobeyed, counts_no_refusal, leaves_message, loads_first, messages_another, stops_heard, cuts_off_another, does_nothing, answers_zero, refuses_all}

-- a figure of two machines that are said to be equal
unequal : (figure : Machine → ℕ) (m k : Machine) → eqb (figure m) (figure k) ≡ false → m ≡ k → ⊥
unequal figure m k e q =
    true≢false (sym (is_true _ (eqb_refl (figure m))) ∙ ap (λ (n : ℕ). eqb (figure m) n) (ap figure q) ∙ e)

total : ℕ → Machine → ℕ
total cpu m = get_or (cpu_at m cpu).counters 0 0

to_cell : ℕ → Machine → ℕ
to_cell id m = (comm_at m id).msg_to_cell

phase : ℕ → Machine → ℕ
phase id m = phase_number (cell_at m id).phase

pub state : ℕ → Machine → ℕ
state id m = (comm_at m id).cell_state

pub is_stopped : ℕ → Machine → ℕ
is_stopped cpu m = elim (cpu_at m cpu).stopped [ true ↦ 1 | false ↦ 0 ]

-- ---- the runs

left : Manager → Event → Machine → Machine
left manager e m = (manager e [] m).machine

answer_of : Manager → Event → Machine → Answer
answer_of manager e m = (manager e [] m).answer

-- `search` denies
abbrev denies : List Line
denies = log_store 2 1 2 ∷ log_poll ∷ []

-- `search` consents, and `notes` denies
only_search : List Line
only_search = log_store 2 1 3 ∷ log_poll ∷ log_store 1 1 2 ∷ log_poll ∷ []

-- Disable: its own polls, the first of them, and the cell that it waited for
disables : List Happened
disables = own_polls (run stops_heard (left stops_heard (Call 0 0 0 0) with_notes) only_search)

first_poll : Happened
first_poll = get_or disables 0 (happens step log_poll booted)

waited_for : ℕ
waited_for = now_waited root_id (answer_of stops_heard (Call 0 0 0 0) with_notes)

-- `search` with a limit of one poll, started beside `notes`. Destroy of it: it hangs, `notes` locks the configuration, and the poll cuts it off
pub hung : Machine
hung = after step booted (log_create 0 (limited_search 1) ∷ log_create 0 notes ∷ log_call 0 2 1 0 ∷ log_call 0 2 2 0 ∷ [])

pub hangs : List Line
hangs = log_store 1 2 1 ∷ log_poll ∷ []

hung_polls : Manager → List Happened
hung_polls manager = own_polls (run manager (left manager (Call 0 4 1 0) hung) hangs)

pub cut_poll : Manager → Happened
cut_poll manager = get_or (hung_polls manager) 0 (happens step log_poll booted)

hung_waited : ℕ
hung_waited = now_waited root_id (answer_of cuts_off_another (Call 0 4 1 0) hung)

-- what a call of CPU 0 may change is set aside: of the machine that a manager left, and of the one that it met, the caller counted
aside : Manager → Event → Machine → Machine → Machine
aside manager e m k = set_aside 0 (answer_of manager e m) k

-- a call from CPU 7, which is outside the boot set; codes 8 and 5, Get Info; Set Loadable and Destroy of `search`, which denies
record Runs : Type 0 where
  outside : is_unobeyed (answer_of counts_unobeyed (Call 7 5 4 0) booted) ≡ true
  outside-counted : eqb (total 7 (left counts_unobeyed (Call 7 5 4 0) booted)) (total 7 booted) ≡ false
  no_code : is_negative (answer_of counts_no_refusal (Call 0 8 0 0) booted) ≡ true
  no-code-counted : eqb (total 0 (left counts_no_refusal (Call 0 8 0 0) booted)) (total 0 (refusal_leaves (Call 0 8 0 0) booted)) ≡ false
  no-code-1 : is_negative (answer_of leaves_message (Call 0 8 1 0) started) ≡ true
  no-code-message : eqb (to_cell 1 (left leaves_message (Call 0 8 1 0) started)) (to_cell 1 (refusal_leaves (Call 0 8 1 0) started)) ≡ false
  loads-waits : is_wait (answer_of loads_first (Call 0 3 1 0) started) ≡ true
  loads-denied : ends_refused (run loads_first (left loads_first (Call 0 3 1 0) started) denies) ≡ true
  loads-phase :
      eqb (phase 1 (aside loads_first (Call 0 3 1 0) started (left loads_first (Call 0 3 1 0) started)))
      (phase 1 (aside loads_first (Call 0 3 1 0) started (counted call_counter 0 started)))
      ≡ false
  another-waits : is_wait (answer_of messages_another (Call 0 4 1 0) with_notes) ≡ true
  another-denied : ends_refused (run messages_another (left messages_another (Call 0 4 1 0) with_notes) denies) ≡ true
  another-message :
      eqb (to_cell 2 (aside messages_another (Call 0 4 1 0) with_notes (left messages_another (Call 0 4 1 0) with_notes)))
      (to_cell 2 (aside messages_another (Call 0 4 1 0) with_notes (counted call_counter 0 with_notes)))
      ≡ false
  stops-waits : is_wait (answer_of stops_heard (Call 0 0 0 0) with_notes) ≡ true
  stops-denied : ends_refused (run stops_heard (left stops_heard (Call 0 0 0 0) with_notes) only_search) ≡ true
  stops-polls : ltb 0 (length disables) ≡ true
  stops-cpu :
      eqb (is_stopped 2 (set_aside waited_for first_poll.answer first_poll.after)) (is_stopped 2 (set_aside waited_for first_poll.answer (cut_off_by first_poll.answer first_poll.before)))
      ≡ false
  hung-waits : is_wait (answer_of cuts_off_another (Call 0 4 1 0) hung) ≡ true
  hung-refused : ends_refused (run cuts_off_another (left cuts_off_another (Call 0 4 1 0) hung) hangs) ≡ true
  hung-polls : ltb 0 (length (hung_polls cuts_off_another)) ≡ true
  hung-other :
      let h = cut_poll cuts_off_another in
      eqb (state 2 (set_aside hung_waited h.answer h.after)) (state 2 (set_aside hung_waited h.answer (cut_off_by h.answer h.before))) ≡ false
  ours-hung-waits : is_wait (answer_of step (Call 0 4 1 0) hung) ≡ true
  ours-hung-refused : ends_refused (run step (left step (Call 0 4 1 0) hung) hangs) ≡ true
  ours-failed : eqb (state 1 (cut_poll step).after) 3 ≡ true
  ours-stopped : eqb (is_stopped 2 (cut_poll step).after) 1 ≡ true
  ours-waits : is_wait (answer_of step (Call 0 4 1 0) started) ≡ true
  ours-denied : ends_refused (run step (left step (Call 0 4 1 0) started) denies) ≡ true
  code-8 : (is_obeyed (Call 0 8 0 0) booted && refuses (Call 0 8 0 0) [] booted) ≡ true
  code-5 : (is_obeyed (Call 0 5 4 0) booted && refuses (Call 0 5 4 0) [] booted) ≡ false

runs : Runs
unfolding Lists.pairwise Lists.from Rules.first_rule CpuSet.member CpuSet.number_of CpuSet.subset CpuSet.meets CpuSet.is_empty CpuSet.union CpuSet.without CpuSet.below CpuSet.count_below CpuSet.count Fields.little_endian Fields.field Fields.is_name Fields.padded Regions.region_of Regions.no_region Regions.whole_pages Regions.placed Regions.flags_ok Regions.comm_ok Regions.overlap Regions.inside Regions.overlap_virt Regions.overlap_phys Regions.apart Regions.clear_of Regions.inside_phys Tables.region_at Tables.regions_of Tables.table_of SystemRecord.system_of SystemRecord.system_form SystemRecord.boot_region_ok SystemRecord.system_valid SystemRecord.out_of_range SystemRecord.overdrawn SystemRecord.boot_answer SystemRecord.read_system CellRecord.cell_of CellRecord.version_ok CellRecord.limit_ok CellRecord.cell_form CellRecord.cell_region_ok CellRecord.cell_valid CellRecord.cell_answer CellRecord.read_cell Machine.fresh_cpu Machine.no_comm Machine.no_cell Machine.first_machine Machine.power_after Machine.boot_of Room.region Room.box Room.cell_record Room.search Room.limited_search Room.index Room.notes Run.after Run.run Room.booted Room.started Room.with_notes Room.phase_number State.first State.has_id State.active State.with_waiting State.with_power State.with_pool State.with_ids State.with_root_cpus State.with_cell State.with_comm State.with_cpus State.answered Unobeyed.store_denied Unobeyed.unobeyed Queries.get_info Queries.get_state Queries.cpu_get_info Create.other_cell_locked Create.invalid Create.name_in_use Create.conflict Create.conflicts Create.region_in_use Create.busy Create.free_id Create.no_room Effects.bump Effects.count_exit Effects.counted Effects.store_word Effects.stored Effects.fail_cpu Effects.all_failed Effects.cell_failed Effects.faulted Effects.change_in Effects.change_cpus Effects.cpus_changed Effects.start_cpu Effects.stop_cpu Effects.add_id Effects.drop_id Effects.new_cell Effects.new_comm Effects.cell_created Effects.with_phase Effects.in_phase Effects.clear_words Effects.cell_started Effects.cell_loadable Effects.cell_cut_off Effects.cell_destroyed Effects.all_destroyed Effects.disabled Effects.effect Asking.may_be_messaged Asking.next_to_message Asking.asks Asking.message Asking.wait_for Asking.finished Asking.end_code Asking.tell Asking.carry_out Asking.none_to_ask Asking.ask Asking.is_heard Asking.consents Asking.hear Asking.is_last_poll Asking.polls_after Asking.with_polls Asking.cuts_off Asking.hears_at Asking.heard_at Asking.still_waits Asking.heard_in Asking.poll_cell Asking.poll Calls.disable_call Calls.create_call Calls.target_call Calls.call_by_code Calls.call Step.obeyed Step.step CommRegion.bytes total to_cell phase is_stopped left only_search disables first_poll waited_for state hung hangs hung_polls cut_poll hung_waited WholeCall.now_waited answer_of aside Answers.is_negative Answers.is_unobeyed AtOnce.refusal_leaves Answers.is_code Answers.is_wait WholeCall.own_polls WholeCall.set_aside WholeCall.cut_off_by Unobeyed.is_obeyed WhenRefused.call_refused WhenRefused.waiting_refused WhenRefused.refuses Wrong.on_call Wrong.counts_unobeyed Wrong.counts_no_refusal Wrong.with_request Wrong.leaves_message Wrong.loads_first Wrong.messages_another Wrong.stops_heard Wrong.cuts_off_another Wrong.does_nothing Wrong.answers_zero Wrong.refuses_all
runs = record {
  outside = refl;
  outside-counted = refl;
  no_code = refl;
  no-code-counted = refl;
  no-code-1 = refl;
  no-code-message = refl;
  loads-waits = refl;
  loads-denied = refl;
  loads-phase = refl;
  another-waits = refl;
  another-denied = refl;
  another-message = refl;
  stops-waits = refl;
  stops-denied = refl;
  stops-polls = refl;
  stops-cpu = refl;
  hung-waits = refl;
  hung-refused = refl;
  hung-polls = refl;
  hung-other = refl;
  ours-hung-waits = refl;
  ours-hung-refused = refl;
  ours-failed = refl;
  ours-stopped = refl;
  ours-waits = refl;
  ours-denied = refl;
  code-8 = refl;
  code-5 = refl;
}

-- the claim about a whole call is not empty: Destroy of `search`, left waiting and denied
pub denied-call : (is_wait (step (Call 0 4 1 0) [] started).answer ≡ true) × (ends_refused (run step (step (Call 0 4 1 0) [] started).machine denies) ≡ true)
unfolding left answer_of
denied-call = (runs.ours-waits, runs.ours-denied)

-- and so is Destroy of a `search` that hangs: refused at the poll that cuts it off, it leaves it failed and stopped
pub cut-off-call : (ends_refused (run step (step (Call 0 4 1 0) [] hung).machine hangs) ≡ true)
    × (eqb (state 1 (cut_poll step).after) 3 ≡ true) × (eqb (is_stopped 2 (cut_poll step).after) 1 ≡ true)
unfolding left answer_of
cut-off-call = (runs.ours-hung-refused, runs.ours-failed, runs.ours-stopped)

-- ---- what they refute

pub counts-unobeyed : UnobeyedKeeps counts_unobeyed → ⊥
unfolding left answer_of
counts-unobeyed claim = unequal (total 7) _ _ runs.outside-counted (claim (Call 7 5 4 0) [] booted runs.outside)

pub counts-no-refusal : RefusedAtOnce counts_no_refusal → ⊥
unfolding left answer_of
counts-no-refusal claim = unequal (total 0) _ _ runs.no-code-counted (claim (Call 0 8 0 0) [] booted runs.no_code)

pub leaves-message : RefusedAtOnce leaves_message → ⊥
unfolding left answer_of
leaves-message claim = unequal (to_cell 1) _ _ runs.no-code-message (claim (Call 0 8 1 0) [] started runs.no-code-1)

pub loads-first : RefusedKeeps loads_first → ⊥
unfolding left answer_of aside
loads-first claim = unequal (phase 1) _ _ runs.loads-phase (claim 0 3 1 0 [] started denies runs.loads-waits runs.loads-denied).called

pub messages-another : RefusedKeeps messages_another → ⊥
unfolding left answer_of aside
messages-another claim =
    unequal (to_cell 2) _ _ runs.another-message (claim 0 4 1 0 [] with_notes denies runs.another-waits runs.another-denied).called

-- the first of some steps
first-kept : (waited : ℕ) (hs : List Happened) (d : Happened) → ltb 0 (length hs) ≡ true → OnlyMessages waited hs
    → let h = get_or hs 0 d in set_aside waited h.answer h.after ≡ set_aside waited h.answer (cut_off_by h.answer h.before)
unfolding OnlyMessages
first-kept waited [] d l o = absurd (true≢false (sym l))
first-kept waited (h ∷ hs) d l o = o.0

pub stops-heard : RefusedKeeps stops_heard → ⊥
unfolding left answer_of first_poll disables waited_for
stops-heard claim =
    unequal (is_stopped 2) _ _ runs.stops-cpu
    (first-kept waited_for disables (happens step log_poll booted) runs.stops-polls
    (claim 0 0 0 0 [] with_notes only_search runs.stops-waits runs.stops-denied).polled)

pub cuts-off-another : RefusedKeeps cuts_off_another → ⊥
unfolding left answer_of cut_poll hung_polls hung_waited
cuts-off-another claim =
    unequal (state 2) _ _ runs.hung-other
    (first-kept hung_waited (hung_polls cuts_off_another) (happens step log_poll booted) runs.hung-polls
    (claim 0 4 1 0 [] hung hangs runs.hung-waits runs.hung-refused).polled)

pub does-nothing : NegativeIsRefusal does_nothing → ⊥
unfolding does_nothing answered is_negative
does-nothing claim = true≢false (sym runs.code-8 ∙ sym (claim (Call 0 8 0 0) [] booted))

pub answers-zero : NegativeIsRefusal answers_zero → ⊥
unfolding answers_zero answered is_negative
answers-zero claim = true≢false (sym runs.code-8 ∙ sym (claim (Call 0 8 0 0) [] booted))

pub refuses-all : NegativeIsRefusal refuses_all → ⊥
unfolding refuses_all answered is_negative
refuses-all claim = true≢false (claim (Call 0 5 4 0) [] booted ∙ runs.code-5)
