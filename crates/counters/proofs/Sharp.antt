-- The claim is false of a wrong manager: one run on the box, computed, gives a counter and the history's count, which differ. Assumes nothing.
use Rattle.std.proofs.Common.{◌≡◌, refl, sym, ap, ◌∙◌, false, true≢false, List, [], ◌∷◌, ℕ, ◌<◌, arith, eqb, pos, get_or}
use Rattle.std.proofs.Math.Dec.{eqb_refl}
use Rattle.base.proofs.Tests.{is_true}
use Rattle.system_record.specs.SystemRecord.{boot_answer}
use Rattle.machine_state.specs.declared.Event.TheVariants.{Exit}
use Rattle.rules.specs.State.{cpu_at}
use Rattle.rules.specs.Run.{Manager, Line, start_of, run, after}
use Rattle.reading_room.specs.ReadingRoom.{box, search, log_call, log_create, log_fault}
use Rattle.refusals.specs.Wrong.{counts_unobeyed, counts_no_refusal}
use Rattle.refusals.specs.Wrong as Refused
use Rattle.base.specs.Lists as Lists
use Rattle.base.specs.Rules as Rules
use Rattle.cpu_set.specs.CpuSet as CpuSet
use Rattle.fields.specs.Fields as Fields
use Rattle.regions.specs.Regions as Regions
use Rattle.region_table.specs.Tables as Tables
use Rattle.system_record.specs.SystemRecord as SystemRecord
use Rattle.cell_record.specs.CellRecord as CellRecord
use Rattle.machine_state.specs.Machine as Machine
use Rattle.rules.specs.State as State
use Rattle.rules.specs.Unobeyed as Unobeyed
use Rattle.rules.specs.Queries as Queries
use Rattle.rules.specs.Create as Create
use Rattle.rules.specs.Effects as Effects
use Rattle.rules.specs.Asking as Asking
use Rattle.rules.specs.Calls as Calls
use Rattle.rules.specs.Step as Step
use Rattle.rules.specs.Run as Run
use Rattle.rules.specs.CommRegion as CommRegion
use Rattle.reading_room.specs.ReadingRoom as Room
use Rattle.rules.specs.Answers as Answers
use Rattle.rules.specs.Observer as Observer
use Rattle.history.specs.History as History
use Rattle.counters.specs.Counters.{total, count_of, figures, CountersCount}
use Rattle.counters.specs.Counters as Count
use Rattle.counters.specs.Wrong.{keeps_at, counts_twice}
use Rattle.counters.specs.Wrong as Wrong

log_exit : ℕ → ℕ → Line
log_exit cpu kind = record { event = Exit cpu kind; bytes = [] }

-- the total of a CPU after a run on the box, and what the history makes of it
shown : Manager → List Line → ℕ → ℕ
shown manager lines cpu = get_or (cpu_at (after manager (start_of box) lines) cpu).counters total 0

owed : Manager → List Line → ℕ → ℕ
owed manager lines cpu = get_or (figures (λ i. count_of cpu i (run manager (start_of box) lines))) total 0

-- CPU 2 has an exit before `search` gets it, and `search` is destroyed after another
given : List Line
given = log_exit 2 0 ∷ log_create 0 search ∷ []

back : List Line
back = log_create 0 search ∷ log_call 0 2 1 0 ∷ log_exit 2 0 ∷ log_fault 2 ∷ log_fault 3 ∷ log_call 0 4 1 0 ∷ []

record Runs : Type 0 where
  accepted : boot_answer box ≡ pos 0
  kept-at-create : eqb (shown (keeps_at 1) given 2) (owed (keeps_at 1) given 2) ≡ false
  kept-at-destroy : eqb (shown (keeps_at 4) back 2) (owed (keeps_at 4) back 2) ≡ false
  twice : eqb (shown counts_twice (log_exit 1 3 ∷ []) 1) (owed counts_twice (log_exit 1 3 ∷ []) 1) ≡ false
  unobeyed : eqb (shown counts_unobeyed (log_call 7 5 4 0 ∷ []) 7) (owed counts_unobeyed (log_call 7 5 4 0 ∷ []) 7) ≡ false
  refused : eqb (shown counts_no_refusal (log_call 0 8 0 0 ∷ []) 0) (owed counts_no_refusal (log_call 0 8 0 0 ∷ []) 0) ≡ false

runs : Runs
unfolding log_exit shown owed given back Lists.pairwise Lists.from Rules.first_rule CpuSet.member CpuSet.number_of CpuSet.subset CpuSet.meets CpuSet.is_empty CpuSet.union CpuSet.without CpuSet.below CpuSet.count_below CpuSet.count Fields.little_endian Fields.field Fields.is_name Fields.padded Regions.region_of Regions.no_region Regions.whole_pages Regions.placed Regions.flags_ok Regions.comm_ok Regions.overlap Regions.inside Regions.overlap_virt Regions.overlap_phys Regions.apart Regions.clear_of Regions.inside_phys Tables.region_at Tables.regions_of Tables.table_of SystemRecord.system_of SystemRecord.system_form SystemRecord.boot_region_ok SystemRecord.system_valid SystemRecord.out_of_range SystemRecord.overdrawn SystemRecord.boot_answer SystemRecord.read_system CellRecord.cell_of CellRecord.version_ok CellRecord.limit_ok CellRecord.cell_form CellRecord.cell_region_ok CellRecord.cell_valid CellRecord.cell_answer CellRecord.read_cell Machine.fresh_cpu Machine.no_comm Machine.no_cell Machine.first_machine Machine.power_after Machine.boot_of Room.region Room.box Room.cell_record Room.search Room.index Room.notes Run.after Run.run Room.booted Room.started Room.with_notes Room.phase_number State.first State.has_id State.active State.with_waiting State.with_power State.with_pool State.with_ids State.with_root_cpus State.with_cell State.with_comm State.with_cpus State.answered Unobeyed.store_denied Unobeyed.unobeyed Queries.get_info Queries.get_state Queries.cpu_get_info Create.other_cell_locked Create.invalid Create.name_in_use Create.conflict Create.conflicts Create.region_in_use Create.busy Create.free_id Create.no_room Effects.bump Effects.count_exit Effects.counted Effects.store_word Effects.stored Effects.fail_cpu Effects.all_failed Effects.cell_failed Effects.faulted Effects.change_in Effects.change_cpus Effects.cpus_changed Effects.start_cpu Effects.stop_cpu Effects.add_id Effects.drop_id Effects.new_cell Effects.new_comm Effects.cell_created Effects.with_phase Effects.in_phase Effects.clear_words Effects.cell_started Effects.cell_loadable Effects.cell_cut_off Effects.cell_destroyed Effects.all_destroyed Effects.disabled Effects.effect Asking.may_be_messaged Asking.next_to_message Asking.asks Asking.message Asking.wait_for Asking.finished Asking.end_code Asking.tell Asking.carry_out Asking.none_to_ask Asking.ask Asking.is_heard Asking.consents Asking.hear Asking.is_last_poll Asking.polls_after Asking.with_polls Asking.cuts_off Asking.hears_at Asking.heard_at Asking.still_waits Asking.poll_cell Asking.poll Calls.disable_call Calls.create_call Calls.target_call Calls.call_by_code Calls.call Step.obeyed Step.step CommRegion.bytes History.has_cell History.record_brought History.cells_but History.smallest_free History.cells_after History.has_come History.come History.answered_by History.after_call History.after_telling History.after_poll History.seen Observer.kind_of_code Observer.target_of Answers.is_unobeyed Answers.is_negative Count.adds_to Count.adds Count.only_in Count.is_reset Count.tallied Count.count_from Wrong.with_counters Wrong.keeps_at Wrong.counts_twice Refused.on_call Refused.counts_unobeyed Refused.counts_no_refusal
runs = record { accepted = refl; kept-at-create = refl; kept-at-destroy = refl; twice = refl; unobeyed = refl; refused = refl }

-- ---- what they refute

refuted : (manager : Manager) (lines : List Line) (cpu : ℕ) → cpu < 64 → eqb (shown manager lines cpu) (owed manager lines cpu) ≡ false
    → CountersCount manager → ⊥
unfolding shown owed
refuted manager lines cpu below e claim =
    let same : shown manager lines cpu ≡ owed manager lines cpu = ap (λ (l : List ℕ). get_or l total 0) (claim box runs.accepted lines cpu below) in
    true≢false (sym (is_true _ (eqb_refl (shown manager lines cpu))) ∙ ap (λ (n : ℕ). eqb (shown manager lines cpu) n) same ∙ e)

pub not-reset-at-create : CountersCount (keeps_at 1) → ⊥
not-reset-at-create = refuted (keeps_at 1) given 2 (omega arith) runs.kept-at-create

pub not-reset-at-destroy : CountersCount (keeps_at 4) → ⊥
not-reset-at-destroy = refuted (keeps_at 4) back 2 (omega arith) runs.kept-at-destroy

pub counts-twice : CountersCount counts_twice → ⊥
counts-twice = refuted counts_twice (log_exit 1 3 ∷ []) 1 (omega arith) runs.twice

pub counts-unobeyed : CountersCount counts_unobeyed → ⊥
counts-unobeyed = refuted counts_unobeyed (log_call 7 5 4 0 ∷ []) 7 (omega arith) runs.unobeyed

pub counts-no-refusal : CountersCount counts_no_refusal → ⊥
counts-no-refusal = refuted counts_no_refusal (log_call 0 8 0 0 ∷ []) 0 (omega arith) runs.refused
