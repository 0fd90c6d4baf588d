-- Each claim is false of a wrong manager: a run on the box, computed, has a figure of the machine and one of the history that differ, or a page that
-- two cells touch. Assumes nothing.
use Rattle.std.proofs.Common.{◌≡◌, refl, sym, ap, ◌∙◌, Bool, true, false, ◌&&◌, ◌||◌, true≢false, List, [], ◌∷◌, ℕ, ◌+◌, arith, eqb, pos}
use Rattle.std.proofs.Math.Dec.{eqb_refl}
use Rattle.base.proofs.Tests.{is_true}
use Rattle.cpu_set.specs.CpuSet.{member}
use Rattle.cell_record.specs.declared.CellConfig.{CellConfig}
use Rattle.system_record.specs.SystemRecord.{system_of, boot_answer}
use Rattle.machine_state.specs.declared.Owner.{Owner}
use Rattle.rules.specs.State.{live}
use Rattle.rules.specs.Pages.{has_page, owns, owner_of, may_touch, mapping_of}
use Rattle.machine_state.specs.declared.Mapping.TheVariants.{Page}
use Rattle.machine_state.specs.declared.Power.TheVariants.{Disabled}
use Rattle.rules.specs.Run.{Manager, Line, start_of, after}
use Rattle.history.specs.History.{has_cell, record_brought, history}
use Rattle.reading_room.specs.ReadingRoom.{box, search, log_call, log_create}
use Rattle.refusals.specs.Wrong.{does_nothing, answers_zero}
use Rattle.refusals.specs.Wrong as Refused
use Rattle.reached.specs.Kept.{kept}
use Rattle.reached.specs.Owners.{names, cpu_owner_in, cpus_of, OneOwnerAlways}
use Rattle.reached.specs.Owners as Owners
use Rattle.reached.specs.Pool.{costs, PoolFigureAlways}
use Rattle.reached.specs.Pool as Pool
use Rattle.reached.specs.LiveCells.{LiveCellsAlways}
use Rattle.reached_pages.specs.Touch.{Why, shared, loading, loaded, TouchAlways}
use Rattle.base.specs.Lists as Lists
use Rattle.base.specs.Rules as Rules
use Rattle.cpu_set.specs.CpuSet as CpuSet
use Rattle.fields.specs.Fields as Fields
use Rattle.regions.specs.Regions as Regions
use Rattle.region_table.specs.Tables as Tables
use Rattle.system_record.specs.SystemRecord as SystemRecord
use Rattle.cell_record.specs.CellRecord as CellRecord
use Rattle.machine_state.specs.Machine as Machine
use Rattle.rules.specs.State as State
use Rattle.rules.specs.Unobeyed as Unobeyed
use Rattle.rules.specs.Queries as Queries
use Rattle.rules.specs.Create as Create
use Rattle.rules.specs.Effects as Effects
use Rattle.rules.specs.Asking as Asking
use Rattle.rules.specs.Calls as Calls
use Rattle.rules.specs.Step as Step
use Rattle.rules.specs.Run as Run
use Rattle.rules.specs.Pages as Pages
use Rattle.rules.specs.CommRegion as CommRegion
use Rattle.rules.specs.Answers as Answers
use Rattle.rules.specs.Observer as Observer
use Rattle.history.specs.History as History
use Rattle.reading_room.specs.ReadingRoom as Room
use Rattle.reached_sharp.specs.Wrong.{keeps_root_cpus, loses_record, keeps_pool, keeps_pool_at_disable, ignores_cpus, misplaces, makes_up_pool, destroys_first, says_refused, ignores_regions, ignores_hypervisor}
use Rattle.reached_sharp.specs.Wrong as Wrong
use Rattle.reached_sharp.specs.Shown.{page, passive_cell, NotEmpty}
use Rattle.reached_sharp.specs.Shown as Shown

-- ---- figures of a run on the box: the machine's, and what the claim makes of the history

root_has : Manager → List Line → ℕ → Bool
root_has manager lines cpu = member cpu (cpus_of (after manager (start_of box) lines) 0)

owed_to_root : Manager → List Line → ℕ → Bool
owed_to_root manager lines cpu = member cpu (system_of box).cpus && eqb (cpu_owner_in (history manager (start_of box) lines) cpu) 0

figure : Manager → List Line → ℕ
figure manager lines = (after manager (start_of box) lines).pool_used

owed_figure : Manager → List Line → ℕ
owed_figure manager lines = (system_of box).pool.used + costs (history manager (start_of box) lines).cells

is_live : Manager → List Line → ℕ → Bool
is_live manager lines id = live (after manager (start_of box) lines) id

is_created : Manager → List Line → ℕ → Bool
is_created manager lines id = eqb id 0 || has_cell id (history manager (start_of box) lines).cells

-- ---- runs

once : List Line
once = log_create 0 search ∷ []

twice : List Line
twice = log_create 0 search ∷ log_create 0 search ∷ []

gone : List Line
gone = log_create 0 search ∷ log_call 0 4 1 0 ∷ []

off : List Line
off = log_create 0 search ∷ log_call 0 0 0 0 ∷ []

asked : List Line
asked = log_create 0 search ∷ log_call 0 2 1 0 ∷ log_call 0 4 1 0 ∷ []

-- a cell with a page of `search`, and one with a page of the hypervisor
meeting : List Line
meeting = log_create 0 search ∷ log_create 0 (passive_cell 0x61 2 0x3a000000 7) ∷ []

-- one with a CPU of `search`
named : List Line
named = log_create 0 search ∷ log_create 0 (passive_cell 0x61 4 0x10000000 7) ∷ []

inside : List Line
inside = log_create 0 (passive_cell 0x61 2 0x3f000000 7) ∷ []

record Runs : Type 0 where
  accepted : boot_answer box ≡ pos 0
  root-has : root_has keeps_root_cpus once 2 ≡ true
  not-owed : owed_to_root keeps_root_cpus once 2 ≡ false
  root-lives : is_live keeps_root_cpus once 0 ≡ true
  lost : eqb (kept (after loses_record (start_of box) once) 1).cpus (record_brought 1 (history loses_record (start_of box) once).cells).cpus ≡ false
  lost-cell : has_cell 1 (history loses_record (start_of box) once).cells ≡ true
  pool-kept : eqb (figure keeps_pool gone) (owed_figure keeps_pool gone) ≡ false
  pool-kept-off : eqb (figure keeps_pool_at_disable off) (system_of box).pool.used ≡ false
  is-off : (after keeps_pool_at_disable (start_of box) off).power ≡ Disabled
  first-names : names (history ignores_cpus (start_of box) named) 2 1 ≡ true
  second-names : names (history ignores_cpus (start_of box) named) 2 2 ≡ true
  owns-first : owns (page 0x3a000) (after ignores_regions (start_of box) meeting) 1 ≡ true
  owns-second : owns (page 0x3a000) (after ignores_regions (start_of box) meeting) 2 ≡ true
  half-mapped : mapping_of 1 (record { 0 = 0 }) (after misplaces (start_of box) once) ≡ Page (page 0x3a000) (record { read = true; write = true; execute = true })
  half-closed : may_touch 1 (page 0x3a000) (after misplaces (start_of box) once) ≡ false
  made_up : eqb (figure makes_up_pool once) (owed_figure makes_up_pool once) ≡ false
  nothing-done : (is_live does_nothing once 1 ≡ false) × (is_created does_nothing once 1 ≡ true)
  nothing-used : eqb (figure does_nothing once) (owed_figure does_nothing once) ≡ false
  zero-said : (is_live answers_zero twice 2 ≡ false) × (is_created answers_zero twice 2 ≡ true)
  refusal-said : (is_live says_refused once 1 ≡ true) × (is_created says_refused once 1 ≡ false)
  destroyed : (is_live destroys_first asked 1 ≡ false) × (is_created destroys_first asked 1 ≡ true)
  first-touches : may_touch 1 (page 0x3a000) (after ignores_regions (start_of box) meeting) ≡ true
  second-touches : may_touch 2 (page 0x3a000) (after ignores_regions (start_of box) meeting) ≡ true
  one-owner : owner_of (page 0x3a000) (after ignores_regions (start_of box) meeting) ≡ Owner.Cell 1
  in-hypervisor : has_page (system_of box).hypervisor.start (system_of box).hypervisor.size 0x3f000 ≡ true
  touches-it : may_touch 1 (page 0x3f000) (after ignores_hypervisor (start_of box) inside) ≡ true

runs : Runs
unfolding Lists.pairwise Lists.from Rules.first_rule CpuSet.member CpuSet.number_of CpuSet.subset CpuSet.meets CpuSet.is_empty CpuSet.union CpuSet.without CpuSet.below CpuSet.count_below CpuSet.count Fields.little_endian Fields.field Fields.is_name Fields.padded Regions.region_of Regions.no_region Regions.whole_pages Regions.placed Regions.flags_ok Regions.comm_ok Regions.overlap Regions.inside Regions.overlap_virt Regions.overlap_phys Regions.apart Regions.clear_of Regions.inside_phys Tables.region_at Tables.regions_of Tables.table_of SystemRecord.system_of SystemRecord.system_form SystemRecord.boot_region_ok SystemRecord.system_valid SystemRecord.out_of_range SystemRecord.overdrawn SystemRecord.boot_answer SystemRecord.read_system CellRecord.cell_of CellRecord.version_ok CellRecord.limit_ok CellRecord.cell_form CellRecord.cell_region_ok CellRecord.cell_valid CellRecord.cell_answer CellRecord.read_cell Machine.fresh_cpu Machine.no_comm Machine.no_cell Machine.first_machine Machine.power_after Machine.boot_of Room.region Room.box Room.cell_record Room.search Room.index Room.notes Run.after Run.run Room.booted Room.started Room.with_notes Room.phase_number State.first State.has_id State.active State.with_waiting State.with_power State.with_pool State.with_ids State.with_root_cpus State.with_cell State.with_comm State.with_cpus State.answered Unobeyed.store_denied Unobeyed.unobeyed Queries.get_info Queries.get_state Queries.cpu_get_info Create.other_cell_locked Create.invalid Create.name_in_use Create.conflict Create.conflicts Create.region_in_use Create.busy Create.free_id Create.no_room Effects.bump Effects.count_exit Effects.counted Effects.store_word Effects.stored Effects.fail_cpu Effects.all_failed Effects.cell_failed Effects.faulted Effects.change_in Effects.change_cpus Effects.cpus_changed Effects.start_cpu Effects.stop_cpu Effects.add_id Effects.drop_id Effects.new_cell Effects.new_comm Effects.cell_created Effects.with_phase Effects.in_phase Effects.clear_words Effects.cell_started Effects.cell_loadable Effects.cell_cut_off Effects.cell_destroyed Effects.all_destroyed Effects.disabled Effects.effect Asking.may_be_messaged Asking.next_to_message Asking.asks Asking.message Asking.wait_for Asking.finished Asking.end_code Asking.tell Asking.carry_out Asking.none_to_ask Asking.ask Asking.is_heard Asking.consents Asking.hear Asking.is_last_poll Asking.polls_after Asking.with_polls Asking.cuts_off Asking.hears_at Asking.heard_at Asking.still_waits Asking.poll_cell Asking.poll Calls.disable_call Calls.create_call Calls.target_call Calls.call_by_code Calls.call Step.obeyed Step.step CommRegion.bytes History.has_cell History.record_brought History.cells_but History.smallest_free History.cells_after History.has_come History.come History.answered_by History.after_call History.after_telling History.after_poll History.seen Observer.kind_of_code Observer.target_of Answers.is_unobeyed Answers.is_negative Answers.is_wait Pages.has_page Pages.has_phys Pages.hypervisor_has Pages.owns Pages.shares Pages.boot_has Pages.owner_of Pages.loads Pages.root_may_touch Pages.cell_may_touch Pages.may_touch Pages.has_virt Pages.region_for Pages.phys_of Pages.access_of Pages.mapped_by Pages.cell_mapping Pages.mapping_of State.or_root Owners.names Owners.cpu_owner_in Owners.cpus_of Pool.costs History.history_from Wrong.at_code Wrong.keeps_root_cpus Wrong.loses_record Wrong.keeps_pool Wrong.makes_up_pool Wrong.destroys_first Wrong.says_refused Wrong.answers_busy Wrong.creates_where Wrong.ignores_regions Wrong.ignores_cpus Wrong.half_a_page Wrong.misplaced Wrong.misplaces Wrong.keeps_pool_at_disable Wrong.with_system Wrong.elsewhere Wrong.ignores_hypervisor Refused.on_call Refused.does_nothing Refused.answers_zero Shown.passive_cell root_has owed_to_root figure owed_figure is_live is_created once twice gone off asked meeting named inside
runs = record {
  accepted = refl;
  root-has = refl;
  not-owed = refl;
  root-lives = refl;
  lost = refl;
  lost-cell = refl;
  pool-kept = refl;
  pool-kept-off = refl;
  is-off = refl;
  first-names = refl;
  second-names = refl;
  owns-first = refl;
  owns-second = refl;
  half-mapped = refl;
  half-closed = refl;
  made_up = refl;
  nothing-done = (refl, refl);
  nothing-used = refl;
  zero-said = (refl, refl);
  refusal-said = (refl, refl);
  destroyed = (refl, refl);
  first-touches = refl;
  second-touches = refl;
  one-owner = refl;
  in-hypervisor = refl;
  touches-it = refl;
}

-- ---- what they refute

differ : (a b : Bool) → a ≡ true → b ≡ false → a ≡ b → ⊥
differ a b e f q = true≢false (sym e ∙ q ∙ f)

unequal : (a b : ℕ) → eqb a b ≡ false → a ≡ b → ⊥
unequal a b e q = true≢false (sym (is_true (eqb a a) (eqb_refl a)) ∙ ap (eqb a) q ∙ e)

pub cpus-kept : OneOwnerAlways keeps_root_cpus → ⊥
unfolding root_has owed_to_root is_live
cpus-kept claim = differ _ _ runs.root-has runs.not-owed ((claim box runs.accepted once).sets 0 2 runs.root-lives)

pub record-lost : LiveCellsAlways loses_record → ⊥
record-lost claim = unequal _ _ runs.lost (ap (λ (c : CellConfig). c.cpus) ((claim box runs.accepted once).records 1 runs.lost-cell))

pub set-lost : OneOwnerAlways loses_record → ⊥
set-lost claim = unequal _ _ runs.lost ((claim box runs.accepted once).brought 1 runs.lost-cell)

pub pool-kept : PoolFigureAlways keeps_pool → ⊥
unfolding figure owed_figure
pool-kept claim = unequal _ _ runs.pool-kept (claim box runs.accepted gone).sum

pub pool-kept-off : PoolFigureAlways keeps_pool_at_disable → ⊥
unfolding figure
pool-kept-off claim = unequal _ _ runs.pool-kept-off ((claim box runs.accepted off).after_disable runs.is-off)

pub two-names : OneOwnerAlways ignores_cpus → ⊥
two-names claim = let same : ◌≡◌ {A = ℕ} 1 2 = (claim box runs.accepted named).one 2 1 2 runs.first-names runs.second-names in omega arith

pub two-owners : TouchAlways ignores_regions → ⊥
two-owners claim =
    let same : ◌≡◌ {A = ℕ} 1 2 = (claim box runs.accepted meeting).one 1 2 (page 0x3a000) (λ q. omega arith) (λ q. omega arith) runs.owns-first runs.owns-second in
    omega arith

pub half-a-page : TouchAlways misplaces → ⊥
half-a-page claim =
    differ _ _ ((claim box runs.accepted once).mapped 1 (page 0x3a000) (record { page = _; access = _; maps = runs.half-mapped })) runs.half-closed refl

pub pool-made-up : PoolFigureAlways makes_up_pool → ⊥
unfolding figure owed_figure
pool-made-up claim = unequal _ _ runs.made_up (claim box runs.accepted once).sum

pub nothing-used : PoolFigureAlways does_nothing → ⊥
unfolding figure owed_figure
nothing-used claim = unequal _ _ runs.nothing-used (claim box runs.accepted once).sum

pub nothing-done : LiveCellsAlways does_nothing → ⊥
unfolding is_live is_created
nothing-done claim = differ _ _ runs.nothing-done.1 runs.nothing-done.0 (sym ((claim box runs.accepted once).lives 1))

pub zero-always : LiveCellsAlways answers_zero → ⊥
unfolding is_live is_created
zero-always claim = differ _ _ runs.zero-said.1 runs.zero-said.0 (sym ((claim box runs.accepted twice).lives 2))

pub refusal-always : LiveCellsAlways says_refused → ⊥
unfolding is_live is_created
refusal-always claim = differ _ _ runs.refusal-said.0 runs.refusal-said.1 ((claim box runs.accepted once).lives 1)

pub destroyed-first : LiveCellsAlways destroys_first → ⊥
unfolding is_live is_created
destroyed-first claim = differ _ _ runs.destroyed.1 runs.destroyed.0 (sym ((claim box runs.accepted asked).lives 1))

pub regions-meet : TouchAlways ignores_regions → ⊥
regions-meet claim =
    go ((claim box runs.accepted meeting).two 1 2 (page 0x3a000) (λ q. omega arith) runs.first-touches runs.second-touches)
  where
    go : Why (after ignores_regions (start_of box) meeting) 1 2 (page 0x3a000) → ⊥
    go (shared e) = let z : ◌≡◌ {A = ℕ} 0 1 = cc runs.one-owner in omega arith
    go (loading q e) = omega arith
    go (loaded q e) = omega arith

pub hypervisor-touched : TouchAlways ignores_hypervisor → ⊥
hypervisor-touched claim =
    differ _ _ runs.touches-it refl ((claim box runs.accepted inside).hypervisor 1 (page 0x3f000) runs.in-hypervisor)

-- ---- states in which the claims are not empty

pub not-empty : NotEmpty
unfolding Lists.pairwise Lists.from Rules.first_rule CpuSet.member CpuSet.number_of CpuSet.subset CpuSet.meets CpuSet.is_empty CpuSet.union CpuSet.without CpuSet.below CpuSet.count_below CpuSet.count Fields.little_endian Fields.field Fields.is_name Fields.padded Regions.region_of Regions.no_region Regions.whole_pages Regions.placed Regions.flags_ok Regions.comm_ok Regions.overlap Regions.inside Regions.overlap_virt Regions.overlap_phys Regions.apart Regions.clear_of Regions.inside_phys Tables.region_at Tables.regions_of Tables.table_of SystemRecord.system_of SystemRecord.system_form SystemRecord.boot_region_ok SystemRecord.system_valid SystemRecord.out_of_range SystemRecord.overdrawn SystemRecord.boot_answer SystemRecord.read_system CellRecord.cell_of CellRecord.version_ok CellRecord.limit_ok CellRecord.cell_form CellRecord.cell_region_ok CellRecord.cell_valid CellRecord.cell_answer CellRecord.read_cell Machine.fresh_cpu Machine.no_comm Machine.no_cell Machine.first_machine Machine.power_after Machine.boot_of Room.region Room.box Room.cell_record Room.search Room.index Room.notes Run.after Run.run Room.booted Room.started Room.with_notes Room.phase_number State.first State.has_id State.active State.with_waiting State.with_power State.with_pool State.with_ids State.with_root_cpus State.with_cell State.with_comm State.with_cpus State.answered Unobeyed.store_denied Unobeyed.unobeyed Queries.get_info Queries.get_state Queries.cpu_get_info Create.other_cell_locked Create.invalid Create.name_in_use Create.conflict Create.conflicts Create.region_in_use Create.busy Create.free_id Create.no_room Effects.bump Effects.count_exit Effects.counted Effects.store_word Effects.stored Effects.fail_cpu Effects.all_failed Effects.cell_failed Effects.faulted Effects.change_in Effects.change_cpus Effects.cpus_changed Effects.start_cpu Effects.stop_cpu Effects.add_id Effects.drop_id Effects.new_cell Effects.new_comm Effects.cell_created Effects.with_phase Effects.in_phase Effects.clear_words Effects.cell_started Effects.cell_loadable Effects.cell_cut_off Effects.cell_destroyed Effects.all_destroyed Effects.disabled Effects.effect Asking.may_be_messaged Asking.next_to_message Asking.asks Asking.message Asking.wait_for Asking.finished Asking.end_code Asking.tell Asking.carry_out Asking.none_to_ask Asking.ask Asking.is_heard Asking.consents Asking.hear Asking.is_last_poll Asking.polls_after Asking.with_polls Asking.cuts_off Asking.hears_at Asking.heard_at Asking.still_waits Asking.poll_cell Asking.poll Calls.disable_call Calls.create_call Calls.target_call Calls.call_by_code Calls.call Step.obeyed Step.step CommRegion.bytes Observer.kind_of_code Observer.target_of Answers.is_unobeyed Answers.is_negative Answers.is_wait Pages.has_page Pages.has_phys Pages.hypervisor_has Pages.owns Pages.shares Pages.boot_has Pages.owner_of Pages.loads Pages.root_may_touch Pages.cell_may_touch Pages.may_touch State.or_root Shown.passive_cell
not-empty = record {
  accepted = refl;
  first_shares = refl;
  second_shares = refl;
  root_shares = refl;
  its_owner = refl;
  root_loads = refl;
  cell_loads = refl;
  in_loading = refl;
  still_owner = refl;
}
