-- The computed runs of the box: every row holds. Assumes nothing.
use Rattle.std.proofs.Common.{◌≡◌, refl, true}
use Rattle.base.specs.Lists as Lists
use Rattle.base.specs.Rules as Rules
use Rattle.cpu_set.specs.CpuSet as CpuSet
use Rattle.fields.specs.Fields as Fields
use Rattle.regions.specs.Regions as Regions
use Rattle.region_table.specs.Tables as Tables
use Rattle.system_record.specs.SystemRecord as SystemRecord
use Rattle.cell_record.specs.CellRecord as CellRecord
use Rattle.machine_state.specs.Machine as Machine
use Rattle.rules.specs.State as State
use Rattle.rules.specs.Unobeyed as Unobeyed
use Rattle.rules.specs.Queries as Queries
use Rattle.rules.specs.Create as Create
use Rattle.rules.specs.Effects as Effects
use Rattle.rules.specs.Asking as Asking
use Rattle.rules.specs.Calls as Calls
use Rattle.rules.specs.Step as Step
use Rattle.rules.specs.Run as Run
use Rattle.rules.specs.Answers as Answers
use Rattle.rules.specs.Account as Account
use Rattle.rules.specs.Observer as Observer
use Rattle.rules.specs.CommRegion as CommRegion
use Rattle.reading_room.specs.ReadingRoom as Room
use Rattle.waiting.specs.Steps as Steps
use Rattle.texts.specs.Texts as Texts
use Rattle.waiting.specs.Demand3 as Demand3
use Rattle.waiting.specs.Box as Box
use Rattle.base.specs.Lists.{all}
use Rattle.waiting.specs.Box.{waiting_row_holds, waiting_rows}

pub box-rows : all waiting_row_holds waiting_rows ≡ true
unfolding Lists.pairwise Lists.from Rules.first_rule CpuSet.member CpuSet.number_of CpuSet.subset CpuSet.meets CpuSet.is_empty CpuSet.union CpuSet.without CpuSet.below CpuSet.count_below CpuSet.count Fields.little_endian Fields.field Fields.is_name Fields.padded Regions.region_of Regions.no_region Regions.whole_pages Regions.placed Regions.flags_ok Regions.comm_ok Regions.overlap Regions.inside Regions.overlap_virt Regions.overlap_phys Regions.apart Regions.clear_of Regions.inside_phys Tables.region_at Tables.regions_of Tables.table_of SystemRecord.system_of SystemRecord.system_form SystemRecord.boot_region_ok SystemRecord.system_valid SystemRecord.out_of_range SystemRecord.overdrawn SystemRecord.boot_answer SystemRecord.read_system CellRecord.cell_of CellRecord.version_ok CellRecord.limit_ok CellRecord.cell_form CellRecord.cell_region_ok CellRecord.cell_valid CellRecord.cell_answer CellRecord.read_cell Machine.fresh_cpu Machine.no_comm Machine.no_cell Machine.first_machine Machine.power_after Machine.boot_of Room.region Room.box Room.cell_record Room.search Room.limited_search Room.same_bool Room.notes Run.after Room.booted State.first State.has_id State.active State.with_waiting State.with_power State.with_pool State.with_ids State.with_root_cpus State.with_cell State.with_comm State.with_cpus State.answered Unobeyed.store_denied Unobeyed.unobeyed Queries.get_info Queries.get_state Queries.cpu_get_info Create.other_cell_locked Create.invalid Create.name_in_use Create.conflict Create.conflicts Create.region_in_use Create.busy Create.free_id Create.no_room Effects.bump Effects.count_exit Effects.counted Effects.store_word Effects.stored Effects.fail_cpu Effects.all_failed Effects.cell_failed Effects.faulted Effects.change_in Effects.change_cpus Effects.cpus_changed Effects.start_cpu Effects.stop_cpu Effects.add_id Effects.drop_id Effects.new_cell Effects.new_comm Effects.cell_created Effects.with_phase Effects.in_phase Effects.clear_words Effects.cell_started Effects.cell_loadable Effects.cell_cut_off Effects.cell_destroyed Effects.all_destroyed Effects.disabled Effects.effect Asking.may_be_messaged Asking.next_to_message Asking.asks Asking.message Asking.wait_for Asking.finished Asking.end_code Asking.tell Asking.carry_out Asking.none_to_ask Asking.ask Asking.is_heard Asking.consents Asking.hear Asking.is_last_poll Asking.polls_after Asking.with_polls Asking.cuts_off Asking.hears_at Asking.heard_at Asking.still_waits Asking.poll_cell Asking.poll Calls.disable_call Calls.create_call Calls.target_call Calls.call_by_code Calls.call Step.obeyed Step.step CommRegion.bytes Answers.is_negative Answers.is_wait Account.next_shown Account.unused_id Account.about_cell Account.last_code Account.tell_on Account.effect_comes Account.lock_shown Account.none_left_to_ask Account.ask_on Account.begun Account.cell_shown Account.failed_shown Account.unheard_at Account.heard_by Account.consents_by Account.polled_at Account.polled Account.answer_at Account.ended_at Account.waited_at Observer.shown_from Observer.kind_of_code Observer.target_of Observer.watched_call Observer.watched_poll Observer.is_done Observer.watched_store Observer.watched Steps.at_call Steps.next Steps.moment_after Steps.cell_of_place Steps.messaged_with Steps.messaged_in Steps.times_with Steps.times_in Texts.decimal_in Texts.signed Texts.answer_text Demand3.in_w Demand3.all_limited Demand3.sum_below Box.clerk Box.press Box.limited_notes Box.limited_clerk Box.same_answer Box.waiting_log_holds Room.said_lines Box.waiting_row_holds Box.waiting_rows
box-rows = refl
