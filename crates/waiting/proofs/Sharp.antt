-- Demand 3 is false of each wrong manager: one run on the box, computed, has a call that is left waiting, and at one of its own steps two figures
-- that the claim says are equal and that are not. The runs are computed in one place. Assumes nothing.
use Rattle.std.proofs.Common.{◌≡◌, refl, sym, ap, ◌∙◌, true, false, true≢false, List, [], ◌∷◌, ◌++◌, ℕ, ◌+◌, eqb, pos, negsuc, None, Some}
use Rattle.std.proofs.Math.Dec.{eqb_refl}
use Rattle.base.proofs.Tests.{is_true}
use Rattle.base.specs.Lists as Lists
use Rattle.base.specs.Rules as Rules
use Rattle.cpu_set.specs.CpuSet as CpuSet
use Rattle.fields.specs.Fields as Fields
use Rattle.regions.specs.Regions as Regions
use Rattle.region_table.specs.Tables as Tables
use Rattle.system_record.specs.SystemRecord as SystemRecord
use Rattle.cell_record.specs.CellRecord as CellRecord
use Rattle.machine_state.specs.Machine as Machine
use Rattle.rules.specs.State as State
use Rattle.rules.specs.Unobeyed as Unobeyed
use Rattle.rules.specs.Queries as Queries
use Rattle.rules.specs.Create as Create
use Rattle.rules.specs.Effects as Effects
use Rattle.rules.specs.Asking as Asking
use Rattle.rules.specs.Calls as Calls
use Rattle.rules.specs.Step as Step
use Rattle.rules.specs.Run as Run
use Rattle.rules.specs.Answers as Answers
use Rattle.rules.specs.Account as Account
use Rattle.rules.specs.Observer as Observer
use Rattle.rules.specs.CommRegion as CommRegion
use Rattle.reading_room.specs.ReadingRoom as Room
use Rattle.waiting.specs.Steps as Steps
use Rattle.waiting.specs.Wrong as Wrong
use Rattle.base.specs.Lists.{all}
use Rattle.cell_record.specs.CellRecord.{cell_of}
use Rattle.system_record.specs.SystemRecord.{boot_answer}
use Rattle.machine_state.specs.Machine.{Waiting}
use Rattle.machine_state.specs.declared.Answer.{Answer}
use Rattle.machine_state.specs.declared.Answer.TheVariants.{Code, Wait, Done, Off, Bad, Stopped, Held, Denied, Idle}
use Rattle.machine_state.specs.declared.Machine.{Machine}
use Rattle.rules.specs.State.{comm_at, cpu_at, with_waiting}
use Rattle.rules.specs.Asking.{with_polls}
use Rattle.rules.specs.Answers.{is_wait}
use Rattle.rules.specs.Account.{Account, answer_of}
use Rattle.rules.specs.Run.{Line, Manager, Happened, happens, after, Accepted, start_of}
use Rattle.reading_room.specs.ReadingRoom.{box, log_store}
use Rattle.waiting.specs.Steps.{CallLine, call_line, poll_line, Moment, account, account_ended, at_call, next, move_of, but_waiting, cell_table_of, CellTable, messaged_with}
use Rattle.waiting.specs.Demand3.{since, WaitingCall, Demand3}
use Rattle.waiting.specs.Box.{root_call, both_started, hung_started}
use Rattle.waiting.specs.Wrong.{effect_first, ends_early, stale_reply, denial_consents, locks_before, messages_twice, changes_back, tells_first, never_cuts_off, leaves_running, loses_reply, counts_unlimited}

-- a figure of two things that are said to be equal
unequal : {A : Type 0} (figure : A → ℕ) (x y : A) → eqb (figure x) (figure y) ≡ false → x ≡ y → ⊥
unequal figure x y e q = true≢false (sym (is_true _ (eqb_refl (figure x))) ∙ ap (λ (n : ℕ). eqb (figure x) n) (ap figure q) ∙ e)

-- of answers, tables and machines
number : Answer → ℕ
number (Code (pos n)) = n
number (Code (negsuc n)) = 100 + n
number (Wait cell) = 200 + cell
number Done = 300
number Off = 301
number Bad = 302
number Stopped = 303
number Held = 304
number Denied = 305
number Idle = 306

live_in : CellTable → ℕ
live_in t = t.live

live : Machine → ℕ
live m = m.live_ids

to : ℕ → Machine → ℕ
to id m = (comm_at m id).msg_to_cell

from : ℕ → Machine → ℕ
from id m = (comm_at m id).reply_from_cell

is_stopped : ℕ → Machine → ℕ
is_stopped cpu m = elim (cpu_at m cpu).stopped [ true ↦ 1 | false ↦ 0 ]

count_in : Waiting → ℕ
count_in None = 0
count_in (Some (kind, stage)) = stage.polls

count : Machine → ℕ
count m = count_in m.waiting

-- ---- a run that breaks the claim

-- the machine that the call meets, what happens at the call and at a poll after some lines, and the account after it
met : Manager → List Line → Machine
met manager before = after manager (start_of box) before

called : Manager → List Line → CallLine → Happened
called manager before c = happens manager (call_line c) (met manager before)

begun : Manager → List Line → CallLine → Account
begun manager before c = account (at_call manager c (met manager before))

then : Manager → List Line → CallLine → List Line → Moment
then manager before c later = since manager c (met manager before) later

at_poll : Manager → List Line → CallLine → List Line → Happened
at_poll manager before c later = happens manager (poll_line []) (then manager before c later).machine

polled : Manager → List Line → CallLine → List Line → Account
polled manager before c later = account (next manager (poll_line []) (then manager before c later))

-- the call is left waiting, and it waits still after some lines
record Waits (manager : Manager) (before : List Line) (c : CallLine) (later : List Line) : Type 0 where
  accepted : Accepted box
  left : is_wait (called manager before c).answer ≡ true
  still : account_ended (then manager before c later) ≡ false

-- the poll's answer is not the account's
record WrongAnswer (manager : Manager) (before : List Line) (c : CallLine) (later : List Line) : Type 0 where
  waits : Waits manager before c later
  wrong : eqb (number (at_poll manager before c later).answer) (number (answer_of (polled manager before c later))) ≡ false

-- the machine that the poll leaves is not the one that the account's move makes
record WrongMove (figure : Machine → ℕ) (manager : Manager) (before : List Line) (c : CallLine) (later : List Line) : Type 0 where
  waits : Waits manager before c later
  wrong :
      eqb (figure (but_waiting (at_poll manager before c later).after))
      (figure (but_waiting (move_of (polled manager before c later) (cell_of c.bytes) (then manager before c later).machine))) ≡ false

-- a poll with which the account stays changes more than its count, or counts otherwise
record WrongCount (manager : Manager) (before : List Line) (c : CallLine) (later : List Line) : Type 0 where
  waits : Waits manager before c later
  stays : (polled manager before c later).moved ≡ false
  wrong :
      let m = (then manager before c later).machine in
      eqb (count (at_poll manager before c later).after) (count (with_waiting (with_polls (polled manager before c later).polls m.waiting) m)) ≡ false

-- the call changes the table though no effect came; it leaves a reply
record WrongTable (manager : Manager) (before : List Line) (c : CallLine) : Type 0 where
  waits : Waits manager before c []
  none : (begun manager before c).effect ≡ false
  wrong : eqb (live_in (cell_table_of (called manager before c).after)) (live_in (cell_table_of (met manager before))) ≡ false

record WrongFrom (manager : Manager) (before : List Line) (c : CallLine) : Type 0 where
  waits : Waits manager before c []
  wrong : all (λ id. eqb (comm_at (called manager before c).after id).reply_from_cell 0) (messaged_with (begun manager before c)) ≡ false

module _ (manager : Manager) (before : List Line) (c : CallLine) where
  -- what the claim says of such a run
  claimed : (later : List Line) → Waits manager before c later → Demand3 manager → WaitingCall manager c (met manager before)
  unfolding called met
  claimed later w claim = claim box w.accepted before c w.left

  no_answer : (later : List Line) → WrongAnswer manager before c later → Demand3 manager → ⊥
  unfolding at_poll polled then met
  no_answer later w claim = unequal number _ _ w.wrong ((claimed later w.waits claim).answers.1 later [] w.waits.still)

  no_move : (figure : Machine → ℕ) (later : List Line) → WrongMove figure manager before c later → Demand3 manager → ⊥
  unfolding at_poll polled then met Steps.counted_for
  no_move figure later w claim = unequal figure _ _ w.wrong ((claimed later w.waits claim).effect.0.1 later [] w.waits.still)

  no-count : (later : List Line) → WrongCount manager before c later → Demand3 manager → ⊥
  unfolding at_poll polled then met
  no-count later w claim = unequal count _ _ w.wrong ((claimed later w.waits claim).counts.1 later [] w.waits.still w.stays)

  no_table : WrongTable manager before c → Demand3 manager → ⊥
  unfolding called begun met
  no_table w claim = unequal live_in _ _ w.wrong ((claimed [] w.waits claim).frame.0.0 w.none)

  no-from : WrongFrom manager before c → Demand3 manager → ⊥
  unfolding called begun met
  no-from w claim = true≢false (sym (claimed [] w.waits claim).messages.0 ∙ w.wrong)

-- ---- the runs: Destroy of `search` beside `notes`, and Disable of both

destroy : CallLine
destroy = root_call 4 1 []

disable : CallLine
disable = root_call 0 0 []

-- `search` consents, denies
consent : List Line
consent = log_store 2 1 3 ∷ []

denial : List Line
denial = log_store 2 1 2 ∷ []

record Runs : Type 0 where
  effect-first : WrongTable effect_first both_started destroy
  ends-early : WrongAnswer ends_early both_started destroy []
  -- `search` stored 3 before it was asked
  stale : WrongFrom stale_reply (both_started ++ consent) destroy
  stale-taken : WrongAnswer stale_reply (both_started ++ consent) destroy []
  denial-consents : WrongAnswer denial_consents both_started destroy denial
  -- `notes` locks the configuration while the call waits
  locks-before : WrongAnswer locks_before both_started destroy (log_store 1 2 1 ∷ consent)
  -- `search` stores 9 to its `to`
  twice : WrongMove (to 1) messages_twice both_started destroy (log_store 2 0 9 ∷ [])
  back : WrongMove (from 1) changes_back both_started disable consent
  tells_first_lem : WrongMove live tells_first both_started destroy consent
  -- `search` has a limit of one poll and hangs, or denies at that poll
  never-cuts-off : WrongAnswer never_cuts_off hung_started destroy []
  leaves-running : WrongMove (is_stopped 2) leaves_running hung_started disable []
  loses-reply : WrongAnswer loses_reply hung_started destroy denial
  counts-unlimited : WrongCount counts_unlimited both_started destroy []

runs : Runs
unfolding Lists.pairwise Lists.from Rules.first_rule CpuSet.member CpuSet.number_of CpuSet.subset CpuSet.meets CpuSet.is_empty CpuSet.union CpuSet.without CpuSet.below CpuSet.count_below CpuSet.count Fields.little_endian Fields.field Fields.is_name Fields.padded Regions.region_of Regions.no_region Regions.whole_pages Regions.placed Regions.flags_ok Regions.comm_ok Regions.overlap Regions.inside Regions.overlap_virt Regions.overlap_phys Regions.apart Regions.clear_of Regions.inside_phys Tables.region_at Tables.regions_of Tables.table_of SystemRecord.system_of SystemRecord.system_form SystemRecord.boot_region_ok SystemRecord.system_valid SystemRecord.out_of_range SystemRecord.overdrawn SystemRecord.boot_answer SystemRecord.read_system CellRecord.cell_of CellRecord.version_ok CellRecord.limit_ok CellRecord.cell_form CellRecord.cell_region_ok CellRecord.cell_valid CellRecord.cell_answer CellRecord.read_cell Machine.fresh_cpu Machine.no_comm Machine.no_cell Machine.first_machine Machine.power_after Machine.boot_of Room.region Room.box Room.cell_record Room.search Room.limited_search Room.notes Run.after Room.booted State.first State.has_id State.active State.with_waiting State.with_power State.with_pool State.with_ids State.with_root_cpus State.with_cell State.with_comm State.with_cpus State.answered Unobeyed.store_denied Unobeyed.unobeyed Queries.get_info Queries.get_state Queries.cpu_get_info Create.other_cell_locked Create.invalid Create.name_in_use Create.conflict Create.conflicts Create.region_in_use Create.busy Create.free_id Create.no_room Effects.bump Effects.count_exit Effects.counted Effects.store_word Effects.stored Effects.fail_cpu Effects.all_failed Effects.cell_failed Effects.faulted Effects.change_in Effects.change_cpus Effects.cpus_changed Effects.start_cpu Effects.stop_cpu Effects.add_id Effects.drop_id Effects.new_cell Effects.new_comm Effects.cell_created Effects.with_phase Effects.in_phase Effects.clear_words Effects.cell_started Effects.cell_loadable Effects.cell_cut_off Effects.cell_destroyed Effects.all_destroyed Effects.disabled Effects.effect Asking.may_be_messaged Asking.next_to_message Asking.asks Asking.message Asking.wait_for Asking.finished Asking.end_code Asking.tell Asking.carry_out Asking.none_to_ask Asking.ask Asking.is_heard Asking.consents Asking.hear Asking.is_last_poll Asking.polls_after Asking.with_polls Asking.cuts_off Asking.hears_at Asking.heard_at Asking.still_waits Asking.poll_cell Asking.poll Calls.disable_call Calls.create_call Calls.target_call Calls.call_by_code Calls.call Step.obeyed Step.step CommRegion.bytes Answers.is_negative Answers.is_wait Account.next_shown Account.unused_id Account.about_cell Account.last_code Account.tell_on Account.effect_comes Account.lock_shown Account.none_left_to_ask Account.ask_on Account.begun Account.cell_shown Account.failed_shown Account.unheard_at Account.heard_by Account.consents_by Account.polled_at Account.polled Account.answer_at Account.ended_at Account.waited_at Observer.shown_from Observer.kind_of_code Observer.target_of Observer.watched_call Observer.watched_poll Observer.is_done Observer.watched_store Observer.watched Steps.at_call Steps.next Steps.moment_after Steps.cell_of_place Steps.messaged_with Steps.messaged_in Steps.times_with Steps.times_in number live_in live is_stopped count_in count to from met called begun then at_poll polled destroy disable consent denial Steps.messaged_at Steps.account_effect Steps.cut_from Steps.move_of Steps.cell_table_of Wrong.changed Wrong.leaving State.waited_for Wrong.effect_first Wrong.ends_early Wrong.reply_kept Wrong.stale_reply Wrong.asks_on Wrong.denial_consents Wrong.carries_out Wrong.locks_before Wrong.messages_twice Wrong.changes_back Wrong.tells_on Wrong.tells_first Wrong.waits_on Wrong.never_cuts_off Wrong.runs_on Wrong.leaves_running Wrong.cuts_anyway Wrong.loses_reply Wrong.counts_unlimited
runs = record {
  effect-first = record { waits = record { accepted = refl; left = refl; still = refl }; none = refl; wrong = refl };
  ends-early = record { waits = record { accepted = refl; left = refl; still = refl }; wrong = refl };
  stale = record { waits = record { accepted = refl; left = refl; still = refl }; wrong = refl };
  stale-taken = record { waits = record { accepted = refl; left = refl; still = refl }; wrong = refl };
  denial-consents = record { waits = record { accepted = refl; left = refl; still = refl }; wrong = refl };
  locks-before = record { waits = record { accepted = refl; left = refl; still = refl }; wrong = refl };
  twice = record { waits = record { accepted = refl; left = refl; still = refl }; wrong = refl };
  back = record { waits = record { accepted = refl; left = refl; still = refl }; wrong = refl };
  tells_first_lem = record { waits = record { accepted = refl; left = refl; still = refl }; wrong = refl };
  never-cuts-off = record { waits = record { accepted = refl; left = refl; still = refl }; wrong = refl };
  leaves-running = record { waits = record { accepted = refl; left = refl; still = refl }; wrong = refl };
  loses-reply = record { waits = record { accepted = refl; left = refl; still = refl }; wrong = refl };
  counts-unlimited = record { waits = record { accepted = refl; left = refl; still = refl }; stays = refl; wrong = refl };
}

-- ---- what they refute

-- an effect at the first step, the polls only staged
pub effect-first : Demand3 effect_first → ⊥
effect-first = no_table effect_first both_started destroy runs.effect-first

-- every wait ended early
pub ends-early : Demand3 ends_early → ⊥
ends-early = no_answer ends_early both_started destroy [] runs.ends-early

-- a stale reply: it is left, and it is taken
pub stale-left : Demand3 stale_reply → ⊥
stale-left = no-from stale_reply (both_started ++ consent) destroy runs.stale

pub stale-taken : Demand3 stale_reply → ⊥
stale-taken = no_answer stale_reply (both_started ++ consent) destroy [] runs.stale-taken

-- a denial taken for consent
pub denial-consents : Demand3 denial_consents → ⊥
denial-consents = no_answer denial_consents both_started destroy denial runs.denial-consents

-- locks tested only before the wait
pub locks-before : Demand3 locks_before → ⊥
locks-before = no_answer locks_before both_started destroy (log_store 1 2 1 ∷ consent) runs.locks-before

-- a cell messaged twice
pub messages-twice : Demand3 messages_twice → ⊥
messages-twice = no_move messages_twice both_started destroy (to 1) (log_store 2 0 9 ∷ []) runs.twice

-- a heard cell changed back
pub changes-back : Demand3 changes_back → ⊥
changes-back = no_move changes_back both_started disable (from 1) consent runs.back

-- telling before the effect
pub tells_first_lem : Demand3 tells_first → ⊥
tells_first_lem = no_move tells_first both_started destroy live consent runs.tells_first_lem

-- a limit that never cuts off
pub never-cuts-off : Demand3 never_cuts_off → ⊥
never-cuts-off = no_answer never_cuts_off hung_started destroy [] runs.never-cuts-off

-- the CPUs of a cell that is cut off left running
pub leaves-running : Demand3 leaves_running → ⊥
leaves-running = no_move leaves_running hung_started disable (is_stopped 2) [] runs.leaves-running

-- a reply at the limit's poll lost
pub loses-reply : Demand3 loses_reply → ⊥
loses-reply = no_answer loses_reply hung_started destroy denial runs.loses-reply

-- a count where there is no limit
pub counts-unlimited : Demand3 counts_unlimited → ⊥
counts-unlimited = no-count counts_unlimited both_started destroy [] runs.counts-unlimited
