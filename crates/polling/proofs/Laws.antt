-- A poll as the rule: each way that the code takes is the rule's where its test holds. Assumes nothing.
use mathlib.Core.Bool.{Bool, true, false, not, ◌&&◌, ◌||◌}
use mathlib.Core.Path.{◌≡◌, refl, sym, ap, ap₂, subst, ◌∙◌}
use Prim.Native.Nat.{ℕ, ◌+◌, ◌^◌, ◌<◌, ◌≤◌}
use native.Mathlib.Omega.{arith}
use borrow.Author.Tests.{lt-ltb, leb-false, ne_eqb}
use lib.Dec.{leb, eqb}
use lib.ListN.{length, get_or-eq_default}
use Rattle.cell_record.specs.declared.CellConfig.{CellConfig}
use Rattle.machine_state.specs.declared.Answer.{Answer}
use Rattle.machine_state.specs.declared.Answer.TheVariants.{Wait}
use Rattle.machine_state.specs.declared.CallKind.{CallKind}
use Rattle.machine_state.specs.declared.CommRegion.{CommRegion}
use Rattle.machine_state.specs.declared.Machine.{Machine}
use Rattle.machine_state.specs.declared.Stage.{Stage}
use Rattle.machine_state.specs.declared.Stepped.{Stepped}
use Rattle.std.specs.Prelude.{Some}
use Rattle.machine_state.specs.Machine.{Waiting, past_comm, max_cells}
use Rattle.rules.specs.State.{comm_at, limit_at, failed, with_waiting, answered}
use Rattle.rules.specs.Effects.{store_word, cell_cut_off}
use Rattle.rules.specs.Asking.{is_heard, hear, is_last_poll, polls_after, with_polls, cuts_off, hears_at, heard_at, still_waits, poll_cell}
use Rattle.rules.proofs.Limit.{unlimited}
use Rattle.comms.specs.declared.WordsChange.TheVariants.{Store}
use Rattle.comms.specs.declared.CellSets.{CellSets}
use Rattle.comms.specs.Comms.{words_of, cell_index}
use Rattle.comms.proofs.Laws.{cell-inside}
use Rattle.comms.specs.Sets.{sets_without}
use Rattle.asking.specs.declared.Move.{Move}
use Rattle.polling.specs.declared.Polled.{Polled}
use Rattle.asking.specs.Moves.{moved, Moves, WithSets, Hears, cut_off_at}
use Rattle.polling.specs.Polls.{uncut, PollMoves}
use Rattle.polling.proofs.CutOff.{cut-own, cut-sets}

-- the words at the place of a cell of the table are its own; past the table's end there are none
pub own-words : (m : Machine) (cell k : ℕ) → cell < max_cells → k ≡ cell_index cell → comm_at m cell ≡ comm_at m k
own-words m cell k h e = ap (comm_at m) (sym (e ∙ cell-inside cell h))

past_words : (m : Machine) (cell : ℕ) → max_cells ≤ cell → length m.comms ≡ max_cells → comm_at m cell ≡ past_comm
past_words m cell h l =
    let short : length m.comms ≤ cell = omega (arith, l, h) in
    get_or-eq_default m.comms past_comm short

-- a move with no cell cut off
pub moves-uncut : {has : Machine → Type 0} {rule : CellConfig → Machine → Stepped} {mv : Move} {p : Polled} (m : Machine) → p ≡ uncut mv → Moves has rule mv → has m
    → PollMoves m rule p
unfolding cut_off_at
moves-uncut {rule = rule} m q r h = subst (λ (x : Polled). PollMoves m rule x) (sym q) (record { moves = λ new. r.moves m new h; place = r.place })

pub poll-as : {rule first : CellConfig → Machine → Stepped} {p : Polled} (m : Machine) → PollMoves m first p
    → ((new : CellConfig) → first new m ≡ rule new m) → PollMoves m rule p
poll-as m r e = record { moves = λ new. r.moves new ∙ e new; place = r.place }

-- an answer that changes nothing
pub stays : (m : Machine) (waiting : Waiting) (answer : Answer) (rule : CellConfig → Machine → Stepped) (mv : Move) {p : Polled} → p ≡ uncut mv
    → Moves (λ x. x.waiting ≡ waiting) (λ new x. answered answer x) mv → m.waiting ≡ waiting → ((new : CellConfig) → answered answer m ≡ rule new m)
    → PollMoves m rule p
unfolding cut_off_at
stays m waiting answer rule mv q r h e =
    subst (λ (x : Polled). PollMoves m rule x) (sym q) (record { moves = λ new. r.moves m new h ∙ e new; place = r.place })

-- the cell is cut off: what is decided from its words, failed, and the sets without it is so of the machine where it is cut off
pub cuts : (m : Machine) (cells others : CellSets) (changed : CommRegion) (kind : CallKind) (stage : Stage) (mv : Move) → stage.cell < max_cells
    → WithSets cells m → changed ≡ words_of (Store 2 failed) (comm_at m stage.cell) → others ≡ sets_without stage.cell cells
    → Moves (Hears others changed stage) (hear kind stage) mv
    → PollMoves m (λ new m. hear kind stage new (cell_cut_off stage.cell m)) (record { cut = Some stage.cell; moves = mv })
unfolding cut_off_at words_of store_word
cuts m cells others changed kind stage mv inside h e f r = record {
  moves = λ new. ap (λ (b : Bool). moved mv new (elim b [ true ↦ cell_cut_off stage.cell m | false ↦ m ])) (lt-ltb stage.cell max_cells inside)
      ∙ r.moves _ new (record {
        parts = subst (λ (s : CellSets). WithSets s (cell_cut_off stage.cell m)) (sym f) (cut-sets stage.cell m inside h.size cells h);
        words = cut-own stage.cell m inside h.size ∙ sym e;
      });
  place = r.place;
}

module _ (kind : CallKind) (stage : Stage) (new : CellConfig) (m : Machine) where
  -- the poll, by whether the cell is heard, and by whether this is its last
  abbrev poll_by : Bool → Bool → Stepped
  poll_by heard last =
      elim (heard || (not heard && last)) [
        | true ↦ hear kind stage new (elim (not heard && last) [ true ↦ cell_cut_off stage.cell m | false ↦ m ])
        | false ↦ answered (Wait stage.cell) (still_waits kind stage m)
      ]

  poll-by : (heard last : Bool) → is_heard (comm_at m stage.cell) ≡ heard → is_last_poll (limit_at m stage.cell) stage.polls ≡ last
      → poll_by heard last ≡ poll_cell kind stage new m
  unfolding poll_cell hears_at heard_at cuts_off
  poll-by heard last e f = sym (ap₂ (λ (x y : Bool). poll_by x y) e f)

  -- the words of the cell waited for are `w`
  module _ (w : CommRegion) (own : comm_at m stage.cell ≡ w) where
    pub polled-heard : is_heard w ≡ true → hear kind stage new m ≡ poll_cell kind stage new m
    polled-heard e = poll-by true (is_last_poll (limit_at m stage.cell) stage.polls) (ap is_heard own ∙ e) refl

    last-by : (b : Bool) → is_last_poll w.reply_limit stage.polls ≡ b → is_last_poll (limit_at m stage.cell) stage.polls ≡ b
    last-by b e = ap (λ (c : CommRegion). is_last_poll c.reply_limit stage.polls) own ∙ e

    module _ (silent : is_heard w ≡ false) where
      pub polled-last : is_last_poll w.reply_limit stage.polls ≡ true → hear kind stage new (cell_cut_off stage.cell m) ≡ poll_cell kind stage new m
      polled-last e = poll-by false true (ap is_heard own ∙ silent) (last-by true e)

      -- a poll that is not the last is counted, where there is a limit
      pub polled-counted : (w.reply_limit ≡ 0 → ⊥) → is_last_poll w.reply_limit stage.polls ≡ false
          → answered (Wait stage.cell) (with_waiting (with_polls (stage.polls + 1) (Some (kind, stage))) m) ≡ poll_cell kind stage new m
      unfolding still_waits polls_after
      polled-counted n e =
          sym (ap (λ (b : Bool). answered (Wait stage.cell) (with_waiting (with_polls (elim b [ true ↦ stage.polls | false ↦ stage.polls + 1 ]) (Some (kind, stage))) m))
          (ap (λ (c : CommRegion). eqb c.reply_limit 0) own ∙ ne_eqb w.reply_limit 0 n))
          ∙ poll-by false false (ap is_heard own ∙ silent) (last-by false e)

      -- where there is no limit nothing changes
      pub polled-silent : w.reply_limit ≡ 0 → m.waiting ≡ (Some (kind, stage)) → answered (Wait stage.cell) m ≡ poll_cell kind stage new m
      polled-silent none waits =
          sym (unlimited kind stage new m (ap (λ (c : CommRegion). c.reply_limit) own ∙ none) waits
          ∙ ap (λ (b : Bool). elim b [ true ↦ hear kind stage new m | false ↦ answered (Wait stage.cell) m ]) (ap is_heard own ∙ silent))

  -- past the table's end nobody is heard, and there is no limit
  pub polled-past : max_cells ≤ stage.cell → length m.comms ≡ max_cells → m.waiting ≡ (Some (kind, stage))
      → answered (Wait stage.cell) m ≡ poll_cell kind stage new m
  unfolding is_heard
  polled-past h l waits = polled-silent past_comm (past_words m stage.cell h l) refl refl waits

-- a poll that is not the last of a limit leaves room for the count
pub count_fits : (limit polls : ℕ) → is_last_poll limit polls ≡ false → (limit ≡ 0 → ⊥) → limit < 2 ^ 16 → polls + 1 < 2 ^ 16
unfolding is_last_poll
count_fits limit polls e n small =
    let below : polls + 1 < limit = leb-false limit (polls + 1) (sym (ap (λ (b : Bool). not b && leb limit (polls + 1)) (ne_eqb limit 0 n)) ∙ e) in
    omega (arith, below, small)
