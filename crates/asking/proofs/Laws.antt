-- Moves as rules: words that are kept at place 0 stay as they are, and each way that the code takes is the rule's where its test holds.
-- Assumes nothing.
use mathlib.Core.Bool.{Bool, true, false, ◌&&◌}
use mathlib.Core.Path.{◌≡◌, refl, sym, ap, ◌∙◌}
use Prim.Native.Nat.{ℕ, ◌<◌, ◌≤◌}
use native.Mathlib.Omega.{arith}
use borrow.Author.Tests.{lt-ltb, le-ltb}
use lib.Dec.{ltb}
use lib.IntN.{ℤ, pos}
use lib.ListN.{length}
use lib.Seq.{set-get_or}
use Rattle.base.specs.Rules.{EPERM}
use Rattle.cell_record.specs.declared.CellConfig.{CellConfig}
use Rattle.machine_state.specs.declared.Answer.{Answer}
use Rattle.machine_state.specs.declared.Answer.TheVariants.{Wait}
use Rattle.machine_state.specs.declared.CallKind.{CallKind}
use Rattle.machine_state.specs.declared.CommRegion.{CommRegion}
use Rattle.machine_state.specs.declared.Machine.{Machine}
use Rattle.machine_state.specs.declared.Stage.{Stage}
use Rattle.machine_state.specs.declared.Stepped.{Stepped}
use Rattle.machine_state.specs.Machine.{Waiting}
use Rattle.std.specs.Prelude.{Option, None, Some}
use Rattle.machine_state.specs.Machine.{past_comm, max_cells}
use Rattle.rules.specs.State.{comm_at, no_id, some_id, with_comm, with_waiting, answered}
use Rattle.rules.proofs.SomeIds.{is-some, is-none}
use Rattle.rules.specs.Create.{other_cell_locked}
use Rattle.rules.specs.Effects.{effect}
use Rattle.rules.specs.Asking.{next_to_message, asks, tells, every_cell, is_destroy, shutdown_request, asking, telling, wait_for, finished, end_code, tell, carry_out, none_to_ask, ask, consents, hear}
use Rattle.comms.specs.declared.WordsChange.TheVariants.{Keep, Message}
use Rattle.comms.specs.declared.Whom.TheVariants.{EveryoneBut}
use Rattle.comms.specs.Comms.{words_of, words_at, among}
use Rattle.asking.specs.declared.Move.{Move}
use Rattle.asking.specs.Moves.{Effect, effect_of, moved, Moves, AnyMachine, tell_next}
use Rattle.asking.proofs.Told.{told-after}

-- ---- moves

pub kept : (m : Machine) → words_at 0 Keep m ≡ m
unfolding words_at words_of with_comm
kept m = λ i. record {
  power = m.power;
  system = m.system;
  pool_used = m.pool_used;
  live_ids = m.live_ids;
  root_cpus = m.root_cpus;
  cells = m.cells;
  comms = set-get_or m.comms 0 past_comm i;
  cpus = m.cpus;
  waiting = m.waiting;
}

pub same-waiting : (waiting : Waiting) (m : Machine) → m.waiting ≡ waiting → with_waiting waiting m ≡ m
unfolding with_waiting
same-waiting waiting m e = ap (λ (w : Waiting). with_waiting w m) (sym e)

-- a move that keeps all words
pub keeps : (answer : Answer) (come : Effect) (waiting : Waiting)
    → Moves AnyMachine (λ new m. answered answer (with_waiting waiting (effect_of come new m)))
    (record { answer = answer; effect = come; cell = 0; words = Keep; waiting = waiting })
unfolding moved
keeps answer come waiting = record {
  moves = λ m new h. ap (λ (next : Machine). answered answer (with_waiting waiting next)) (kept (effect_of come new m));
  place = omega arith;
}

pub waits-for : (kind : CallKind) (stage : Stage) (code : ℕ) (come : Effect) → stage.cell < max_cells
    → Moves AnyMachine (λ new m. wait_for kind stage code (effect_of come new m))
    (record { answer = Wait stage.cell; effect = come; cell = stage.cell; words = Message code; waiting = (Some (kind, stage)) })
unfolding moved wait_for words_at words_of
waits-for kind stage code come h = record { moves = λ m new t. refl; place = h }

-- a move by one rule is a move by another that says the same of its machines
pub moves-as : {has one : Machine → Type 0} {rule first : CellConfig → Machine → Stepped} {mv : Move} → Moves one first mv
    → ((m : Machine) → has m → one m) → ((m : Machine) (new : CellConfig) → has m → first new m ≡ rule new m) → Moves has rule mv
moves-as r f e = record { moves = λ m new h. r.moves m new (f m h) ∙ e m new h; place = r.place }

-- ---- telling

module _ (kind : CallKind) (target : ℕ) (next : Option ℕ) (m : Machine) where
  pub told-one : (cell : ℕ) → next ≡ Some cell → wait_for kind (telling target cell 0) 2 m ≡ tell_next kind target next m
  unfolding tell_next
  told-one cell e = sym (ap (λ (o : Option ℕ). tell_next kind target o m) e)

  pub told-all : next ≡ None → (code : ℤ) → code ≡ end_code kind target → finished code m ≡ tell_next kind target next m
  unfolding tell_next
  told-all e code f = ap (λ (z : ℤ). finished z m) f ∙ sym (ap (λ (o : Option ℕ). tell_next kind target o m) e)

  -- the cell with a number is told, where there is one
  by-number : (n : ℕ) → tell_next kind target (some_id n) m
      ≡ elim (ltb n no_id) as (λ x. Stepped) [ true ↦ wait_for kind (telling target n 0) 2 m | false ↦ finished (end_code kind target) m ]
  unfolding tell_next some_id
  by-number n = go (ltb n no_id)
    where
      go : (b : Bool) → tell_next kind target (elim b as (λ x. Option ℕ) [ true ↦ Some n | false ↦ None ]) m
          ≡ elim b as (λ x. Stepped) [ true ↦ wait_for kind (telling target n 0) 2 m | false ↦ finished (end_code kind target) m ]
      go true = refl
      go false = refl

  pub tells-next : (after : ℕ) → next ≡ some_id (next_to_message every_cell after m) → tell_next kind target next m ≡ tell kind target after m
  unfolding tell
  tells-next after e = ap (λ (o : Option ℕ). tell_next kind target o m) e ∙ by-number (next_to_message every_cell after m)

module _ (kind : CallKind) (target : ℕ) (new : CellConfig) (m : Machine) where
  pub carried-told : (next : Option ℕ) → tells kind ≡ true → length m.comms ≡ max_cells → next ≡ some_id (next_to_message (among (EveryoneBut target)) 0 m)
      → tell_next kind target next (effect_of (Some (kind, target)) new m) ≡ carry_out kind target new m
  unfolding carry_out effect_of among
  carried-told next t size e =
      tells-next kind target next (effect kind target new m) 0 (e ∙ ap some_id (sym (told-after kind target new m t size))) ∙ (rw (t, carry_out) refl)

  pub carried-ended : tells kind ≡ false → finished (pos 0) (effect_of (Some (kind, target)) new m) ≡ carry_out kind target new m
  unfolding carry_out effect_of
  carried-ended t = rw (t, carry_out)

  -- ---- asking

  pub locked : (is_destroy kind && other_cell_locked target m) ≡ true → finished EPERM m ≡ none_to_ask kind target new m
  unfolding none_to_ask effect_of
  locked t = rw (t, none_to_ask)

  pub not-locked : (is_destroy kind && other_cell_locked target m) ≡ false → carry_out kind target new m ≡ none_to_ask kind target new m
  unfolding none_to_ask
  not-locked t = rw (t, none_to_ask)

  -- what is done where the next cell to ask is known
  abbrev ask-next : ℕ → Stepped
  ask-next next =
      elim (ltb next no_id) as (λ x. Stepped) [
        | true ↦ wait_for kind (asking target next 0) shutdown_request m
        | false ↦ none_to_ask kind target new m
      ]

  nobody-next : (n : ℕ) → no_id ≤ n → none_to_ask kind target new m ≡ ask-next n
  nobody-next n h = rw (le-ltb n no_id h, ask-next) refl

  module _ (after : ℕ) (next : Option ℕ) (e : next ≡ some_id (next_to_message (asks kind target) after m)) where
    pub asks-one : (cell : ℕ) → next ≡ Some cell
        → wait_for kind (asking target cell 0) shutdown_request (effect_of None new m) ≡ ask kind target after new m
    unfolding ask effect_of
    asks-one cell h =
        let is = is-some (next_to_message (asks kind target) after m) cell (sym e ∙ h) in
        (rw (lt-ltb cell no_id is.1, ask-next) refl) ∙ ap ask-next (sym is.0)

    pub asks_none : next ≡ None → none_to_ask kind target new m ≡ ask kind target after new m
    unfolding ask
    asks_none h = nobody-next (next_to_message (asks kind target) after m) (is-none _ (sym e ∙ h))

-- ---- hearing

-- what a test says of the words that the code has, it says of the machine's
pub seen : (test : CommRegion → Bool) (m : Machine) (cell : ℕ) (words : CommRegion) (flag b : Bool)
    → comm_at m cell ≡ words → flag ≡ test words → flag ≡ b → test (comm_at m cell) ≡ b
seen test m cell words flag b w f t = ap test w ∙ sym f ∙ t

module _ (kind : CallKind) (stage : Stage) (new : CellConfig) (m : Machine) where
  pub heard-telling : stage.telling ≡ true → tell kind stage.target stage.cell m ≡ hear kind stage new m
  unfolding hear
  heard-telling t = rw (t, hear)

  module _ (asking : stage.telling ≡ false) where
    pub heard-consent : consents (comm_at m stage.cell) ≡ true → ask kind stage.target stage.cell new m ≡ hear kind stage new m
    unfolding hear
    heard-consent t = rw (asking, hear, t)

    pub heard-denial : consents (comm_at m stage.cell) ≡ false → finished EPERM m ≡ hear kind stage new m
    unfolding hear effect_of
    heard-denial t = rw (asking, hear, t)
