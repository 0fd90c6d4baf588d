-- What each event does to a CPU's counters. A word leaves all as it was; an obeyed call counts its caller and then goes on, an exit counts; an effect
-- resets where the cells that name the CPU change; nothing else touches counters. Assumes nothing.
use Rattle.std.proofs.Common.{◌≡◌, refl, sym, subst, Bool, true, false, true≢false, List, ℕ, ◌≤◌, ◌<◌, arith, ℤ, pos, length, eqb-true, None, Some}
use Rattle.base.specs.Rules.{EPERM}
use Rattle.base.proofs.Tests.{fails, eq→eqb}
use Rattle.cell_record.specs.declared.CellConfig.{CellConfig}
use Rattle.cell_record.specs.CellRecord.{cell_of}
use Rattle.system_record.specs.declared.SystemConfig.{SystemConfig}
use Rattle.machine_state.specs.declared.CallKind.{CallKind}
use Rattle.machine_state.specs.declared.CallKind.TheVariants.{Disable, Create, Start, SetLoadable, Destroy}
use Rattle.machine_state.specs.declared.Stage.{Stage}
use Rattle.machine_state.specs.Machine.{Waiting}
use Rattle.machine_state.specs.declared.Machine.{Machine}
use Rattle.machine_state.specs.declared.Stepped.{Stepped}
use Rattle.rules.specs.State.{root_id, live, answered}
use Rattle.rules.specs.Answers.{is_unobeyed}
use Rattle.rules.specs.Effects.{effect, disabled}
use Rattle.rules.specs.Create.{free_id}
use Rattle.rules.specs.Asking.{asks, asking, telling, wait_for, finished, ask, poll, cuts_off, heard_at, still_waits, poll_cell}
use Rattle.rules.specs.Calls.{call}
use Rattle.rules.proofs.Cases.{ask-cases, call-cases, heard-cases, poll-asking, poll-telling}
use Rattle.history.specs.History.{Created, has_cell}
use Rattle.reached.proofs.Table.{Table, table_of, cut-same}
use Rattle.reached.proofs.Sound.{IsCell, Fits}
use Rattle.reached.proofs.Settled.{Settled, after_disable}
use Rattle.reached.proofs.Ready.{fits}
use Rattle.reached.proofs.Walk.{WaitsWell}
use Rattle.counters.proofs.Resets.{counters_of, Resets, resets_none, resets-waiting, resets-message, started-resets, loadable-resets, cut-resets, created-resets, destroyed-resets, disabled-resets}

-- what an effect needs for that: a free ID for Create, a live cell for Destroy, and none left after Disable
pub record Free (id : ℕ) (m : Machine) : Type 0 where
  pub low : 1 ≤ id
  pub high : id < 16
  pub free : live m id ≡ false
  pub room : length m.cells ≡ 16

pub record Lives (id : ℕ) (m : Machine) : Type 0 where
  pub low : 1 ≤ id
  pub high : id < 16
  pub lives : live m id ≡ true

abbrev pub Can : CallKind → ℕ → Machine → Type 0
Can Disable target m = (j : ℕ) → 1 ≤ j → live (disabled m) j ≡ false
Can Create target m = Free target m
Can Start target m = Unit {0}
Can SetLoadable target m = Unit {0}
Can Destroy target m = Lives target m

module _ (k : ℕ) (below : k < 64) where
  effect-resets : (kind : CallKind) (target : ℕ) (new : CellConfig) (m : Machine) → Can kind target m → Resets k (counters_of k m) m (effect kind target new m)
  unfolding effect
  effect-resets Disable target new m can = disabled-resets k below m can
  effect-resets Create target new m can = created-resets k below target new m can.low can.high can.free can.room
  effect-resets Start target new m can = started-resets k below target m
  effect-resets SetLoadable target new m can = loadable-resets k below target m
  effect-resets Destroy target new m can = destroyed-resets k below target m can.low can.high can.lives

  -- an answer that is no word, and counters that are reset where the CPU changes hands
  pub record Goes (m : Machine) (s : Stepped) : Type 0 where
    pub heeded : is_unobeyed s.answer ≡ false
    pub resets : Resets k (counters_of k m) m s.machine

  pub waits-goes : (kind : CallKind) (stage : Stage) (code : ℕ) (m n : Machine) → Resets k (counters_of k m) m n → Goes m (wait_for kind stage code n)
  unfolding wait_for answered is_unobeyed
  waits-goes kind stage code m n r = record {
    heeded = refl;
    resets = resets-waiting k (counters_of k m) m _ (Some (kind, stage)) (resets-message k (counters_of k m) m n stage.cell _ r);
  }

  pub ends-goes : (z : ℤ) (m n : Machine) → Resets k (counters_of k m) m n → Goes m (finished z n)
  unfolding finished answered is_unobeyed
  ends-goes z m n r = record { heeded = refl; resets = resets-waiting k (counters_of k m) m n None r }

  still : (m : Machine) → Resets k (counters_of k m) m m
  still m = resets_none k (counters_of k m) m m refl refl

  ask-goes : (kind : CallKind) (target after : ℕ) (new : CellConfig) (m : Machine) → Can kind target m → Goes m (ask kind target after new m)
  ask-goes kind target after new m can =
      ask-cases (Goes m) kind target after new m
      (λ c l. waits-goes kind (asking target c 0) _ m m (still m))
      (λ locked. ends-goes EPERM m m (still m))
      (λ c l. waits-goes kind (telling target c 0) _ m _ (effect-resets kind target new m can))
      (λ n. ends-goes (pos n) m _ (effect-resets kind target new m can))

  -- a call, past the tables
  module _ (boot : SystemConfig) (cs : List Created) (m : Machine) (settled : Settled boot cs (table_of m)) where
    is_free : (id : ℕ) (new : CellConfig) → Fits (table_of m) id new → Free id m
    is_free id new f = record {
      low = let n : id ≡ 0 → ⊥ = f.other in omega arith;
      high = f.below;
      free = f.free;
      room = settled.sound.cells-room;
    }

    is-cell : (id : ℕ) → IsCell (table_of m) id → Lives id m
    is-cell id c = record { low = let n : id ≡ 0 → ⊥ = c.other in omega arith; high = settled.sound.few id c.lives; lives = c.lives }

    none_left : (j : ℕ) → 1 ≤ j → live (disabled m) j ≡ false
    unfolding has_cell
    none_left j l = (after_disable boot cs m settled).follows.lives j (λ q. omega arith)

    pub call-goes : (cpu code a1 a2 : ℕ) (bytes : List ℕ) → Goes m (call cpu code a1 a2 bytes m)
    unfolding answered is_unobeyed
    call-goes cpu code a1 a2 bytes =
        call-cases (Goes m) cpu code a1 a2 bytes m
        (record {
          at_once = λ z. record { heeded = refl; resets = still m };
          disables = λ e. ask-goes Disable root_id 0 (cell_of bytes) m none_left;
          creates = λ e may.
              ask-goes Create (free_id m) 0 (cell_of bytes) m
              (is_free (free_id m) (cell_of bytes) (fits m cpu bytes settled.sound may.valid may.free may.room));
          starts = λ e may. ask-goes Start a1 0 (cell_of bytes) m tt;
          loads = λ e may. ask-goes SetLoadable a1 0 (cell_of bytes) m tt;
          destroys = λ e may.
              ask-goes Destroy a1 0 (cell_of bytes) m
              (is-cell a1 (record { other = λ q. fails may.other (eq→eqb a1 0 q); lives = may.lives }));
        })

  -- a poll: what follows on the machine where the cell is heard, of the machine before it
  heard-resets : (stage : Stage) (m n : Machine) → Resets k (counters_of k (heard_at stage m)) (heard_at stage m) n → Resets k (counters_of k m) m n
  heard-resets stage m n =
      heard-cases (λ (h : Machine). Resets k (counters_of k h) h n → Resets k (counters_of k m) m n) stage m (λ r. r) (cut-resets k below stage.cell m n)

  -- the target of Destroy is the cell that it asked
  asked-can : (boot : SystemConfig) (cs : List Created) (m : Machine) → Settled boot cs (table_of m) → (kind : CallKind) (target cell : ℕ) → IsCell (table_of m) cell
      → asks kind target cell ≡ true → Can kind target m
  unfolding asks
  asked-can boot cs m s Disable target cell c e = none_left boot cs m s
  asked-can boot cs m s Create target cell c e = absurd (true≢false (sym e))
  asked-can boot cs m s Start target cell c e = tt
  asked-can boot cs m s SetLoadable target cell c e = tt
  asked-can boot cs m s Destroy target cell c e = is-cell boot cs m s target (subst (IsCell (table_of m)) (eqb-true cell target e) c)

  module _ (boot : SystemConfig) (cs : List Created) (m : Machine) (settled : Settled boot cs (table_of m)) where
    PollGoes : Stepped → Type 0
    PollGoes s = Resets k (counters_of k m) m s.machine

    unheard-goes : (kind : CallKind) (stage : Stage) → Resets k (counters_of k m) m (still_waits kind stage m)
    unfolding still_waits
    unheard-goes kind stage = resets-waiting k (counters_of k m) m m _ (still m)

    pub poll-goes : (w : Waiting) (new : CellConfig) → WaitsWell (table_of m) w → Resets k (counters_of k m) m (poll w new m).machine
    unfolding poll answered PollGoes cuts_off heard_at
    poll-goes None new well = still m
    poll-goes (Some (kind, stage)) new well = by-stage stage.telling refl
      where
        target : ℕ
        target = stage.target

        cell : ℕ
        cell = stage.cell

        heard : Machine
        heard = heard_at stage m

        -- it has the same table
        table : table_of heard ≡ table_of m
        table = heard-cases (λ (h : Machine). table_of h ≡ table_of m) stage m refl (cut-same cell m settled.sound.cpus-room)

        from-heard : (s : Stepped) → Goes heard s → PollGoes s
        from-heard s g = heard-resets stage m s.machine g.resets

        by-stage : (b : Bool) → stage.telling ≡ b → PollGoes (poll_cell kind (record { target = target; cell = cell; telling = b; polls = stage.polls }) new m)
        by-stage true e =
            poll-telling PollGoes kind target cell stage.polls new m (λ u. unheard-goes kind (telling target cell stage.polls))
            (λ c l. from-heard _ (waits-goes kind (telling target c 0) _ heard heard (still heard)))
            (λ n. from-heard _ (ends-goes (pos n) heard heard (still heard)))
        by-stage false e =
            let can = asked-can boot cs heard (subst (Settled boot cs) (sym table) settled) kind target cell (subst (λ (t : Table). IsCell t cell) (sym table) well.messaged.cell) (well.asked e) in
            poll-asking PollGoes kind target cell stage.polls new m (λ u. unheard-goes kind (asking target cell stage.polls))
            (from-heard _ (ends-goes EPERM heard heard (still heard)))
            (λ c l. from-heard _ (waits-goes kind (asking target c 0) _ heard heard (still heard)))
            (λ c l. from-heard _ (waits-goes kind (telling target c 0) _ heard _ (effect-resets kind target new heard can)))
            (λ n. from-heard _ (ends-goes (pos n) heard _ (effect-resets kind target new heard can)))
