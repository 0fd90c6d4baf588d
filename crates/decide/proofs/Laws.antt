-- Decisions on events that are no calls: a CPU or words that are kept stay as they are, and what is stored, counted or marked failed is what
-- the rule stores, counts and marks. Assumes nothing.
use mathlib.Core.Bool.{Bool, true, false, not, ◌&&◌}
use mathlib.Core.List.{List}
use mathlib.Core.Path.{◌≡◌, refl, sym, ap, ap₂, subst, ◌∙◌}
use mathlib.Core.Logic.{⊎_elim}
use Prim.Native.Nat.{ℕ, ◌+◌, ◌<◌, ◌≤◌}
use native.Mathlib.Omega.{arith}
use borrow.Author.Tests.{ltb-true, lt-ltb, le-ltb, eq-eqb, ne_eqb}
use lib.Dec.{ltb, eqb}
use lib.ListN.{length, set}
use Rattle.base.proofs.Tests.{fails, le-or-lt}
use lib.Seq.{set-get_or, set_out}
use Rattle.cell_record.specs.declared.CellConfig.{CellConfig}
use Rattle.machine_state.specs.declared.Answer.{Answer}
use Rattle.machine_state.specs.declared.Answer.TheVariants.{Done}
use Rattle.machine_state.specs.declared.CommRegion.{CommRegion}
use Rattle.machine_state.specs.declared.Cpu.{Cpu}
use Rattle.machine_state.specs.declared.Machine.{Machine}
use Rattle.machine_state.specs.declared.Stepped.{Stepped}
use Rattle.machine_state.specs.Machine.{past_cpu, max_cells, max_cpus}
use Rattle.rules.specs.State.{root_id, failed, is_final, cell_at, comm_at, state_at, cpu_at, with_waiting, with_comm, with_cpus, answered}
use Rattle.rules.specs.Effects.{counted, exit_counter, store_word, stored, with_state, fail_cpu, all_failed, cell_failed, faulted}
use Rattle.cpu_table.specs.declared.CpuChange.{CpuChange}
use Rattle.cpu_table.specs.CpuTable.{change_of, touched}
use Rattle.comms.specs.declared.WordsChange.TheVariants.{Store}
use Rattle.comms.specs.Comms.{words_of, words_at}
use Rattle.std.specs.Prelude.{None}
use Rattle.asking.specs.declared.Move.{Move}
use Rattle.asking.specs.Moves.{effect_of, moved, Moves, cut_off_at}
use Rattle.decide.specs.declared.Decision.{Decision}
use Rattle.decide.specs.Decide.{settled, Settles, cell_fails}

-- a decision by one rule is one by another that says the same
pub settles-as : {m : Machine} {new : CellConfig} {first after : Stepped} {d : Decision} → Settles m new first d → first ≡ after → Settles m new after d
settles-as s e = record { settles = s.settles ∙ e; cpu = s.cpu; cell = s.cell }

-- of a decision that is another
pub settles-at : {m : Machine} {new : CellConfig} {after : Stepped} {d known : Decision} → d ≡ known → Settles m new after known → Settles m new after d
settles-at {m} {new} {after} e s = subst (λ (x : Decision). Settles m new after x) (sym e) s

-- a CPU that is kept
pub kept-cpu : (cpu : ℕ) (m : Machine) → touched cpu CpuChange.Keep m ≡ m
unfolding touched change_of with_cpus
kept-cpu cpu m = ap (λ (cpus : List Cpu). with_cpus cpus m) (set-get_or m.cpus cpu past_cpu)

module _ (m : Machine) (new : CellConfig) where
  -- an answer, and nothing but one CPU's change
  pub only-cpu : (cpu : ℕ) (how : CpuChange) (answer : Answer) (mv : Move) → cpu < max_cpus
      → Moves (λ x. x.waiting ≡ m.waiting) (λ new x. answered answer x) mv
      → Settles m new (answered answer (touched cpu how m)) (record { cpu = cpu; touch = how; cut = None; moves = mv })
  unfolding settled cut_off_at touched with_cpus
  only-cpu cpu how answer mv h r = record { settles = r.moves (touched cpu how m) new refl; cpu = h; cell = r.place }

  pub leaves : (answer : Answer) (mv : Move) → Moves (λ x. x.waiting ≡ m.waiting) (λ new x. answered answer x) mv
      → Settles m new (answered answer m) (record { cpu = 0; touch = CpuChange.Keep; cut = None; moves = mv })
  leaves answer mv r = settles-as (only-cpu 0 CpuChange.Keep answer mv (omega arith) r) (ap (answered answer) (kept-cpu 0 m))

  pub exits : (cpu kind : ℕ) (mv : Move) → cpu < max_cpus → Moves (λ x. x.waiting ≡ m.waiting) (λ new x. answered Done x) mv
      → Settles m new (answered Done (counted (exit_counter kind) cpu m)) (record { cpu = cpu; touch = CpuChange.Count (kind + 1); cut = None; moves = mv })
  unfolding counted touched change_of
  exits cpu kind mv h r = only-cpu cpu (CpuChange.Count (kind + 1)) Done mv h r

  -- an answer, one CPU's change and one cell's words
  abbrev store_at : ℕ → ℕ → ℕ → Move
  store_at cell word value = record { answer = Done; effect = None; cell = cell; words = Store word value; waiting = m.waiting }

  stored_at : (how : CpuChange) (cpu cell word value : ℕ)
      → moved (store_at cell word value) new (touched cpu how m) ≡ answered Done (words_at cell (Store word value) (touched cpu how m))
  unfolding moved effect_of words_at with_comm with_waiting touched with_cpus
  stored_at how cpu cell word value = refl

  pub stores : (cpu word value : ℕ) → cpu < max_cpus → (cpu_at m cpu).cell < max_cells
      → Settles m new (answered Done (stored cpu word value m))
      (record { cpu = cpu; touch = CpuChange.Keep; cut = None; moves = store_at (cpu_at m cpu).cell word value })
  unfolding settled cut_off_at stored words_at words_of
  stores cpu word value h inside = record {
    settles = stored_at CpuChange.Keep cpu (cpu_at m cpu).cell word value
        ∙ ap (λ (x : Machine). answered Done (words_at (cpu_at m cpu).cell (Store word value) x)) (kept-cpu cpu m);
    cpu = h;
    cell = inside;
  }

-- ---- faults

module _ (id : ℕ) (m : Machine) where
  -- what is done by the test of a fault
  abbrev by-test : Bool → Machine
  by-test fails = elim fails as (λ x. Machine) [ true ↦ with_comm id (with_state failed (comm_at m id)) m | false ↦ m ]

  -- a cell past the table's end has no words to change
  pub past-cell : length m.comms ≤ id → cell_failed id m ≡ by-test false
  unfolding cell_failed with_comm
  past-cell h = go (not (eqb id root_id) && all_failed (cell_at m id).cpus m.cpus && not (is_final (comm_at m id).cell_state))
    where
      go : (b : Bool) → by-test b ≡ m
      go true = ap (λ (table : List CommRegion). record {
        power = m.power;
        system = m.system;
        pool_used = m.pool_used;
        live_ids = m.live_ids;
        root_cpus = m.root_cpus;
        cells = m.cells;
        comms = table;
        cpus = m.cpus;
        waiting = m.waiting;
      }) (set_out m.comms id (with_state failed (comm_at m id)) h)
      go false = refl

  -- of a cell of the table, the test is the rule's
  pub tested-cell : id < max_cells
      → cell_failed id m ≡ by-test (not (eqb id root_id) && ltb id max_cells && all_failed (cell_at m id).cpus m.cpus && not (is_final (state_at m id)))
  unfolding cell_failed
  tested-cell h =
      rw (lt-ltb id max_cells h)
      (ap by-test (known (not (eqb id root_id)) (all_failed (cell_at m id).cpus m.cpus) (not (is_final (state_at m id)))))
    where
      known : (a b c : Bool) → (a && b && c) ≡ (a && true && b && c)
      known true b c = refl
      known false b c = refl

module _ (cpu : ℕ) (m : Machine) where
  -- the machine with the CPU failed, and its cell by the test
  abbrev own-cell : ℕ
  own-cell = (cpu_at m cpu).cell

  abbrev others : Bool
  others = all_failed (cell_at m own-cell).cpus (set m.cpus cpu (fail_cpu (cpu_at m cpu)))

  pub by-fault : length m.comms ≡ max_cells → by-test own-cell (touched cpu CpuChange.Fail m) (cell_fails cpu m) ≡ faulted cpu m
  unfolding faulted touched change_of with_cpus cell_fails
  by-fault size = ⊎_elim past within (le-or-lt max_cells own-cell)
    where
      none : (a b c : Bool) → (a && false && b && c) ≡ false
      none true b c = refl
      none false b c = refl

      past : max_cells ≤ own-cell → by-test own-cell (touched cpu CpuChange.Fail m) (cell_fails cpu m) ≡ faulted cpu m
      past h =
          let short : length m.comms ≤ own-cell = omega (arith, size, h) in
          let no : cell_fails cpu m ≡ false =
          ap (λ (b : Bool). not (eqb own-cell root_id) && b && others && not (is_final (state_at m own-cell))) (le-ltb own-cell max_cells h)
          ∙ none (not (eqb own-cell root_id)) others (not (is_final (state_at m own-cell))) in
          ap (by-test own-cell (touched cpu CpuChange.Fail m)) no ∙ sym (past-cell own-cell (touched cpu CpuChange.Fail m) short)

      within : own-cell < max_cells → by-test own-cell (touched cpu CpuChange.Fail m) (cell_fails cpu m) ≡ faulted cpu m
      within h = sym (tested-cell own-cell (touched cpu CpuChange.Fail m) h)

  -- a cell that fails is in the table
  pub fails-inside : cell_fails cpu m ≡ true → own-cell < max_cells
  unfolding cell_fails
  fails-inside e = ltb-true own-cell max_cells (second (not (eqb own-cell root_id)) (ltb own-cell max_cells) others (not (is_final (state_at m own-cell))) e)
    where
      second : (a b c d : Bool) → (a && b && c && d) ≡ true → b ≡ true
      second true true c d e = refl
      second true false c d e = absurd (fails {b = true} (sym e) tt)
      second false b c d e = absurd (fails {b = true} (sym e) tt)

  -- the test of the code is the definition's
  pub past-table : max_cells ≤ own-cell → false ≡ cell_fails cpu m
  unfolding cell_fails
  past-table h =
      sym (ap (λ (b : Bool). not (eqb own-cell root_id) && b && others && not (is_final (state_at m own-cell))) (le-ltb own-cell max_cells h)
      ∙ none (not (eqb own-cell root_id)) others (not (is_final (state_at m own-cell))))
    where
      none : (a b c : Bool) → (a && false && b && c) ≡ false
      none true b c = refl
      none false b c = refl

  -- its first two tests, of which the second is asked where the first holds
  pub cell-by : (own-cell ≡ 0 → ⊥) → (all both : Bool) → all ≡ others → both ≡ all → both ≡ (not (eqb own-cell root_id) && others)
  cell-by n all both e q = q ∙ e ∙ sym (ap (λ (b : Bool). not b && others) (ne_eqb own-cell root_id n))

  pub root-by : own-cell ≡ 0 → (both : Bool) → both ≡ not (eqb own-cell root_id) → both ≡ (not (eqb own-cell root_id) && others)
  root-by z both q = q ∙ ap not (eq-eqb own-cell root_id z) ∙ sym (ap (λ (b : Bool). not b && others) (eq-eqb own-cell root_id z))

  module _ (inside : own-cell < max_cells) (both : Bool) (is : both ≡ (not (eqb own-cell root_id) && others)) where
    by-final : (final : Bool) → final ≡ is_final (state_at m own-cell) → (both && not final) ≡ cell_fails cpu m
    unfolding cell_fails
    by-final final f =
        ap₂ (λ (x y : Bool). x && not y) is f
        ∙ known (not (eqb own-cell root_id)) others (not (is_final (state_at m own-cell)))
        ∙ sym (ap (λ (b : Bool). not (eqb own-cell root_id) && b && others && not (is_final (state_at m own-cell))) (lt-ltb own-cell max_cells inside))
      where
        known : (a b c : Bool) → ((a && b) && c) ≡ (a && true && b && c)
        known true b c = refl
        known false b c = refl

    pub all-failed : both ≡ true → (final : Bool) → final ≡ is_final (state_at m own-cell) → not final ≡ cell_fails cpu m
    all-failed t final f = sym (ap (λ (b : Bool). b && not final) t) ∙ by-final final f

    pub one-works : both ≡ false → both ≡ cell_fails cpu m
    one-works t = t ∙ sym (ap (λ (b : Bool). b && not (is_final (state_at m own-cell))) t) ∙ by-final _ refl

module _ (m : Machine) (new : CellConfig) (cpu : ℕ) (inside : cpu < max_cpus) (size : length m.comms ≡ max_cells) where
  pub faults : (mv : Move) → cell_fails cpu m ≡ false → Moves (λ x. x.waiting ≡ m.waiting) (λ new x. answered Done x) mv
      → Settles m new (answered Done (faulted cpu m)) (record { cpu = cpu; touch = CpuChange.Fail; cut = None; moves = mv })
  faults mv z r =
      settles-as (only-cpu m new cpu CpuChange.Fail Done mv inside r)
      (ap (answered Done) (ap (by-test (cpu_at m cpu).cell (touched cpu CpuChange.Fail m)) (sym z) ∙ by-fault cpu m size))

  pub fails-cell : cell_fails cpu m ≡ true
      → Settles m new (answered Done (faulted cpu m))
      (record { cpu = cpu; touch = CpuChange.Fail; cut = None; moves = store_at m new (cpu_at m cpu).cell 2 failed })
  unfolding settled cut_off_at words_at words_of store_word touched with_cpus
  fails-cell t = record {
    settles = stored_at m new CpuChange.Fail cpu (cpu_at m cpu).cell 2 failed
        ∙ ap (answered Done) (ap (by-test (cpu_at m cpu).cell (touched cpu CpuChange.Fail m)) (sym t) ∙ by-fault cpu m size);
    cpu = inside;
    cell = fails-inside cpu m t;
  }
