-- The claims about CPU owners, the pool and live cells follow from the agreement of machine and history in every state reached. A CPU's owner is
-- found by one search through the cells, which names the one cell that has it, or none. Assumes nothing.
use Rattle.std.proofs.Common.{◌≡◌, refl, sym, ap, ◌∙◌, subst, Bool, true, false, not, ◌&&◌, ◌||◌, true≢false, inl, inr, [], ℕ, ◌+◌, ◌≤◌, mod-eq_of_lt, arith, ltb, eqb, le→leb, eq-eqb, eqb-true, ne_eqb, None, Some}
use Rattle.std.proofs.lemmas.Bool.{and_from, and_parts, both_ways}
use Rattle.std.proofs.Math.Decide.{ℕ_discrete}
use Rattle.base.specs.Lists.{any}
use Rattle.base.proofs.Tests.{holds, fails, is_true, eq→eqb, equal-tests}
use Rattle.cpu_set.specs.CpuSet.{member}
use Rattle.regions.specs.Regions.{comm}
use Rattle.system_record.specs.declared.SystemConfig.{SystemConfig}
use Rattle.cell_record.specs.declared.CellConfig.{CellConfig}
use Rattle.cell_record.specs.CellRecord.{cell_regions}
use Rattle.machine_state.specs.declared.Power.TheVariants.{Disabled}
use Rattle.machine_state.specs.Machine.{Waiting}
use Rattle.machine_state.specs.declared.Machine.{Machine}
use Rattle.rules.specs.State.{cell_at, cpu_at, cell_ids, no_id, first, live, or_root, named_by, cpu_owner, waits, waited_for}
use Rattle.rules.specs.Unobeyed.{is_on}
use Rattle.rules.specs.Step.{step}
use Rattle.rules.proofs.Ids.{Search, first-from, first-same}
use Rattle.history.specs.History.{History, has_cell, record_brought}
use Rattle.reached.specs.Kept.{kept}
use Rattle.reached.specs.Owners.{names, cpu_owner_in, cpus_of, OneOwner, OneOwnerAlways}
use Rattle.reached.specs.Pool.{costs, PoolFigure, PoolFigureAlways}
use Rattle.reached.specs.LiveCells.{LiveCells, LiveCellsAlways}
use Rattle.reached.proofs.Members.{chosen, passed}
use Rattle.reached.proofs.Table.{Table, table_of}
use Rattle.reached.proofs.Sound.{IsCell, Names, Sound, subset-member}
use Rattle.reached.proofs.Cells.{costs-without}
use Rattle.reached.proofs.Walk.{WaitsWell, Agrees}
use Rattle.reached.proofs.Runs.{reached-agrees}

module _ (boot : SystemConfig) (h : History) (m : Machine) (a : Agrees boot h m) where
  abbrev t : Table
  t = table_of m

  s : Sound t
  s = a.settled.sound

  abbrev Has : ℕ → Type 0
  Has id = has_cell id h.cells ≡ true

  -- ---- cells of the history are the live cells other than root

  not-zero : (id : ℕ) → Has id → id ≡ 0 → ⊥
  not-zero id e q = both_ways _ (ap (λ (n : ℕ). has_cell n h.cells) q ∙ a.settled.follows.no-root) e

  is-cell : (id : ℕ) → Has id → IsCell t id
  is-cell id e = record { other = not-zero id e; lives = a.settled.follows.lives id (not-zero id e) ∙ e }

  has-cell : (id : ℕ) → IsCell t id → Has id
  has-cell id c = sym (a.settled.follows.lives id c.other) ∙ c.lives

  config : (id : ℕ) → Has id → kept m id ≡ record_brought id h.cells
  config id e = a.settled.follows.records id e

  -- ---- names

  named : (cpu id : ℕ) → names h cpu id ≡ true → IsCell t id × Names (kept m id) cpu
  unfolding names
  named cpu id e =
      let parts : Has id × (member cpu (record_brought id h.cells).cpus ≡ true) = and_parts (has_cell id h.cells) _ e in
      (is-cell id parts.0, subst (λ (c : CellConfig). Names c cpu) (sym (config id parts.0)) parts.1)

  names-it : (cpu id : ℕ) → IsCell t id → Names (kept m id) cpu → names h cpu id ≡ true
  unfolding names
  names-it cpu id c n = and_from _ _ (has-cell id c) (subst (λ (c : CellConfig). Names c cpu) (config id (has-cell id c)) n)

  one : (cpu i j : ℕ) → names h cpu i ≡ true → names h cpu j ≡ true → i ≡ j
  one cpu i j e f = go (ℕ_discrete i j)
    where
      go : Dec (i ≡ j) → i ≡ j
      go (yes q) = q
      go (no q) = absurd ((s.apart i j (named cpu i e).0 (named cpu j f).0 q).cpus cpu (named cpu i e).1 (named cpu j f).1)

  -- ---- the owner

  -- it is a cell that names the CPU, or root where none does
  data Owner (cpu : ℕ) : Type 0 where
    cell : (id : ℕ) → cpu_owner_in h cpu ≡ id → names h cpu id ≡ true → Owner cpu
    root : cpu_owner_in h cpu ≡ 0 → ((i : ℕ) → IsCell t i → Names (kept m i) cpu → ⊥) → Owner cpu

  owner : (cpu : ℕ) → Owner cpu
  unfolding cpu_owner_in or_root
  owner cpu = go (first-from (names h cpu) 1 15)
    where
      go : Search (names h cpu) 1 15 (first (names h cpu) cell_ids) → Owner cpu
      go (inl f) = cell (first (names h cpu) cell_ids) (chosen _ _ (is_true (ltb (first (names h cpu) cell_ids) no_id) (le→leb _ _ f.high))) f.passes
      go (inr f) =
          root (ap or_root f.1)
          (λ i c n. let low : 1 ≤ i = positive i c.other in both_ways _ (f.0 i low (s.few i c.lives)) (names-it cpu i c n))
        where
          positive : (i : ℕ) → (i ≡ 0 → ⊥) → 1 ≤ i
          positive i n = omega arith

  abbrev Started : ℕ → Type 0
  Started cpu = member cpu boot.cpus ≡ true

  -- the machine's own boot set is the record's
  boot-set : (cpu : ℕ) → member cpu m.system.cpus ≡ member cpu boot.cpus
  boot-set cpu = ap (λ (c : SystemConfig). member cpu c.cpus) a.settled.follows.booted

  of-root : (cpu : ℕ) → Started cpu → ((i : ℕ) → IsCell t i → Names (kept m i) cpu → ⊥) → t.root_has cpu ≡ true
  of-root cpu b none = s.root-rest cpu (boot-set cpu ∙ b) none

  says : (cpu : ℕ) → Started cpu → (cpu_at m cpu).cell ≡ cpu_owner_in h cpu
  says cpu b = go (owner cpu)
    where
      go : Owner cpu → (cpu_at m cpu).cell ≡ cpu_owner_in h cpu
      go (cell id e n) = s.cell-owns cpu id (named cpu id n).0 (named cpu id n).1 ∙ sym e
      go (root e none) = s.root-owns cpu (of-root cpu b none) ∙ sym e

  read : (cpu : ℕ) → cpu_owner m cpu ≡ cpu_owner_in h cpu
  unfolding cpu_owner cpu_owner_in named_by names
  read cpu = ap or_root (first-same (named_by m cpu) (names h cpu) 1 15 same)
    where
      same : (id : ℕ) → 1 ≤ id → named_by m cpu id ≡ names h cpu id
      same id l = go (has_cell id h.cells) refl
        where
          lives : live m id ≡ has_cell id h.cells
          lives = a.settled.follows.lives id (λ q. omega arith)

          go : (b : Bool) → has_cell id h.cells ≡ b → (live m id && member cpu (cell_at m id).cpus) ≡ (has_cell id h.cells && member cpu (record_brought id h.cells).cpus)
          go true e =
              ap (λ (b : Bool). b && member cpu (cell_at m id).cpus) lives
              ∙ ap (λ (c : CellConfig). has_cell id h.cells && member cpu c.cpus) (config id e)
          go false e = ap (λ (b : Bool). b && member cpu (cell_at m id).cpus) (lives ∙ e) ∙ sym (ap (λ (b : Bool). b && member cpu (record_brought id h.cells).cpus) e)

  -- ---- each cell's set

  root-set : (cpu : ℕ) → member cpu m.root_cpus ≡ (member cpu boot.cpus && eqb (cpu_owner_in h cpu) 0)
  root-set cpu = equal-tests _ _ (λ x. holds (there (is_true _ x))) (λ x. holds (back (and_parts (member cpu boot.cpus) _ (is_true _ x)) (owner cpu)))
    where
      there : t.root_has cpu ≡ true → (member cpu boot.cpus && eqb (cpu_owner_in h cpu) 0) ≡ true
      there r =
          let b : Started cpu = sym (boot-set cpu) ∙ s.root-started cpu r in
          and_from _ _ b (ap (λ (n : ℕ). eqb n 0) (sym (says cpu b) ∙ s.root-owns cpu r))

      back : Started cpu × (eqb (cpu_owner_in h cpu) 0 ≡ true) → Owner cpu → t.root_has cpu ≡ true
      back e (cell id q n) = absurd ((named cpu id n).0.other (sym q ∙ eqb-true (cpu_owner_in h cpu) 0 e.1))
      back e (root q none) = of-root cpu e.0 none

  cell_set : (id cpu : ℕ) → IsCell t id → member cpu (cell_at m id).cpus ≡ (member cpu boot.cpus && eqb (cpu_owner_in h cpu) id)
  cell_set id cpu c = equal-tests _ _ (λ x. holds (there (is_true _ x))) (λ x. holds (back (and_parts (member cpu boot.cpus) _ (is_true _ x)) (owner cpu)))
    where
      there : Names (kept m id) cpu → (member cpu boot.cpus && eqb (cpu_owner_in h cpu) id) ≡ true
      there n =
          let b : Started cpu = sym (boot-set cpu) ∙ subset-member _ _ cpu (s.valid id c).started n in
          and_from _ _ b (ap (λ (x : ℕ). eqb x id) (sym (says cpu b) ∙ s.cell-owns cpu id c n) ∙ eq-eqb id id refl)

      back : Started cpu × (eqb (cpu_owner_in h cpu) id ≡ true) → Owner cpu → Names (kept m id) cpu
      back e (cell i q n) = subst (λ (x : ℕ). Names (kept m x) cpu) (sym q ∙ eqb-true (cpu_owner_in h cpu) id e.1) (named cpu i n).1
      back e (root q none) = absurd (c.other (sym (eqb-true (cpu_owner_in h cpu) id e.1) ∙ q))

  sets : (id cpu : ℕ) → live m id ≡ true → member cpu (cpus_of m id) ≡ (member cpu boot.cpus && eqb (cpu_owner_in h cpu) id)
  unfolding cpus_of
  sets id cpu l = go (eqb id 0) refl
    where
      go : (b : Bool) → eqb id 0 ≡ b → member cpu (cpus_of m id) ≡ (member cpu boot.cpus && eqb (cpu_owner_in h cpu) id)
      go true e =
          ap (member cpu) (chosen _ _ e) ∙ root-set cpu
          ∙ ap (λ (n : ℕ). member cpu boot.cpus && eqb (cpu_owner_in h cpu) n) (sym (eqb-true id 0 e))
      go false e = ap (member cpu) (passed _ _ e) ∙ cell_set id cpu (record { other = λ q. fails e (eq→eqb id 0 q); lives = l })

  one-owner : OneOwner boot h m
  one-owner = record { one = one; says = says; read = read; sets = sets; brought = λ id e. ap (λ (c : CellConfig). c.cpus) (config id e) }

  -- ---- the pool

  sum : m.pool_used ≡ boot.pool.used + costs h.cells
  sum = a.settled.follows.pool ∙ ap (λ (c : SystemConfig). c.pool.used + costs h.cells) a.settled.follows.booted

  pages : m.system.pool.pages ≡ boot.pool.pages
  pages = ap (λ (c : SystemConfig). c.pool.pages) a.settled.follows.booted

  pool-figure : PoolFigure boot h m
  unfolding costs
  pool-figure = record {
    sum = sum;
    within = subst (λ (n : ℕ). m.pool_used ≤ n) pages s.pool-fits;
    no_sum_wraps = λ n e. mod-eq_of_lt (omega (arith, e, pages, s.pool-small));
    no_difference_wraps = λ id e. omega (arith, sum, costs-without id h.cells a.settled.follows.distinct e);
    after_disable = λ e.
        let none : h.cells ≡ [] = a.settled.follows.off (ap is_on e ∙ off) in
        let nothing : costs h.cells ≡ 0 = ap costs none in
        omega (arith, sum);
  }
    where
      off : is_on Disabled ≡ false
      off = refl

  -- ---- live cells

  waiting-cell : (w : Waiting) → WaitsWell t w → waits w ≡ true → IsCell t (waited_for w) × ((kept m (waited_for w)).passive ≡ false)
  unfolding waited_for
  waiting-cell None x e = absurd (true≢false (sym e))
  waiting-cell (Some (kind, stage)) x e = (x.messaged.cell, x.messaged.active-one)

  waits-at : (w : Waiting) → WaitsWell t w → waits w ≡ not (eqb (waited_for w) 0)
  unfolding waited_for
  waits-at None x = refl
  waits-at (Some (kind, stage)) x = sym (ap not (ne_eqb _ _ x.messaged.cell.other))

  waited : waits m.waiting ≡ true → IsCell t h.waits_for × ((kept m h.waits_for).passive ≡ false)
  waited e = subst (λ (n : ℕ). IsCell t n × ((kept m n).passive ≡ false)) a.waited (waiting-cell m.waiting a.waits e)

  live-cells : LiveCells boot h m
  live-cells = record {
    lives = λ id. go id (eqb id 0) refl;
    records = config;
    regions = λ id e. s.with-region id (is-cell id e) ∙ ap (λ (c : CellConfig). any comm (cell_regions c)) (config id e);
    system = a.settled.follows.booted;
    waiting = waits-at m.waiting a.waits ∙ ap (λ (n : ℕ). not (eqb n 0)) a.waited;
    cell = a.waited;
    not_root = a.settled.follows.no-root;
    waited = λ e. has-cell h.waits_for (waited e).0;
    messaged = λ e. ap (λ (c : CellConfig). c.passive) (sym (config h.waits_for (has-cell h.waits_for (waited e).0))) ∙ (waited e).1;
  }
    where
      go : (id : ℕ) (b : Bool) → eqb id 0 ≡ b → live m id ≡ (eqb id 0 || has_cell id h.cells)
      go id true e = ap (live m) (eqb-true id 0 e) ∙ s.root-lives ∙ sym (ap (λ (b : Bool). b || has_cell id h.cells) e)
      go id false e = a.settled.follows.lives id (λ q. fails e (eq→eqb id 0 q)) ∙ sym (ap (λ (b : Bool). b || has_cell id h.cells) e)

-- ---- in every state reached

pub owners : OneOwnerAlways step
owners bytes e ls = one-owner _ _ _ (reached-agrees bytes e ls)

pub pool : PoolFigureAlways step
pool bytes e ls = pool-figure _ _ _ (reached-agrees bytes e ls)

pub cells : LiveCellsAlways step
cells bytes e ls = live-cells _ _ _ (reached-agrees bytes e ls)
