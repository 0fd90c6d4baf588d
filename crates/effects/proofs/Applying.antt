-- A decision's effects applied part by part: each part, stored, and what is left after it, make the machine that all of it makes. Disable's parts
-- are the lowest live cell destroyed, again and again, and then the machine switched off. Assumes nothing.
use Rattle.std.proofs.Common.{◌≡◌, ℕ, ◌<◌, ◌≤◌, Bool, true, false, not, ◌&&◌, eqb, ◌⊎◌, List, [], ◌∷◌, length, sym, refl, ap, ◌∙◌, subst, inl, inr, arith, Option, None, Some, le-ltb, lt-ltb, eq-eqb}
use mathlib.Core.Bool.{and-false}
use Rattle.base.specs.Lists.{from, up_to}
use Rattle.base.proofs.Tests.{holds, fails}
use Rattle.cpu_set.specs.CpuSet.{member, without}
use Rattle.cell_record.specs.declared.CellConfig.{CellConfig}
use Rattle.machine_state.specs.declared.Cpu.{Cpu}
use Rattle.machine_state.specs.declared.CommRegion.{CommRegion}
use Rattle.machine_state.specs.declared.Cell.{Cell}
use Rattle.machine_state.specs.declared.CallKind.{CallKind}
use Rattle.machine_state.specs.declared.CallKind.TheVariants.{Disable, Create, Start, SetLoadable, Destroy}
use Rattle.machine_state.specs.declared.Power.TheVariants.{Disabled}
use Rattle.machine_state.specs.declared.Machine.{Machine}
use Rattle.machine_state.specs.Machine.{max_cells, max_cpus}
use Rattle.rules.specs.State.{root_id, some_id, cell_at, comm_at, cpu_at, cell_ids, no_id, first, has_id, live, failed, with_power, with_pool, with_ids, with_comm, with_cpu, with_cpus}
use Rattle.rules.specs.Effects.{drop_id, with_state, cpus_changed, cell_cut_off, cell_destroyed, all_destroyed, disabled, effect}
use Rattle.rules.proofs.SomeIds.{is-some, is-none}
use Rattle.rules.proofs.Ids.{Found, NonePass, has_id-lt, has-dropped, first-from, first-same}
use Rattle.cpu_table.specs.declared.CpuChange.{CpuChange}
use Rattle.cpu_table.specs.CpuTable.{change_of}
use Rattle.cpu_table.proofs.Walk.{walk_none, walk_turn}
use Rattle.id_set.specs.Ids.{Lowest}
use Rattle.id_set.proofs.Ids.{drop-less}
use Rattle.asking.specs.Moves.{Effect, effect_of, cut_off_at}
use Rattle.effects.specs.declared.Figures.{Figures}
use Rattle.effects.specs.declared.Numbers.{Numbers}
use Rattle.effects.specs.Parts.{is_disable, figures_of, parts_stored, cpus_after}
use Rattle.effects.specs.Applying.{remaining, Uncut, rest_of, effect_parts, OneCell, SwitchedOff}
use Rattle.effects.proofs.Laws.{numbers_there, cell_there, words_there, stored-is-effect}

-- ---- Disable: the first live cell destroyed, and then the rest of them

destroyed-live : (id : ℕ) (m : Machine) (k : ℕ) → live (cell_destroyed id m) k ≡ (not (eqb k id) && live m k)
unfolding cell_destroyed with_pool with_ids
destroyed-live id m k = has-dropped id m.live_ids k

module _ (m : Machine) where
  skip : (id : ℕ) (ids : List ℕ) (x : Machine) → live x id ≡ false → all_destroyed (id ∷ ids) x ≡ all_destroyed ids x
  unfolding all_destroyed
  skip id ids x e = rw (e, all_destroyed)

  take_out : (id : ℕ) (ids : List ℕ) → live m id ≡ true → all_destroyed (id ∷ ids) m ≡ all_destroyed ids (cell_destroyed id m)
  unfolding all_destroyed
  take_out id ids e = rw (e, all_destroyed)

  first-here : (id : ℕ) (ids : List ℕ) → live m id ≡ true → first (live m) (id ∷ ids) ≡ id
  unfolding first
  first-here id ids e = rw (e, first)

  first-later : (id : ℕ) (ids : List ℕ) → live m id ≡ false → first (live m) (id ∷ ids) ≡ first (live m) ids
  unfolding first
  first-later id ids e = rw (e, first)

  -- the first live cell of a list destroyed before the others
  first-destroyed : (ids : List ℕ) (id : ℕ) → id ≡ first (live m) ids → id < no_id → all_destroyed ids (cell_destroyed id m) ≡ all_destroyed ids m
  unfolding first
  first-destroyed [] id e h = absurd (omega arith)
  first-destroyed (k ∷ ids) id e h = go (live m k) refl (first-destroyed ids id)
    where
      go : (b : Bool) → live m k ≡ b → (id ≡ first (live m) ids → id < no_id → all_destroyed ids (cell_destroyed id m) ≡ all_destroyed ids m)
          → all_destroyed (k ∷ ids) (cell_destroyed id m) ≡ all_destroyed (k ∷ ids) m
      go true t later =
          let here = e ∙ first-here k ids t in
          skip k ids (cell_destroyed id m) (destroyed-live id m k ∙ ap (λ (b : Bool). not b && live m k) (eq-eqb k id (sym here)))
          ∙ ap (λ (x : ℕ). all_destroyed ids (cell_destroyed x m)) here ∙ sym (take_out k ids t)
      go false t later =
          skip k ids (cell_destroyed id m) (destroyed-live id m k ∙ ap (λ (b : Bool). not (eqb k id) && b) t ∙ and-false (not (eqb k id)))
          ∙ later (e ∙ first-later k ids t) h ∙ sym (skip k ids m t)

  none-destroyed : (ids : List ℕ) → first (live m) ids ≡ no_id → all_destroyed ids m ≡ m
  unfolding all_destroyed
  none-destroyed [] e = refl
  none-destroyed (k ∷ ids) e = go (live m k) refl (none-destroyed ids)
    where
      go : (b : Bool) → live m k ≡ b → (first (live m) ids ≡ no_id → all_destroyed ids m ≡ m) → all_destroyed (k ∷ ids) m ≡ m
      go true t later =
          let low = has_id-lt m.live_ids k (holds t) in
          let past = sym (first-here k ids t) ∙ e in
          absurd (omega arith)
      go false t later = skip k ids m t ∙ later (sym (first-later k ids t) ∙ e)

-- the lowest ID of a set without root's is the first of the others
module _ (ids : ℕ) where
  abbrev others : ℕ → Bool
  others k = not (eqb k root_id) && has_id ids k

  past-root : first others (up_to max_cells) ≡ first (has_id ids) cell_ids
  unfolding first from
  past-root = refl

  lowest-first : (r : Option ℕ) → Lowest (drop_id root_id ids) r → some_id (first (has_id ids) cell_ids) ≡ r
  lowest-first r low =
      sym (low.is ∙ ap some_id (first-same (has_id (drop_id root_id ids)) others 0 max_cells (λ k h. has-dropped root_id ids k) ∙ past-root))

-- ---- the next part of an effect

is_all : (kind : CallKind) → is_disable kind ≡ true → kind ≡ Disable
is_all Disable e = refl
is_all Create e = absurd (fails (sym e) tt)
is_all Start e = absurd (fails (sym e) tt)
is_all SetLoadable e = absurd (fails (sym e) tt)
is_all Destroy e = absurd (fails (sym e) tt)

-- a change of its own cell is all of an effect that is not Disable's
pub own-cell : (kind : CallKind) (id ids : ℕ) → is_disable kind ≡ false → OneCell (Some (kind, id)) ids kind id
unfolding effect_of effect_parts
own-cell Disable id ids e = absurd (fails {b = true} e tt)
own-cell Create id ids e = record { one = refl; whole = λ new m q. refl; less = λ t f pool root. omega arith }
own-cell Start id ids e = record { one = refl; whole = λ new m q. refl; less = λ t f pool root. omega arith }
own-cell SetLoadable id ids e = record { one = refl; whole = λ new m q. refl; less = λ t f pool root. omega arith }
own-cell Destroy id ids e = record { one = refl; whole = λ new m q. refl; less = λ t f pool root. omega arith }

module _ (kind : CallKind) (id ids : ℕ) (r : Option ℕ) (all : is_disable kind ≡ true) (low : Lowest (drop_id root_id ids) r) where
  same-live : (m : Machine) → m.live_ids ≡ ids → first (has_id ids) cell_ids ≡ first (live m) cell_ids
  same-live m e = ap (λ (n : ℕ). first (has_id n) cell_ids) (sym e)

  -- of Disable the lowest live cell is destroyed
  pub lowest-cell : (next : ℕ) → r ≡ Some next → OneCell (Some (kind, id)) ids Destroy next
  unfolding effect_of effect_parts effect disabled
  lowest-cell next e =
      let found = is-some (first (has_id ids) cell_ids) next (lowest-first ids r low ∙ e) in
      let here = found.0 in
      let h = found.1 in
      subst (λ (k : CallKind). OneCell (Some (k, id)) ids Destroy next) (sym (is_all kind all))
      (record {
        one = refl;
        whole = λ new m e. ap (with_power Disabled) (first-destroyed m cell_ids next (sym here ∙ same-live m e) h);
        less = λ t f pool root. let l = drop-less next ids h (has-it here h (first-from (has_id ids) 1 15)) in omega arith;
      })
    where
      has-it : first (has_id ids) cell_ids ≡ next → next < no_id
          → Found (has_id ids) 1 15 (first (has_id ids) cell_ids) ⊎ (NonePass (has_id ids) 1 15 × (first (has_id ids) cell_ids ≡ no_id)) → has_id ids next ≡ true
      has-it here h (inl f) = ap (has_id ids) (sym here) ∙ f.passes
      has-it here h (inr f) = let past = sym here ∙ f.1 in absurd (omega arith)

  -- and with none left it is switched off
  pub none_left : r ≡ None → SwitchedOff (Some (kind, id)) ids
  unfolding effect_of effect_parts effect disabled
  none_left e =
      let past = is-none (first (has_id ids) cell_ids) (lowest-first ids r low ∙ e) in
      subst (λ (k : CallKind). SwitchedOff (Some (k, id)) ids) (sym (is_all kind all))
      (record {
        whole = λ new m e. ap (with_power Disabled) (sym (none-destroyed m cell_ids (sym (same-live m e) ∙ at-end past (first-from (has_id ids) 1 15))));
        less = omega arith;
      })
    where
      at-end : no_id ≤ first (has_id ids) cell_ids
          → Found (has_id ids) 1 15 (first (has_id ids) cell_ids) ⊎ (NonePass (has_id ids) 1 15 × (first (has_id ids) cell_ids ≡ no_id)) → first (has_id ids) cell_ids ≡ no_id
      at-end past (inl f) = absurd (omega (arith, f.high))
      at-end past (inr f) = f.1

-- ---- what is left to be applied, after each part

-- with none left to be cut off no cell is
pub uncut-stays : (cut : Option ℕ) (m : Machine) → Uncut cut → cut_off_at cut m ≡ m
unfolding cut_off_at Uncut
uncut-stays None m h = refl
uncut-stays (Some cut) m h = ap (λ (b : Bool). elim b as (λ x. Machine) [ true ↦ cell_cut_off cut m | false ↦ m ]) (le-ltb cut max_cells h)

-- a cell of the table is cut off
pub cut-stands : (cut : ℕ) (m : Machine) → cut < max_cells → cut_off_at (Some cut) m ≡ cell_cut_off cut m
unfolding cut_off_at
cut-stands cut m h = ap (λ (b : Bool). elim b as (λ x. Machine) [ true ↦ cell_cut_off cut m | false ↦ m ]) (lt-ltb cut max_cells h)

module _ (m : Machine) (size : length m.cpus ≡ max_cpus) where
  -- no CPU is to be changed
  no-cpus : (f : Cpu → Cpu) → cpus_changed 0 f m ≡ m
  unfolding cpus_changed with_cpus
  no-cpus f = λ i. record {
    power = m.power;
    system = m.system;
    pool_used = m.pool_used;
    live_ids = m.live_ids;
    root_cpus = m.root_cpus;
    cells = m.cells;
    comms = m.comms;
    cpus = walk_none f m.cpus size i;
    waiting = m.waiting;
  }

  module _ (how : CpuChange) (cut : Option ℕ) (e : Effect) (new : CellConfig) where
    -- one CPU
    pub cpu-applied : (cpus rest one k : ℕ) (p : Cpu) → rest ≡ without cpus one → ((j : ℕ) → j < max_cpus → member j one ≡ eqb j k)
        → (k < max_cpus) × (member k cpus ≡ true) → p ≡ change_of how (cpu_at m k)
        → remaining rest how cut e new (with_cpu k p m) ≡ remaining cpus how cut e new m
    unfolding remaining cpus_changed with_cpus
    cpu-applied cpus rest one k p is_rest is_one is is_cpu =
        ap (λ (table : List Cpu). effect_of e new (cut_off_at cut (with_cpus table m)))
        (walk_turn cpus rest one k is_rest is_one is.0 is.1 (change_of how) m.cpus p size is_cpu)

    module _ (cpus : ℕ) (none : cpus ≡ 0) where
      pub only-rest : remaining cpus how cut e new m ≡ effect_of e new (cut_off_at cut m)
      unfolding remaining
      only-rest = ap (λ (n : ℕ). remaining n how cut e new m) none ∙ ap (λ (x : Machine). effect_of e new (cut_off_at cut x)) (no-cpus (change_of how))

      -- a cell cut off
      pub cut-applied : (cell : ℕ) (after : Option ℕ) (w : CommRegion) → cut ≡ Some cell → cell < max_cells → Uncut after → w ≡ with_state failed (comm_at m cell)
          → remaining (cell_at m cell).cpus CpuChange.Stop after e new (with_comm cell w m) ≡ remaining cpus how cut e new m
      unfolding remaining cell_cut_off change_of with_comm
      cut-applied cell after w is inside past is_words =
          ap (effect_of e new) (uncut-stays after (cut-words w) past)
          ∙ ap (λ (x : CommRegion). effect_of e new (cut-words x)) is_words
          ∙ ap (effect_of e new) (sym (cut-stands cell m inside))
          ∙ ap (λ (x : Option ℕ). effect_of e new (cut_off_at x m)) (sym is)
          ∙ sym only-rest
        where
          cut-words : CommRegion → Machine
          cut-words x = cpus_changed (cell_at m cell).cpus (change_of CpuChange.Stop) (with_comm cell x m)

      module _ (uncut : Uncut cut) where
        only-effect : remaining cpus how cut e new m ≡ effect_of e new m
        only-effect = only-rest ∙ ap (effect_of e new) (uncut-stays cut m uncut)

        -- nothing more
        pub all-applied : e ≡ None → remaining cpus how cut e new m ≡ m
        unfolding effect_of
        all-applied is = only-effect ∙ ap (λ (x : Effect). effect_of x new m) is

module _ (m : Machine) (size : length m.cpus ≡ max_cpus) (how : CpuChange) (cut : Option ℕ) (e : Effect) (new : CellConfig) (cpus : ℕ) (none : cpus ≡ 0)
    (uncut : Uncut cut) (ids : ℕ) (is_ids : m.live_ids ≡ ids) where
  -- the machine switched off
  pub off-applied : SwitchedOff e ids → remaining cpus how cut None new (with_power Disabled m) ≡ remaining cpus how cut e new m
  unfolding with_power
  off-applied off =
      all-applied (with_power Disabled m) size how cut None new cpus none uncut refl ∙ off.whole new m is_ids
      ∙ sym (only-effect m size how cut e new cpus none uncut)

  -- a change of one cell, stored at its place: its CPUs are to be changed next
  pub cell-applied : (kind : CallKind) (id : ℕ) → OneCell e ids kind id → (f : Figures) (n : Numbers) (c : Cell) (w : CommRegion) → f ≡ figures_of new
      → n ≡ numbers_there kind id new m f → c ≡ cell_there kind id new m → w ≡ words_there kind id new m f
      → remaining n.cpus n.how cut (rest_of e) new (parts_stored n id c w m.cpus m) ≡ remaining cpus how cut e new m
  unfolding remaining parts_stored cpus_changed with_cpus
  cell-applied kind id one f n c w is_figures is_numbers is_cell is_words =
      ap (effect_of (rest_of e) new)
      (uncut-stays cut _ uncut
      ∙ stored-is-effect kind id new m f n c w (cpus_after n m.cpus) one.one is_figures is_numbers is_cell is_words refl)
      ∙ one.whole new m is_ids
      ∙ sym (only-effect m size how cut e new cpus none uncut)
