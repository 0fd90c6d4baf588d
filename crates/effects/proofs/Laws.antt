-- The effects by their parts are the rules' effects: each part is the rule's by its case, and a number that is no cell's changes nothing in the
-- tables, since nothing stands past their end. Assumes nothing.
use Rattle.std.proofs.Common.{◌≡◌, ℕ, ◌<◌, ◌≤◌, true, false, List, length, sym, refl, ap, ◌∙◌, lt-ltb}
use lib.Seq.{set_out}
use Rattle.base.proofs.Tests.{fails}
use Rattle.cell_record.specs.declared.CellConfig.{CellConfig}
use Rattle.machine_state.specs.declared.Cpu.{Cpu}
use Rattle.machine_state.specs.declared.CommRegion.{CommRegion}
use Rattle.machine_state.specs.declared.Cell.{Cell}
use Rattle.machine_state.specs.declared.CallKind.{CallKind}
use Rattle.machine_state.specs.declared.CallKind.TheVariants.{Disable, Create, Start, SetLoadable, Destroy}
use Rattle.machine_state.specs.declared.Machine.{Machine}
use Rattle.machine_state.specs.Machine.{max_cells}
use Rattle.rules.specs.State.{cell_at, comm_at, with_pool, with_ids, with_root_cpus, with_cell, with_comm, with_cpus}
use Rattle.rules.specs.Effects.{new_comm, cpus_changed, cell_created, in_phase, cell_started, cell_loadable, cell_destroyed, effect}
use Rattle.cpu_table.specs.CpuTable.{change_of}
use Rattle.effects.specs.declared.Figures.{Figures}
use Rattle.effects.specs.declared.Numbers.{Numbers}
use Rattle.effects.specs.Parts.{is_disable, figures_of, numbers_after, changed_cell, within, words_after, parts_stored, cpus_after}

-- ---- the parts of an effect

module _ (kind : CallKind) (id : ℕ) (new : CellConfig) (m : Machine) where
  -- the numbers, the cell and the words after an effect, at a machine
  abbrev pub numbers_there : Figures → Numbers
  numbers_there f =
      numbers_after kind id (cell_at m id) f m.pool_used m.live_ids m.root_cpus

  abbrev pub cell_there : Cell
  cell_there = changed_cell kind new (cell_at m id)

  abbrev pub words_there : Figures → CommRegion
  words_there f = words_after kind f (comm_at m id)

  abbrev at_cell : Machine
  at_cell =
      let n = numbers_there (figures_of new) in
      parts_stored n id cell_there (words_there (figures_of new)) (cpus_after n m.cpus) m

-- each part is the rule's, by the kind of the call
by_kind : (kind : CallKind) (id : ℕ) (new : CellConfig) (m : Machine) → is_disable kind ≡ false → at_cell kind id new m ≡ effect kind id new m
unfolding parts_stored new_comm change_of effect cell_created cell_started cell_loadable cell_destroyed in_phase cpus_changed with_pool with_ids with_root_cpus with_cell with_comm with_cpus
by_kind Disable id new m e = absurd (fails {b = true} e tt)
by_kind Create id new m e = refl
by_kind Start id new m e = refl
by_kind SetLoadable id new m e = refl
by_kind Destroy id new m e = refl

module _ (kind : CallKind) (id : ℕ) (new : CellConfig) (m : Machine) (f : Figures) (n : Numbers) (c : Cell) (w : CommRegion) (cpus : List Cpu) where
  -- the parts, stored at the cell, make the rule's machine
  pub stored-is-effect : is_disable kind ≡ false → f ≡ figures_of new → n ≡ numbers_there kind id new m f → c ≡ cell_there kind id new m
      → w ≡ words_there kind id new m f → cpus ≡ cpus_after n m.cpus → parts_stored n id c w cpus m ≡ effect kind id new m
  stored-is-effect e is_figures is_numbers is_cell is_words is_cpus =
      let numbers = is_numbers ∙ ap (numbers_there kind id new m) is_figures in
      let words = is_words ∙ ap (words_there kind id new m) is_figures in
      let table = is_cpus ∙ ap (λ (x : Numbers). cpus_after x m.cpus) numbers in
      (λ i. parts_stored (numbers i) id (is_cell i) (words i) (table i) m) ∙ by_kind kind id new m e

-- a cell of the tables
pub within-here : {A : Type 0} (id : ℕ) (x y : A) → id < max_cells → within id x y ≡ x
unfolding within
within-here id x y h = rw (lt-ltb id max_cells h, within)

-- a number past the tables' end has no place there: neither a cell nor words are stored
pub none-stored : (n : Numbers) (id : ℕ) (c : Cell) (w : CommRegion) (cpus : List Cpu) (m : Machine) → length m.cells ≤ id → length m.comms ≤ id
    → record m { pool_used = n.pool_used; live_ids = n.live_ids; root_cpus = n.root_cpus; cpus = cpus } ≡ parts_stored n id c w cpus m
unfolding parts_stored
none-stored n id c w cpus m past_cells past_comms =
    λ i. record {
      power = m.power;
      system = m.system;
      pool_used = n.pool_used;
      live_ids = n.live_ids;
      root_cpus = n.root_cpus;
      cells = sym (set_out m.cells id c past_cells) i;
      comms = sym (set_out m.comms id w past_comms) i;
      cpus = cpus;
      waiting = m.waiting;
    }
