-- The table after Create and Destroy: they change it at one ID and at one set of CPUs. Each law reads a list after `set` or `map`, or the members
-- of a set, place by place. Assumes nothing.
use Rattle.std.proofs.Common.{◌≡◌, refl, sym, ap, ap₂, ◌∙◌, subst, Bool, true, false, not, ◌&&◌, ◌||◌, ⊎_elim, List, ℕ, ◌+◌, ◌-◌, ◌%◌, ◌^◌, ◌<◌, arith, T, ltb, eqb, length, set, length-set, ltb-true, ltb-false}
use Rattle.base.specs.Lists.{any}
use Rattle.base.proofs.Tests.{is_false, and_left, or_cases}
use Rattle.base.proofs.Lists.{length-up_to}
use Rattle.cpu_set.specs.CpuSet.{member, set_of, union, without}
use Rattle.cpu_set.proofs.Laws.{member-lt, member-set_of}
use Rattle.regions.specs.Regions.{comm}
use Rattle.cell_record.specs.declared.CellConfig.{CellConfig}
use Rattle.cell_record.specs.CellRecord.{cell_regions}
use Rattle.machine_state.specs.declared.Cpu.{Cpu}
use Rattle.machine_state.specs.declared.CommRegion.{CommRegion}
use Rattle.machine_state.specs.declared.Cell.{Cell}
use Rattle.machine_state.specs.declared.Machine.{Machine}
use Rattle.machine_state.specs.Machine.{fresh_cpu, no_comm, no_cell, cpu_in, comm_in, cell_in, past_comm, past_cell}
use Rattle.rules.specs.State.{cell_at, with_pool, with_ids, with_root_cpus, with_cell, with_comm, with_cpus}
use Rattle.rules.specs.Effects.{change_in, change_cpus, cpus_changed, given_to, pool_cost, new_cell, new_comm, cell_created, cell_destroyed}
use Rattle.rules.proofs.Ids.{has-added, has-dropped}
use Rattle.reached.specs.Kept.{kept_in}
use Rattle.reached.proofs.Table.{Table, table_of, place, by-choice, cpu-changed}

-- the table with a new cell
abbrev pub created : ℕ → CellConfig → Table → Table
created id new t = record t {
  pool = (t.pool + pool_cost new.region_count) % 2 ^ 32;
  is_live = λ k. eqb k id || t.is_live k;
  root_has = λ k. t.root_has k && not (member k new.cpus);
  config = λ k. elim (eqb k id) [ true ↦ new | false ↦ t.config k ];
  mapped = λ k. elim (eqb k id) [ true ↦ any comm (cell_regions new) | false ↦ t.mapped k ];
  owner = λ k. elim (member k new.cpus) [ true ↦ id | false ↦ t.owner k ];
}

abbrev pub nothing : CellConfig
nothing = kept_in no_cell no_comm

-- the table with a cell less
abbrev pub destroyed : ℕ → Table → Table
destroyed id t = record t {
  pool = t.pool - pool_cost (t.config id).region_count;
  is_live = λ k. not (eqb k id) && t.is_live k;
  root_has = λ k. t.root_has k || member k (t.config id).cpus;
  config = λ k. elim (eqb k id) [ true ↦ nothing | false ↦ t.config k ];
  mapped = λ k. elim (eqb k id) [ true ↦ false | false ↦ t.mapped k ];
  owner = λ k. elim (member k (t.config id).cpus) [ true ↦ 0 | false ↦ t.owner k ];
}

-- the members of a set after CPUs have left it or come to it
set-member : (p : ℕ → Bool) (k : ℕ) → (T (p k) → k < 64) → member k (set_of p) ≡ p k
set-member p k f = go (ltb k 64) refl
  where
    go : (b : Bool) → ltb k 64 ≡ b → member k (set_of p) ≡ p k
    go true e = member-set_of p k (ltb-true k 64 e)
    go false e =
        is_false (member k (set_of p)) (λ t. absurd (omega (arith, member-lt k (set_of p) t, ltb-false k 64 e)))
        ∙ sym (is_false (p k) (λ t. absurd (omega (arith, f t, ltb-false k 64 e))))

pub member-without : (a b k : ℕ) → member k (without a b) ≡ (member k a && not (member k b))
unfolding without
member-without a b k = set-member _ k (λ t. member-lt k a (and_left (member k a) _ t))

pub member_union : (a b k : ℕ) → member k (union a b) ≡ (member k a || member k b)
unfolding union
member_union a b k = set-member _ k (λ t. ⊎_elim (member-lt k a) (member-lt k b) (or_cases (member k a) (member k b) t))

-- both places of a cell, set
config-set : (id : ℕ) (c : Cell) (w : CommRegion) (cells : List Cell) (comms : List CommRegion) (k : ℕ) → id < length cells → id < length comms
    → kept_in (cell_in (set cells id c) k) (comm_in (set comms id w) k)
    ≡ elim (eqb k id) [ true ↦ kept_in c w | false ↦ kept_in (cell_in cells k) (comm_in comms k) ]
config-set id c w cells comms k h l =
    ap₂ (λ (x : Cell) (y : CommRegion). kept_in x y) (place cells id c past_cell k h) (place comms id w past_comm k l) ∙ go (eqb k id)
  where
    go : (b : Bool) → kept_in (elim b [ true ↦ c | false ↦ cell_in cells k ]) (elim b [ true ↦ w | false ↦ comm_in comms k ])
        ≡ elim b [ true ↦ kept_in c w | false ↦ kept_in (cell_in cells k) (comm_in comms k) ]
    go true = refl
    go false = refl

mapped-set : (id : ℕ) (w : CommRegion) (comms : List CommRegion) (k : ℕ) → id < length comms
    → (comm_in (set comms id w) k).mapped ≡ elim (eqb k id) [ true ↦ w.mapped | false ↦ (comm_in comms k).mapped ]
mapped-set id w comms k l = ap (λ (y : CommRegion). y.mapped) (place comms id w past_comm k l) ∙ by-choice (λ (y : CommRegion). y.mapped) (eqb k id) w (comm_in comms k)

-- CPUs given to a cell
owner-given : (s id : ℕ) (stopped : Bool) (cpus : List Cpu) (k : ℕ) → length cpus ≡ 64
    → (cpu_in (change_cpus s (given_to id stopped) cpus) k).cell ≡ elim (member k s) [ true ↦ id | false ↦ (cpu_in cpus k).cell ]
unfolding change_in fresh_cpu
owner-given s id stopped cpus k l =
    ap (λ (p : Cpu). p.cell) (cpu-changed s (given_to id stopped) cpus k l)
    ∙ by-choice (λ (p : Cpu). p.cell) (member k s) (fresh_cpu id stopped) (cpu_in cpus k)

pub created-table : (id : ℕ) (new : CellConfig) (m : Machine) → id < 16 → length m.cells ≡ 16 → length m.comms ≡ 16 → length m.cpus ≡ 64
    → table_of (cell_created id new m) ≡ created id new (table_of m)
unfolding cell_created with_pool with_ids with_root_cpus cpus_changed with_cpus with_cell with_comm new_cell new_comm change_cpus
created-table id new m h cells comms cpus = λ i. record (table_of m) {
  pool = (m.pool_used + pool_cost new.region_count) % 2 ^ 32;
  is_live = λ k. has-added id m.live_ids k h i;
  root_has = λ k. member-without m.root_cpus new.cpus k i;
  config = λ k. config-set id (new_cell new) (new_comm new) m.cells m.comms k in_cells in_comms i;
  mapped = λ k. mapped-set id (new_comm new) m.comms k in_comms i;
  owner = λ k. owner-given new.cpus id true m.cpus k cpus i;
  cell_rooms = length-set m.cells id (new_cell new) i;
  comm_rooms = length-set m.comms id (new_comm new) i;
  cpu_rooms = (length-up_to (λ n. change_in new.cpus (given_to id true) n (cpu_in m.cpus n)) 64 ∙ sym cpus) i;
}
  where
    in_cells : id < length m.cells
    in_cells = subst (λ (n : ℕ). id < n) (sym cells) h

    in_comms : id < length m.comms
    in_comms = subst (λ (n : ℕ). id < n) (sym comms) h

pub destroyed-table : (id : ℕ) (m : Machine) → id < 16 → length m.cells ≡ 16 → length m.comms ≡ 16 → length m.cpus ≡ 64
    → table_of (cell_destroyed id m) ≡ destroyed id (table_of m)
unfolding cell_destroyed no_comm with_pool with_ids with_root_cpus cpus_changed with_cpus with_cell with_comm change_cpus
destroyed-table id m h cells comms cpus = λ i. record (table_of m) {
  pool = m.pool_used - pool_cost (cell_at m id).region_count;
  is_live = λ k. has-dropped id m.live_ids k i;
  root_has = λ k. member_union m.root_cpus (cell_at m id).cpus k i;
  config = λ k. config-set id no_cell no_comm m.cells m.comms k in_cells in_comms i;
  mapped = λ k. mapped-set id no_comm m.comms k in_comms i;
  owner = λ k. owner-given (cell_at m id).cpus 0 false m.cpus k cpus i;
  cell_rooms = length-set m.cells id no_cell i;
  comm_rooms = length-set m.comms id no_comm i;
  cpu_rooms = (length-up_to (λ n. change_in (cell_at m id).cpus (given_to 0 false) n (cpu_in m.cpus n)) 64 ∙ sym cpus) i;
}
  where
    in_cells : id < length m.cells
    in_cells = subst (λ (n : ℕ). id < n) (sym cells) h

    in_comms : id < length m.comms
    in_comms = subst (λ (n : ℕ). id < n) (sym comms) h
