-- The machine's table: what stands in it, as functions of an ID or a CPU. Counting, storing, faults and messages leave it as it was, and so do
-- Start and Set Loadable. Each law reads a list after `set` or `map` place by place. Assumes nothing.
use Rattle.std.proofs.Common.{◌≡◌, refl, sym, ap, ◌∙◌, subst, Bool, true, false, List, ℕ, zero, suc, ◌≤◌, ◌<◌, arith, ltb, eqb, length, get_or, set, length-set, get_or-set_same, get_or-set_other, ltb-true, ltb-false, eqb-true}
use Rattle.std.proofs.Math.ListN.{get_or-eq_default}
use Rattle.base.proofs.Tests.{is_false, fails, eq→eqb}
use Rattle.base.proofs.Lists.{length-up_to}
use Rattle.cpu_set.specs.CpuSet.{member}
use Rattle.cpu_set.proofs.Laws.{member-lt}
use Rattle.system_record.specs.declared.SystemConfig.{SystemConfig}
use Rattle.cell_record.specs.declared.CellConfig.{CellConfig}
use Rattle.machine_state.specs.declared.Cpu.{Cpu}
use Rattle.machine_state.specs.declared.CommRegion.{CommRegion}
use Rattle.machine_state.specs.declared.Phase.{Phase}
use Rattle.machine_state.specs.declared.Phase.TheVariants.{Loading, Started}
use Rattle.machine_state.specs.declared.Cell.{Cell}
use Rattle.machine_state.specs.declared.Power.{Power}
use Rattle.machine_state.specs.declared.Machine.{Machine}
use Rattle.machine_state.specs.Machine.{cpu_in, past_cpu, past_comm, past_cell}
use Rattle.rules.specs.State.{cell_at, comm_at, cpu_at, live, with_cell, with_comm, with_cpus, with_cpu}
use Rattle.rules.specs.Effects.{count_exit, counted, store_word, stored, fail_cpu, faulted, change_in, change_cpus, cpus_changed, start_cpu, stop_cpu, with_phase, in_phase, clear_words, cell_started, cell_loadable, cell_cut_off}
use Rattle.rules.proofs.Ids.{by-test}
use Rattle.rules.proofs.Cases.{faulted_cpu, fault-cases}
use Rattle.rules.proofs.Places.{changed-at, read_kept}
use Rattle.reached.specs.Kept.{kept_in, kept}

pub record Table : Type 0 where
  pub power : Power
  pub system : SystemConfig
  pub pool : ℕ
  pub is_live : ℕ → Bool
  pub root_has : ℕ → Bool
  pub config : ℕ → CellConfig
  pub mapped : ℕ → Bool
  pub owner : ℕ → ℕ
  pub cell_rooms : ℕ
  pub comm_rooms : ℕ
  pub cpu_rooms : ℕ

abbrev pub table_of : Machine → Table
table_of m = record {
  power = m.power;
  system = m.system;
  pool = m.pool_used;
  is_live = live m;
  root_has = λ k. member k m.root_cpus;
  config = kept m;
  mapped = λ id. (comm_at m id).mapped;
  owner = λ k. (cpu_at m k).cell;
  cell_rooms = length m.cells;
  comm_rooms = length m.comms;
  cpu_rooms = length m.cpus;
}

-- ---- places of a list after `set`

module _ {A : Type 0} where
  pub place : (l : List A) (i : ℕ) (y d : A) (k : ℕ) → i < length l → get_or (set l i y) k d ≡ elim (eqb k i) [ true ↦ y | false ↦ get_or l k d ]
  place l i y d k h = go (eqb k i) refl
    where
      go : (b : Bool) → eqb k i ≡ b → get_or (set l i y) k d ≡ elim b [ true ↦ y | false ↦ get_or l k d ]
      go true e = ap (λ (n : ℕ). get_or (set l i y) n d) (eqb-true k i e) ∙ get_or-set_same l i y d h
      go false e = get_or-set_other l i k y d (λ q. fails e (eq→eqb k i q))

pub by-choice : {A B : Type 0} (f : A → B) (b : Bool) (x y : A) → f (elim b [ true ↦ x | false ↦ y ]) ≡ elim b [ true ↦ f x | false ↦ f y ]
by-choice f true x y = refl
by-choice f false x y = refl

-- ---- what leaves the table as it was

pub same-cpu : (cpu : ℕ) (p : Cpu) (m : Machine) → p.cell ≡ (cpu_at m cpu).cell → table_of (with_cpu cpu p m) ≡ table_of m
unfolding with_cpus
same-cpu cpu p m e = λ i. record (table_of m) {
  owner = λ k. read_kept past_cpu (λ (q : Cpu). q.cell) m.cpus cpu k p e i;
  cpu_rooms = length-set m.cpus cpu p i;
}

-- words that say the same of a cell's record
pub same-comm : (id : ℕ) (c : CommRegion) (m : Machine) → c.mapped ≡ (comm_at m id).mapped → ((x : Cell) → kept_in x c ≡ kept_in x (comm_at m id))
    → table_of (with_comm id c m) ≡ table_of m
unfolding with_comm
same-comm id c m e f = λ i. record (table_of m) {
  config = λ k. read_kept past_comm (λ (w : CommRegion). kept_in (cell_at m k) w) m.comms id k c (f (cell_at m k)) i;
  mapped = λ k. read_kept past_comm (λ (w : CommRegion). w.mapped) m.comms id k c e i;
  comm_rooms = length-set m.comms id c i;
}

pub counted_same : (own cpu : ℕ) (m : Machine) → table_of (counted own cpu m) ≡ table_of m
unfolding counted count_exit
counted_same own cpu m = same-cpu cpu _ m refl

-- a store changes one of the three words
store-mapped : (word value : ℕ) (c : CommRegion) → (store_word word value c).mapped ≡ c.mapped
unfolding store_word
store-mapped zero value c = refl
store-mapped (suc zero) value c = refl
store-mapped (suc (suc word)) value c = refl

store_kept : (word value : ℕ) (c : CommRegion) (x : Cell) → kept_in x (store_word word value c) ≡ kept_in x c
unfolding store_word
store_kept zero value c x = refl
store_kept (suc zero) value c x = refl
store_kept (suc (suc word)) value c x = refl

pub stored_same : (cpu word value : ℕ) (m : Machine) → table_of (stored cpu word value m) ≡ table_of m
unfolding stored
stored_same cpu word value m = same-comm _ _ m (store-mapped word value _) (store_kept word value _)

pub faulted-waiting : (cpu : ℕ) (m : Machine) → (faulted cpu m).waiting ≡ m.waiting
unfolding with_cpus with_comm
faulted-waiting cpu m = fault-cases (λ (k : Machine). k.waiting ≡ m.waiting) cpu m refl (λ f. refl)

pub faulted-same : (cpu : ℕ) (m : Machine) → table_of (faulted cpu m) ≡ table_of m
unfolding fail_cpu with_cpus
faulted-same cpu m =
    fault-cases (λ (k : Machine). table_of k ≡ table_of m) cpu m marked (λ f. same-comm (cpu_at m cpu).cell _ (faulted_cpu cpu m) refl (λ x. refl) ∙ marked)
  where
    marked : table_of (faulted_cpu cpu m) ≡ table_of m
    marked = same-cpu cpu (fail_cpu (cpu_at m cpu)) m refl

pub phase-same : (id : ℕ) (phase : Phase) (m : Machine) → table_of (in_phase id phase m) ≡ table_of m
unfolding in_phase with_cell with_phase
phase-same id phase m = λ i. record (table_of m) {
  config = λ k. read_kept past_cell (λ (c : Cell). kept_in c (comm_at m k)) m.cells id k (with_phase phase (cell_at m id)) refl i;
  cell_rooms = length-set m.cells id (with_phase phase (cell_at m id)) i;
}

-- ---- the CPUs of a set, changed

pub cpu-changed : (s : ℕ) (change : Cpu → Cpu) (cpus : List Cpu) (k : ℕ) → length cpus ≡ 64 → cpu_in (change_cpus s change cpus) k ≡ change_in s change k (cpu_in cpus k)
unfolding change_cpus change_in
cpu-changed s change cpus k l = go (ltb k 64) refl
  where
    f : ℕ → Cpu
    f n = change_in s change n (cpu_in cpus n)

    go : (b : Bool) → ltb k 64 ≡ b → cpu_in (change_cpus s change cpus) k ≡ change_in s change k (cpu_in cpus k)
    go true e = changed-at s change k cpus (ltb-true k 64 e)
    go false e =
        let past : 64 ≤ k = ltb-false k 64 e in
        let out : member k s ≡ false = is_false (member k s) (λ t. absurd (omega (arith, member-lt k s t))) in
        let long : length (change_cpus s change cpus) ≤ k = subst (λ (n : ℕ). n ≤ k) (sym (length-up_to f 64)) past in
        get_or-eq_default (change_cpus s change cpus) past_cpu long
        ∙ sym (get_or-eq_default cpus past_cpu (subst (λ (n : ℕ). n ≤ k) (sym l) past)) ∙ sym (rw (out, change_in))

-- a change that keeps a CPU's cell
same-cpus : (s : ℕ) (change : Cpu → Cpu) (m : Machine) → length m.cpus ≡ 64 → ((p : Cpu) → (change p).cell ≡ p.cell) → table_of (cpus_changed s change m) ≡ table_of m
unfolding cpus_changed with_cpus change_cpus change_in
same-cpus s change m l e = λ i. record (table_of m) {
  owner = λ k. same k i;
  cpu_rooms = (length-up_to (λ n. change_in s change n (cpu_in m.cpus n)) 64 ∙ sym l) i;
}
  where
    same : (k : ℕ) → (cpu_in (change_cpus s change m.cpus) k).cell ≡ (cpu_at m k).cell
    same k =
        ap (λ (p : Cpu). p.cell) (cpu-changed s change m.cpus k l)
        ∙ by-test (λ (p : Cpu). p.cell ≡ (cpu_at m k).cell) (member k s) _ _ (λ t. e (cpu_at m k)) (λ t. refl)

-- Start, Set Loadable, and a cell cut off
pub started-same : (id : ℕ) (m : Machine) → length m.cpus ≡ 64 → table_of (cell_started id m) ≡ table_of m
unfolding cell_started start_cpu clear_words with_comm
started-same id m l = phase-same id Started _ ∙ same-cpus _ start_cpu _ l (λ p. refl) ∙ same-comm id _ m refl (λ x. refl)

pub loadable-same : (id : ℕ) (m : Machine) → length m.cpus ≡ 64 → table_of (cell_loadable id m) ≡ table_of m
unfolding cell_loadable stop_cpu with_comm
loadable-same id m l = phase-same id Loading _ ∙ same-cpus _ stop_cpu _ l (λ p. refl) ∙ same-comm id _ m refl (λ x. refl)

pub cut-same : (id : ℕ) (m : Machine) → length m.cpus ≡ 64 → table_of (cell_cut_off id m) ≡ table_of m
unfolding cell_cut_off stop_cpu with_comm
cut-same id m l = same-cpus _ stop_cpu _ l (λ p. refl) ∙ same-comm id _ m refl (λ x. refl)
