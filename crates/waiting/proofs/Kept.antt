-- What an event of others keeps while a call waits: the table, the waiting call, who has words, and who may not be messaged. A CPU that keeps its
-- owner and words that do not wake their cell keep it. Assumes nothing.
use Rattle.std.proofs.Common.{false, ◌≡◌, refl, sym, ap, ◌∙◌, subst, List, map, ℕ, ◌<◌, length, get_or, ext_get_or, Option, None, Some}
use Rattle.std.proofs.Math.ListN.{get_or-map, length-map}
use Rattle.std.proofs.Math.Seq.{map-set_same}
use Rattle.base.proofs.Lists.{length-up_to, get_or-up_to}
use Rattle.cpu_set.specs.CpuSet.{member}
use Rattle.machine_state.specs.declared.Cpu.{Cpu}
use Rattle.machine_state.specs.declared.CommRegion.{CommRegion}
use Rattle.machine_state.specs.declared.Machine.{Machine}
use Rattle.machine_state.specs.Machine.{past_cpu, cpu_in}
use Rattle.rules.specs.State.{cell_at, comm_at, cpu_at, state_at, limit_at, active, is_final, with_comm, with_cpus, with_cpu}
use Rattle.rules.specs.Effects.{counted, count_exit, change_in, change_cpus, cpus_changed, stop_cpu, cell_cut_off}
use Rattle.rules.specs.Asking.{may_be_messaged}
use Rattle.rules.proofs.Ids.{by-test}
use Rattle.waiting.specs.Steps.{CellTable, cell_table_of, owner_in, cut_from}
use Rattle.waiting.proofs.Machines.{AllWords, all-words-with, NoneWoken, woken-same, woken-trans, by-words, words-woken, AllCpus, cut-all-words, cut-woken}

-- what such an event keeps
pub record Kept (m n : Machine) : Type 0 where
  pub all_words : AllWords m → AllWords n
  pub table : cell_table_of n ≡ cell_table_of m
  pub waiting : n.waiting ≡ m.waiting
  pub woken : NoneWoken m n
  pub limits : (id : ℕ) → limit_at n id ≡ limit_at m id

pub kept_same : (m : Machine) → Kept m m
kept_same m = record { all_words = λ h. h; table = refl; waiting = refl; woken = woken-same m; limits = λ id. refl }

pub kept_trans : (m n o : Machine) → Kept m n → Kept n o → Kept m o
kept_trans m n o k l = record {
  all_words = λ h. l.all_words (k.all_words h);
  table = l.table ∙ k.table;
  waiting = l.waiting ∙ k.waiting;
  woken = woken-trans m n o k.woken l.woken;
  limits = λ id. l.limits id ∙ k.limits id;
}

-- a CPU changed, its owner the same
pub kept-cpu : (cpu : ℕ) (p : Cpu) (m : Machine) → p.cell ≡ (cpu_at m cpu).cell → Kept m (with_cpu cpu p m)
unfolding NoneWoken with_cpus cell_table_of owner_in may_be_messaged active
kept-cpu cpu p m e = record {
  all_words = λ h. h;
  table = ap (λ (o : List ℕ). record { power = m.power; live = m.live_ids; cells = m.cells; root = m.root_cpus; owners = o; pool = m.pool_used })
      (map-set_same owner_in m.cpus cpu p past_cpu e);
  waiting = refl;
  woken = woken-same m;
  limits = λ id. refl;
}

-- words changed, without waking the cell
pub kept-words : (k : ℕ) (c : CommRegion) (m : Machine) → c.passive ≡ (comm_at m k).passive → c.reply_limit ≡ limit_at m k
    → (is_final c.cell_state ≡ false → is_final (state_at m k) ≡ false) → Kept m (with_comm k c m)
unfolding with_comm cell_table_of
kept-words k c m p l f = record {
  all_words = all-words-with m k c;
  table = refl;
  waiting = refl;
  woken = words-woken m k c p l f;
  limits = λ id. by-words (λ (w : CommRegion). w.reply_limit ≡ limit_at m id) m k id c (λ e. l ∙ ap (limit_at m) (sym e)) refl;
}

pub kept-counted : (own cpu : ℕ) (m : Machine) → Kept m (counted own cpu m)
unfolding counted count_exit
kept-counted own cpu m = kept-cpu cpu (count_exit own (cpu_at m cpu)) m refl

-- a CPU's owner is the table's
pub owner-same : (m n : Machine) (k : ℕ) → cell_table_of n ≡ cell_table_of m → (cpu_at n k).cell ≡ (cpu_at m k).cell
unfolding cell_table_of owner_in
owner-same m n k e =
    sym (get_or-map owner_in n.cpus k past_cpu) ∙ ap (λ (t : CellTable). get_or t.owners k 0) e ∙ get_or-map owner_in m.cpus k past_cpu

-- ---- a cell cut off keeps the table, too

stop-owner : (these k : ℕ) (p : Cpu) → (change_in these stop_cpu k p).cell ≡ p.cell
unfolding change_in stop_cpu
stop-owner these k p = by-test (λ (q : Cpu). q.cell ≡ p.cell) (member k these) (stop_cpu p) p (λ e. refl) (λ e. refl)

stopped-owners : (these : ℕ) (cpus : List Cpu) → length cpus ≡ 64 → map owner_in (change_cpus these stop_cpu cpus) ≡ map owner_in cpus
unfolding change_cpus owner_in
stopped-owners these cpus l =
    ext_get_or 0 (map owner_in (change_cpus these stop_cpu cpus)) (map owner_in cpus)
    (length-map (change_cpus these stop_cpu cpus) owner_in ∙ length-up_to stopped 64 ∙ sym l ∙ sym (length-map cpus owner_in))
    (λ i h. get_or-map owner_in (change_cpus these stop_cpu cpus) i past_cpu
    ∙ ap owner_in (get_or-up_to stopped 64 i past_cpu (subst (λ (n : ℕ). i < n) (length-map (change_cpus these stop_cpu cpus) owner_in ∙ length-up_to stopped 64) h))
    ∙ stop-owner these i (cpu_in cpus i) ∙ sym (get_or-map owner_in cpus i past_cpu))
  where
    stopped : ℕ → Cpu
    stopped k = change_in these stop_cpu k (cpu_in cpus k)

cut-cpus : (c : ℕ) (m : Machine) → AllCpus (cell_cut_off c m)
unfolding cell_cut_off cpus_changed change_cpus with_cpus
cut-cpus c m = length-up_to _ 64

cut-table : (c : ℕ) (m : Machine) → AllCpus m → cell_table_of (cell_cut_off c m) ≡ cell_table_of m
unfolding cell_cut_off cpus_changed with_cpus with_comm cell_table_of
cut-table c m h =
    ap (λ (o : List ℕ). record { power = m.power; live = m.live_ids; cells = m.cells; root = m.root_cpus; owners = o; pool = m.pool_used })
    (stopped-owners (cell_at m c).cpus m.cpus h)

-- what it keeps, where a cell was cut off at all
pub record Still (m n : Machine) : Type 0 where
  pub all_words : AllWords n
  pub all_cpus : AllCpus n
  pub table : cell_table_of n ≡ cell_table_of m
  pub woken : NoneWoken m n

pub cut-none-woken : (k : Option ℕ) (m : Machine) → NoneWoken m (cut_from k m)
unfolding cut_from
cut-none-woken None m = woken-same m
cut-none-woken (Some c) m = cut-woken c m

pub cut-still : (k : Option ℕ) (m : Machine) → AllWords m → AllCpus m → Still m (cut_from k m)
unfolding cut_from
cut-still None m h p = record { all_words = h; all_cpus = p; table = refl; woken = cut-none-woken None m }
cut-still (Some c) m h p = record { all_words = cut-all-words c m h; all_cpus = cut-cpus c m; table = cut-table c m p; woken = cut-none-woken (Some c) m }
