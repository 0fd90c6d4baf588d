-- The invariant of the machine's table: each live cell is a valid record's, no two name one CPU or meet in a region that is not shared in both, root
-- has the started CPUs that no cell names, every CPU says whose it is, and the pool is not overdrawn. Assumes nothing.
use Rattle.std.proofs.Common.{◌≡◌, refl, sym, ◌∙◌, subst, Bool, true, false, not, ◌&&◌, ◌||◌, ℕ, suc, ◌+◌, ◌^◌, ◌≤◌, ◌<◌, min, max, arith}
use mathlib.Core.List.{Memᴰ}
use Rattle.base.specs.Lists.{any}
use Rattle.base.proofs.Tests.{is_true, holds, equal-leb, implies-elim}
use Rattle.base.proofs.Lists.{up_to-elim}
use Rattle.cpu_set.specs.CpuSet.{member, subset}
use Rattle.cpu_set.proofs.Laws.{member-lt}
use Rattle.regions.specs.declared.MemRegion.{MemRegion}
use Rattle.regions.specs.Regions.{comm, shared, overlap, overlap_phys}
use Rattle.system_record.specs.declared.SystemConfig.{SystemConfig}
use Rattle.system_record.specs.SystemRecord.{system_valid}
use Rattle.cell_record.specs.declared.CellConfig.{CellConfig}
use Rattle.cell_record.specs.CellRecord.{cell_valid, cell_regions}
use Rattle.rules.specs.Create.{conflict}
use Rattle.rules.specs.Effects.{pool_cost}
use Rattle.reached.proofs.Table.{Table}

-- a live cell other than root
pub record IsCell (t : Table) (id : ℕ) : Type 0 where
  pub other : id ≡ 0 → ⊥
  pub lives : t.is_live id ≡ true

-- a CPU that a record names
abbrev pub Names : CellConfig → ℕ → Type 0
Names c k = member k c.cpus ≡ true

-- two records that may stand beside each other
pub record Clear (c d : CellConfig) : Type 0 where
  pub cpus : (k : ℕ) → Names c k → Names d k → ⊥
  pub regions : (r s : MemRegion) → Memᴰ r (cell_regions c) → Memᴰ s (cell_regions d) → conflict r s ≡ false

pub record Valid (system : SystemConfig) (c : CellConfig) : Type 0 where
  pub rules : cell_valid system c ≡ true
  pub started : subset c.cpus system.cpus ≡ true

pub record Sound (t : Table) : Type 0 where
  pub cells-room : t.cell_rooms ≡ 16
  pub comms-room : t.comm_rooms ≡ 16
  pub cpus-room : t.cpu_rooms ≡ 64
  pub accepted : system_valid t.system ≡ true
  pub pool-small : t.system.pool.pages < 2 ^ 31
  pub root-lives : t.is_live 0 ≡ true
  pub few : (id : ℕ) → t.is_live id ≡ true → id < 16
  pub valid : (id : ℕ) → IsCell t id → Valid t.system (t.config id)
  pub with-region : (id : ℕ) → IsCell t id → t.mapped id ≡ any comm (cell_regions (t.config id))
  pub apart : (i j : ℕ) → IsCell t i → IsCell t j → (i ≡ j → ⊥) → Clear (t.config i) (t.config j)
  pub root-started : (k : ℕ) → t.root_has k ≡ true → member k t.system.cpus ≡ true
  pub root-free : (k : ℕ) → t.root_has k ≡ true → (i : ℕ) → IsCell t i → Names (t.config i) k → ⊥
  pub root-rest : (k : ℕ) → member k t.system.cpus ≡ true → ((i : ℕ) → IsCell t i → Names (t.config i) k → ⊥) → t.root_has k ≡ true
  pub cell-owns : (k i : ℕ) → IsCell t i → Names (t.config i) k → t.owner k ≡ i
  pub root-owns : (k : ℕ) → t.root_has k ≡ true → t.owner k ≡ 0
  pub pool-fits : t.pool ≤ t.system.pool.pages

-- what Create's table has shown when its effect comes
pub record Fits (t : Table) (id : ℕ) (new : CellConfig) : Type 0 where
  pub valid : Valid t.system new
  pub from-root : (k : ℕ) → Names new k → t.root_has k ≡ true
  pub regions : (i : ℕ) → IsCell t i → (r s : MemRegion) → Memᴰ r (cell_regions (t.config i)) → Memᴰ s (cell_regions new) → conflict r s ≡ false
  pub free : t.is_live id ≡ false
  pub other : id ≡ 0 → ⊥
  pub below : id < 16
  pub room : t.pool + pool_cost new.region_count ≤ t.system.pool.pages

-- a member of a subset is a member
pub subset-member : (a b k : ℕ) → subset a b ≡ true → member k a ≡ true → member k b ≡ true
unfolding subset
subset-member a b k e n =
    is_true (member k b)
    (implies-elim (member k a) (member k b)
    (up_to-elim (λ j. not (member j a) || member j b) 64 (holds e) k (member-lt k a (holds n))) (holds n))

-- ---- a conflict is one from both sides

overlap-sym : (a n b m : ℕ) → overlap a n b m ≡ overlap b m a n
unfolding overlap
overlap-sym a n b m =
    equal-leb (suc (max a b)) (min (a + n) (b + m)) (suc (max b a)) (min (b + m) (a + n)) (λ h. omega arith) (λ h. omega arith)

conflict-sym : (r s : MemRegion) → conflict r s ≡ conflict s r
unfolding conflict overlap_phys
conflict-sym r s = rw (overlap-sym r.phys r.size s.phys s.size) (swap (comm r) (comm s) (overlap s.phys s.size r.phys r.size) (shared r) (shared s))
  where
    swap : (a b o c d : Bool) → (not a && not b && o && not (c && d)) ≡ (not b && not a && o && not (d && c))
    swap true true o c d = refl
    swap true false o c d = refl
    swap false true o c d = refl
    swap false false true true true = refl
    swap false false true true false = refl
    swap false false true false true = refl
    swap false false true false false = refl
    swap false false false c d = refl

pub clear-sym : (c d : CellConfig) → Clear c d → Clear d c
clear-sym c d h = record { cpus = λ k s t. h.cpus k t s; regions = λ r s i j. conflict-sym r s ∙ h.regions s r j i }

pub clear_both : (c d c2 d2 : CellConfig) → c2 ≡ c → d2 ≡ d → Clear c d → Clear c2 d2
clear_both c d c2 d2 p q h = subst (λ (x : CellConfig). Clear x d2) (sym p) (subst (λ (y : CellConfig). Clear c y) (sym q) h)
