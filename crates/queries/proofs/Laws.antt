-- A table of codes, row by row, and the caller's own CPU in the table where its call is counted. Assumes nothing.
use mathlib.Core.Path.{◌≡◌, refl, sym, ap, ap₂, ◌∙◌}
use mathlib.Core.Bool.{Bool, true, false, not, ◌&&◌}
use mathlib.Core.List.{List, [], ◌∷◌}
use Prim.Native.Nat.{ℕ, zero, suc, ◌<◌, ◌≤◌}
use lib.IntN.{ℤ}
use lib.ListN.{set, get_or}
use lib.Seq.{get_or-set_other}
use borrow.Author.Tests.{ltb-true}
use lib.Dec.{leb, leb→le, ltb, eqb}
use Rattle.base.specs.Rules.{Refusal, first_rule, ◌⇒◌}
use Rattle.base.proofs.Rules.{rule-holds, rule-passed, no-rule}
use Rattle.base.proofs.Tests.{holds, fails, and_left, and_right}
use Rattle.cpu_set.specs.CpuSet.{bit, member}
use Rattle.cpu_set.proofs.Laws.{member-lt}
use Rattle.machine_state.specs.declared.Cpu.{Cpu}
use Rattle.machine_state.specs.declared.Machine.{Machine}
use Rattle.machine_state.specs.Machine.{cpu_in, past_cpu, max_cells, max_cpus}
use Rattle.rules.specs.State.{root_id, cpu_at, has_id, with_cpus}
use Rattle.rules.specs.Queries.{low31}
use Rattle.rules.specs.Effects.{bump, count_exit, counted, call_counter}
use Rattle.cpu_table.specs.CpuTable.{change_of}
use Rattle.cpu_table.specs.declared.CpuChange.TheVariants.{Count}

module _ (r : ℤ) where
  pub answers : (when : Bool) (code : ℤ) (rows : List (Refusal ℤ)) (otherwise : ℤ) → when ≡ true → r ≡ code → r ≡ first_rule ((when ⇒ code) ∷ rows) otherwise
  answers when code rows otherwise t e = e ∙ rule-holds (when ⇒ code) rows otherwise t

  pub passes : (row : Refusal ℤ) (rows : List (Refusal ℤ)) (otherwise : ℤ) → row.when ≡ false → r ≡ first_rule rows otherwise → r ≡ first_rule (row ∷ rows) otherwise
  passes row rows otherwise t e = e ∙ rule-passed row rows otherwise t

  pub none_left : (otherwise : ℤ) → r ≡ otherwise → r ≡ first_rule [] otherwise
  none_left otherwise e = e ∙ no-rule otherwise

pub between : (a n b : ℕ) → (leb a n && leb n b) ≡ true → (a ≤ n) × (n ≤ b)
between a n b e =
    (leb→le a n (and_left (leb a n) (leb n b) (holds e)), leb→le n b (and_right (leb a n) (leb n b) (holds e)))

-- a live cell is a place of the tables
pub live-inside : (ids id : ℕ) (found : Bool) → found ≡ has_id ids id → found ≡ true → id < max_cells
unfolding has_id
live-inside ids id found e t = inside (ltb id max_cells) refl (sym e ∙ t)
  where
    inside : (b : Bool) → ltb id max_cells ≡ b → elim b as (λ x. Bool) [ true ↦ bit id ids | false ↦ false ] ≡ true → id < max_cells
    inside true q r = ltb-true id max_cells q
    inside false q r = absurd (fails {b = true} (sym r) tt)

-- the row of a CPU of another cell, where the caller's cell and the CPU are given
pub foreign-row : (x : ℕ) (q : Cpu) (cell : ℕ) (asked : Cpu) → x ≡ cell → q ≡ asked
    → (not (eqb x root_id) && not (eqb q.cell x)) ≡ (not (eqb cell root_id) && not (eqb asked.cell cell))
foreign-row x q cell asked = ap₂ (λ (k : ℕ) (y : Cpu). not (eqb k root_id) && not (eqb y.cell k))

pub works-row : (type : ℕ) (q asked : Cpu) → q ≡ asked → (eqb type 0 && not q.failed) ≡ (eqb type 0 && not asked.failed)
works-row type q asked = ap (λ (y : Cpu). eqb type 0 && not y.failed)

pub counter-of : (i : ℕ) (asked q : Cpu) → asked ≡ q → low31 (get_or asked.counters i 0) ≡ low31 (get_or q.counters i 0)
counter-of i asked q = ap (λ (y : Cpu). low31 (get_or y.counters i 0))

-- a CPU of the boot set is a place of the table
pub in-table : (cpu boot : ℕ) (found : Bool) → found ≡ member cpu boot → found ≡ true → cpu < max_cpus
in-table cpu boot found e t = member-lt cpu boot (holds (sym e ∙ t))

-- a CPU that is counted in the table; one past its end has no counters, and stays as it is read
counted-in : (cpus : List Cpu) (k : ℕ) → cpu_in (set cpus k (change_of (Count call_counter) (cpu_in cpus k))) k ≡ change_of (Count call_counter) (cpu_in cpus k)
unfolding change_of count_exit bump
counted-in [] k = refl
counted-in (p ∷ cpus) zero = refl
counted-in (p ∷ cpus) (suc k) = counted-in cpus k

-- the CPUs of the machine in which the caller is counted
module _ (m : Machine) (caller : ℕ) (p : Cpu) (e : cpu_at m caller ≡ p) where
  pub caller-counted : cpu_at (counted call_counter caller m) caller ≡ change_of (Count call_counter) p
  unfolding counted with_cpus change_of
  caller-counted = counted-in m.cpus caller ∙ ap (change_of (Count call_counter)) e

  pub asked-counted : (j : ℕ) → (j ≡ caller → ⊥) → cpu_at (counted call_counter caller m) j ≡ cpu_at m j
  unfolding counted with_cpus
  asked-counted j n = get_or-set_other m.cpus caller j (count_exit call_counter (cpu_at m caller)) past_cpu n

-- the caller's cell is not changed by its count
pub counted-cell : (m : Machine) (caller : ℕ) → (cpu_at (counted call_counter caller m) caller).cell ≡ (cpu_at m caller).cell
unfolding change_of count_exit
counted-cell m caller = ap (λ (x : Cpu). x.cell) (caller-counted m caller _ refl)
