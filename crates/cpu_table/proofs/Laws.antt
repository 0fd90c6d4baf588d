-- A CPU that is marked failed in the table: its own mark is true, the others' are as they were. Assumes nothing.
use Rattle.std.proofs.Common.{◌≡◌, ℕ, ◌<◌, Bool, ◌||◌, eqb, List, length, set, sym, ap, subst, get_or-set_other, get_or-set_same, lt-ltb, eq-eqb, ne_eqb}
use native.Mathlib.Decide.{ℕ_discrete}
use Rattle.machine_state.specs.declared.Cpu.{Cpu}
use Rattle.machine_state.specs.Machine.{cpu_in, past_cpu, max_cpus}
use Rattle.rules.specs.Effects.{fail_cpu}
use Rattle.cpu_table.specs.CpuTable.{cpu_index}

abbrev mark : Cpu → Bool
mark p = p.failed

pub failed-at : (cpus : List Cpu) (also i : ℕ) → i < length cpus
    → (eqb i also || (cpu_in cpus i).failed) ≡ (cpu_in (set cpus also (fail_cpu (cpu_in cpus also))) i).failed
unfolding fail_cpu
failed-at cpus also i h = go (ℕ_discrete i also)
  where
    go : Dec (i ≡ also) → (eqb i also || (cpu_in cpus i).failed) ≡ (cpu_in (set cpus also (fail_cpu (cpu_in cpus also))) i).failed
    go (yes e) = rw (eq-eqb i also e) (rw e (sym (ap mark (get_or-set_same cpus also (fail_cpu (cpu_in cpus also)) past_cpu (subst (λ (k : ℕ). k < length cpus) e h)))))
    go (no n) = rw (ne_eqb i also n) (ap mark (sym (get_or-set_other cpus also i (fail_cpu (cpu_in cpus also)) past_cpu n)))

-- a number below the table's size is its own place
pub cpu-inside : (cpu : ℕ) → cpu < max_cpus → cpu_index cpu ≡ cpu
unfolding cpu_index
cpu-inside cpu h = rw (lt-ltb cpu max_cpus h, cpu_index)
