-- What is read of a list after a change at one place, and of the CPUs after a change of those of a set. By induction on the list. Assumes nothing.
use Rattle.std.proofs.Common.{◌≡◌, refl, List, [], ◌∷◌, ℕ, zero, suc, ◌<◌, get_or, set}
use Rattle.base.proofs.Lists.{get_or-up_to}
use Rattle.machine_state.specs.declared.Cpu.{Cpu}
use Rattle.machine_state.specs.Machine.{cpu_in, past_cpu}
use Rattle.rules.specs.Effects.{change_in, change_cpus}

module _ {A B : Type 0} (d : A) (f : A → B) where
  -- it is the same at every place, where the change keeps what is read
  pub read_kept : (xs : List A) (i k : ℕ) (v : A) → f v ≡ f (get_or xs i d) → f (get_or (set xs i v) k d) ≡ f (get_or xs k d)
  read_kept [] i k v h = refl
  read_kept (x ∷ xs) zero zero v h = h
  read_kept (x ∷ xs) zero (suc k) v h = refl
  read_kept (x ∷ xs) (suc i) zero v h = refl
  read_kept (x ∷ xs) (suc i) (suc k) v h = read_kept xs i k v h

pub changed-at : (these : ℕ) (change : Cpu → Cpu) (k : ℕ) (cpus : List Cpu) → k < 64 → cpu_in (change_cpus these change cpus) k ≡ change_in these change k (cpu_in cpus k)
unfolding change_cpus
changed-at these change k cpus l = get_or-up_to (λ (j : ℕ). change_in these change j (cpu_in cpus j)) 64 k past_cpu l
