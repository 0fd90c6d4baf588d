-- A change of the CPUs of a set, one CPU after the other: the change of one member and then of the rest is the change of all, and the rest has
-- fewer members. Assumes nothing.
use Rattle.std.proofs.Common.{◌≡◌, ℕ, ◌<◌, Bool, true, false, not, ◌&&◌, eqb, List, length, set, sym, refl, ap, ◌∙◌, arith, get_or-set_other, get_or-set_same, eq-eqb, ne_eqb}
use native.Mathlib.Decide.{ℕ_discrete}
use Rattle.base.proofs.Lists.{length-up_to, get_or-up_to, map-up_to}
use Rattle.cpu_set.specs.CpuSet.{member, without, count}
use Rattle.cpu_set.proofs.Laws.{member-set_of, count_less}
use Rattle.id_set.proofs.Ids.{zero-member}
use Rattle.machine_state.specs.declared.Cpu.{Cpu}
use Rattle.machine_state.specs.Machine.{cpu_in, past_cpu, max_cpus}
use Rattle.rules.specs.Effects.{change_in, change_cpus}

-- one CPU, by whether it is in the set
pub in-set : (cpus : ℕ) (f : Cpu → Cpu) (k : ℕ) (p : Cpu) → member k cpus ≡ true → change_in cpus f k p ≡ f p
unfolding change_in
in-set cpus f k p e = rw (e, change_in)

pub outside : (cpus : ℕ) (f : Cpu → Cpu) (k : ℕ) (p : Cpu) → member k cpus ≡ false → change_in cpus f k p ≡ p
unfolding change_in
outside cpus f k p e = rw (e, change_in)

same-change : (a b : ℕ) (f : Cpu → Cpu) (k : ℕ) (p q : Cpu) → member k a ≡ member k b → p ≡ q → change_in a f k p ≡ change_in b f k q
unfolding change_in
same-change a b f k p q e d = ap (change_in a f k) d ∙ rw (e, change_in)

-- a change of no CPU
pub walk_none : (f : Cpu → Cpu) (table : List Cpu) → length table ≡ max_cpus → change_cpus 0 f table ≡ table
unfolding change_cpus
walk_none f table size = sym (map-up_to _ max_cpus past_cpu table size (λ i h. sym (outside 0 f i (cpu_in table i) (zero-member i h))))

module _ (cpus rest one k : ℕ) (is_rest : rest ≡ without cpus one) (is_one : (j : ℕ) → j < max_cpus → member j one ≡ eqb j k) (inside : k < max_cpus)
    (has : member k cpus ≡ true) where
  rest-member : (j : ℕ) → j < max_cpus → member j rest ≡ (member j cpus && not (eqb j k))
  unfolding without
  rest-member j h =
      ap (member j) is_rest ∙ member-set_of (λ i. member i cpus && not (member i one)) j h ∙ ap (λ (b : Bool). member j cpus && not b) (is_one j h)

  own : member k rest ≡ false
  own = rest-member k inside ∙ rw (has, eq-eqb k k refl)

  other : (j : ℕ) → j < max_cpus → (j ≡ k → ⊥) → member j rest ≡ member j cpus
  other j h n = rest-member j h ∙ go (member j cpus)
    where
      go : (b : Bool) → (b && not (eqb j k)) ≡ b
      go true = rw (ne_eqb j k n)
      go false = refl

  -- one member, and then the rest
  pub walk_turn : (f : Cpu → Cpu) (table : List Cpu) (p : Cpu) → length table ≡ max_cpus → p ≡ f (cpu_in table k)
      → change_cpus rest f (set table k p) ≡ change_cpus cpus f table
  unfolding change_cpus
  walk_turn f table p size is_cpu =
      map-up_to _ max_cpus past_cpu (change_cpus rest f (set table k p)) (length-up_to _ max_cpus)
      (λ j h. get_or-up_to _ max_cpus j past_cpu h ∙ at j h (ℕ_discrete j k))
    where
      at : (j : ℕ) → j < max_cpus → Dec (j ≡ k) → change_in rest f j (cpu_in (set table k p) j) ≡ change_in cpus f j (cpu_in table j)
      at j h (yes e) =
          let here : k < length table = omega (arith, size) in
          rw e
          (outside rest f k (cpu_in (set table k p) k) own ∙ get_or-set_same table k p past_cpu here ∙ is_cpu ∙ sym (in-set cpus f k (cpu_in table k) has))
      at j h (no n) = same-change rest cpus f j _ _ (other j h n) (get_or-set_other table k j p past_cpu n)

  -- the rest has fewer members
  pub walk-less : count rest < count cpus
  unfolding count
  walk-less =
      count_less (λ j. member j rest) (λ j. member j cpus) max_cpus (λ j h t. left (member j cpus) (eqb j k) (sym (rest-member j h) ∙ t)) k inside own has
    where
      left : (a b : Bool) → (a && not b) ≡ true → a ≡ true
      left true b e = refl
      left false b e = e
