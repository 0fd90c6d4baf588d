-- An admission that follows a table, row by row: it is the answer of a row that applies, and follows the rest past one that does not.
-- Assumes nothing.
use mathlib.Core.Path.{◌≡◌, refl, sym, ap, subst, ◌∙◌}
use mathlib.Core.Bool.{Bool, true, false, not, ◌&&◌, ◌||◌}
use mathlib.Core.List.{List, [], ◌∷◌}
use Prim.Native.Nat.{ℕ, ◌<◌, ◌≤◌}
use native.Mathlib.Omega.{arith}
use borrow.Author.Tests.{ltb-false}
use lib.Dec.{ltb, eqb}
use lib.ListN.{length, get_or-eq_default}
use Rattle.std.specs.Prelude.{Ok, Err}
use Rattle.base.specs.Rules.{Refusal, first_rule, ◌⇒◌}
use Rattle.base.proofs.Rules.{rule-holds, rule-passed, no-rule}
use Rattle.base.proofs.Tests.{holds}
use Rattle.machine_state.specs.declared.CommRegion.{CommRegion}
use Rattle.machine_state.specs.declared.Answer.{Answer}
use Rattle.machine_state.specs.declared.Answer.TheVariants.{Denied}
use Rattle.machine_state.specs.declared.Event.{Event}
use Rattle.machine_state.specs.declared.Event.TheVariants.{Call, Store, Fault, Exit}
use Rattle.machine_state.specs.declared.Machine.{Machine}
use Rattle.machine_state.specs.Machine.{past_comm, max_cells, max_cpus}
use Rattle.cpu_set.specs.CpuSet.{member}
use Rattle.cpu_set.proofs.Laws.{member-lt}
use Rattle.rules.specs.State.{root_id, cpu_at, is_final, answered}
use Rattle.rules.specs.Unobeyed.{off, bad_cpu, stopped, held, store_denied, denied, unobeyed}
use Rattle.unobeyed.specs.Admission.{Admission, admitted, Follows, cpu_rows, AdmitsOn, Placed, Admits}

pub applies : (m : Machine) (when : Bool) (a : Answer) (rows : List (Refusal _)) → when ≡ true → Follows (Err a) ((when ⇒ answered a m) ∷ rows) m
unfolding admitted
applies m when a rows e otherwise = rule-holds _ rows otherwise e

pub passes : (m : Machine) (r : Admission) (row : Refusal _) (rows : List (Refusal _)) → row.when ≡ false → Follows r rows m → Follows r (row ∷ rows) m
passes m r row rows e f otherwise = f otherwise ∙ rule-passed row rows otherwise e

pub none_left : (m : Machine) → Follows (Ok tt) [] m
unfolding admitted
none_left m otherwise = no-rule otherwise

-- a row whose test is the negation of what the code found
pub negated : (found is v : Bool) → found ≡ is → found ≡ v → not is ≡ not v
negated found is v e t = ap not (sym e ∙ t)

-- the row of a held event
pub held-row : (root found is v : Bool) → found ≡ is → (root && found) ≡ v → (root && is) ≡ v
held-row root found is v e t = ap (λ (b : Bool). root && b) (sym e) ∙ t

-- a refused event is not admitted
pub not-admitted : {B : Type 0} (a : Answer) → ◌≡◌ {A = Admission} (Err a) (Ok tt) → B
not-admitted a q = absurd (let z : ◌≡◌ {A = ℕ} 0 1 = ap kind q in omega arith)
  where
    kind : Admission → ℕ
    kind (Err a) = 0
    kind (Ok tt) = 1

-- a CPU of the boot set is a place of the table
pub in-table : (cpu boot : ℕ) (found : Bool) → found ≡ member cpu boot → found ≡ true → cpu < max_cpus
in-table cpu boot found e n = member-lt cpu boot (holds (sym e ∙ n))

-- past the table's end no words are mapped
pub past-denied : (m : Machine) (cpu word : ℕ) → length m.comms ≡ max_cells → max_cells ≤ (cpu_at m cpu).cell → true ≡ store_denied cpu word m
unfolding store_denied
past-denied m cpu word l h =
    let cell = (cpu_at m cpu).cell in
    let short : length m.comms ≤ cell = omega (arith, l, h) in
    sym (ap (λ (w : CommRegion). eqb cell root_id || not w.mapped || ltb 2 word || eqb word 2 && is_final w.cell_state) (get_or-eq_default m.comms past_comm short)
    ∙ past (eqb cell root_id) (ltb 2 word) (eqb word 2 && is_final past_comm.cell_state))
  where
    past : (a b c : Bool) → (a || not false || b || c) ≡ true
    past true b c = refl
    past false b c = refl

module _ (m : Machine) (cpu : ℕ) where
  -- a row that never applies says nothing
  pub without-bad : (r : Admission) → Follows r (cpu_rows cpu false m) m → Follows r (off m ∷ bad_cpu cpu m ∷ stopped cpu m ∷ held cpu m ∷ []) m
  unfolding first_rule
  without-bad r f = f

  -- a store has one more row than a call
  module _ (word value : ℕ) where
    pub store-refused : (r : Admission) (a : Answer) → r ≡ Err a → Follows r (cpu_rows cpu false m) m → Follows (Err a) (unobeyed (Store cpu word value) m) m
    unfolding first_rule admitted unobeyed
    store-refused r a e f = λ otherwise. (rw e at f) (first_rule (denied cpu word m ∷ []) otherwise)

    store-on : (on r : Admission) → on ≡ Ok tt → Follows on (cpu_rows cpu false m) m → Follows r (denied cpu word m ∷ []) m
        → Follows r (unobeyed (Store cpu word value) m) m
    unfolding first_rule admitted unobeyed
    store-on on r e f g otherwise = g otherwise ∙ (rw e at f) (first_rule (denied cpu word m ∷ []) otherwise)

    pub store-denied : (on : Admission) → on ≡ Ok tt → Follows on (cpu_rows cpu false m) m → store_denied cpu word m ≡ true
        → Follows (Err Denied) (unobeyed (Store cpu word value) m) m
    store-denied on e f t = store-on on (Err Denied) e f (applies m _ Denied [] t)

    pub store-allowed : (on : Admission) → on ≡ Ok tt → Follows on (cpu_rows cpu false m) m → store_denied cpu word m ≡ false
        → Follows (Ok tt) (unobeyed (Store cpu word value) m) m
    store-allowed on e f t = store-on on (Ok tt) e f (passes m (Ok tt) _ [] t (none_left m))

-- an event is admitted as its own rows say
module _ (m : Machine) (e : Event) (r : Admission) where
  pub admits-at : (e₁ : Event) → e ≡ e₁ → Admits m e₁ r → Admits m e r
  admits-at e₁ q a = subst (λ (x : Event). Admits m x r) (sym q) a

  pub admits-call : (cpu code a1 a2 : ℕ) → e ≡ Call cpu code a1 a2 → AdmitsOn m cpu false r → Admits m e r
  unfolding unobeyed Placed
  admits-call cpu code a1 a2 q a = admits-at (Call cpu code a1 a2) q (record { follows = without-bad m cpu r a.follows; placed = a.in_table })

  pub admits-fault : (cpu : ℕ) → e ≡ Fault cpu → AdmitsOn m cpu false r → Admits m e r
  unfolding unobeyed Placed
  admits-fault cpu q a = admits-at (Fault cpu) q (record { follows = without-bad m cpu r a.follows; placed = a.in_table })

  pub admits-exit : (cpu kind : ℕ) → e ≡ Exit cpu kind → AdmitsOn m cpu (ltb 3 kind) r → Admits m e r
  unfolding unobeyed Placed
  admits-exit cpu kind q a =
      admits-at (Exit cpu kind) q (record { follows = a.follows; placed = λ t. (a.in_table t, ltb-false 3 kind (a.not_bad t)) })
