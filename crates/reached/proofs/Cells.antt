-- Laws of the history's list of cells: what a cell created or destroyed leaves of its IDs, records and costs. Each follows by induction on the list.
-- Assumes nothing.
use Rattle.std.proofs.Common.{◌≡◌, refl, sym, ap, ◌∙◌, subst, Bool, true, false, not, ◌&&◌, ◌||◌, true≢false, List, [], ◌∷◌, ℕ, ◌+◌, arith, eqb, eqb-true, ne_eqb}
use Rattle.std.proofs.lemmas.Bool.{or_parts}
use Rattle.base.proofs.Tests.{fails, eq→eqb}
use Rattle.cell_record.specs.declared.CellConfig.{CellConfig}
use Rattle.cell_record.specs.CellRecord.{cell_of}
use Rattle.rules.specs.Effects.{pool_cost}
use Rattle.history.specs.History.{Created, has_cell, record_brought, cells_but}
use Rattle.reached.specs.Pool.{costs}
use Rattle.reached.proofs.Members.{chosen, passed}

-- no two cells have one ID
abbrev pub Distinct : List Created → Type 0
Distinct [] = Unit {0}
Distinct (c ∷ cs) = (has_cell c.id cs ≡ false) × Distinct cs

-- the list with a cell more
pub has_first : (c : Created) (cs : List Created) (id : ℕ) → has_cell id (c ∷ cs) ≡ (eqb c.id id || has_cell id cs)
unfolding has_cell
has_first c cs id = refl

pub record-first : (c : Created) (cs : List Created) (id : ℕ) → eqb c.id id ≡ true → record_brought id (c ∷ cs) ≡ cell_of c.bytes
unfolding record_brought
record-first c cs id e = chosen _ _ e

pub record-later : (c : Created) (cs : List Created) (id : ℕ) → eqb c.id id ≡ false → record_brought id (c ∷ cs) ≡ record_brought id cs
unfolding record_brought
record-later c cs id e = passed _ _ e

-- the list with a cell less
without-this : (gone : ℕ) (c : Created) (cs : List Created) → eqb c.id gone ≡ true → cells_but gone (c ∷ cs) ≡ cells_but gone cs
unfolding cells_but
without-this gone c cs e = chosen _ _ e

without_other : (gone : ℕ) (c : Created) (cs : List Created) → eqb c.id gone ≡ false → cells_but gone (c ∷ cs) ≡ c ∷ cells_but gone cs
unfolding cells_but
without_other gone c cs e = passed _ _ e

module _ (gone : ℕ) where
  pub has-without : (cs : List Created) (id : ℕ) → has_cell id (cells_but gone cs) ≡ (not (eqb id gone) && has_cell id cs)
  unfolding has_cell cells_but
  has-without [] id = none (eqb id gone)
    where
      none : (b : Bool) → false ≡ (not b && false)
      none true = refl
      none false = refl
  has-without (c ∷ cs) id = go (eqb c.id gone) refl (has-without cs id)
    where
      go : (b : Bool) → eqb c.id gone ≡ b → has_cell id (cells_but gone cs) ≡ (not (eqb id gone) && has_cell id cs)
          → has_cell id (cells_but gone (c ∷ cs)) ≡ (not (eqb id gone) && (eqb c.id id || has_cell id cs))
      go true e more = ap (has_cell id) (without-this gone c cs e) ∙ more ∙ dropped (eqb id gone) refl
        where
          dropped : (b : Bool) → eqb id gone ≡ b → (not (eqb id gone) && has_cell id cs) ≡ (not (eqb id gone) && (eqb c.id id || has_cell id cs))
          dropped true q = rw q
          dropped false q =
              let other : eqb c.id id ≡ false = ne_eqb _ _ (λ r. fails q (eq→eqb id gone (sym r ∙ eqb-true c.id gone e))) in
              ap (λ (x : Bool). not (eqb id gone) && (x || has_cell id cs)) (sym other)
      go false e more = ap (has_cell id) (without_other gone c cs e) ∙ ap (λ (x : Bool). eqb c.id id || x) more ∙ kept (eqb c.id id) refl
        where
          kept : (b : Bool) → eqb c.id id ≡ b → (eqb c.id id || (not (eqb id gone) && has_cell id cs)) ≡ (not (eqb id gone) && (eqb c.id id || has_cell id cs))
          kept true q =
              let other : eqb id gone ≡ false = ne_eqb _ _ (λ r. fails e (eq→eqb c.id gone (eqb-true c.id id q ∙ r))) in
              rw (q, other)
          kept false q = rw q

  pub record-without : (cs : List Created) (id : ℕ) → (id ≡ gone → ⊥) → record_brought id (cells_but gone cs) ≡ record_brought id cs
  unfolding record_brought cells_but
  record-without [] id n = refl
  record-without (c ∷ cs) id n = go (eqb c.id gone) refl (eqb c.id id) refl (record-without cs id n)
    where
      go : (b : Bool) → eqb c.id gone ≡ b → (d : Bool) → eqb c.id id ≡ d → record_brought id (cells_but gone cs) ≡ record_brought id cs
          → record_brought id (cells_but gone (c ∷ cs)) ≡ record_brought id (c ∷ cs)
      go true e true q more = absurd (n (sym (eqb-true c.id id q) ∙ eqb-true c.id gone e))
      go true e false q more = ap (record_brought id) (without-this gone c cs e) ∙ more ∙ sym (record-later c cs id q)
      go false e true q more = ap (record_brought id) (without_other gone c cs e) ∙ record-first c (cells_but gone cs) id q ∙ sym (record-first c cs id q)
      go false e false q more = ap (record_brought id) (without_other gone c cs e) ∙ record-later c (cells_but gone cs) id q ∙ more ∙ sym (record-later c cs id q)

  pub distinct_without : (cs : List Created) → Distinct cs → Distinct (cells_but gone cs)
  unfolding cells_but
  distinct_without [] d = tt
  distinct_without (c ∷ cs) d = go (eqb c.id gone) refl (distinct_without cs d.1)
    where
      go : (b : Bool) → eqb c.id gone ≡ b → Distinct (cells_but gone cs) → Distinct (cells_but gone (c ∷ cs))
      go true e more = subst Distinct (sym (without-this gone c cs e)) more
      go false e more =
          subst Distinct (sym (without_other gone c cs e))
          (has-without cs c.id ∙ ap (λ (x : Bool). not (eqb c.id gone) && x) d.0 ∙ none (eqb c.id gone), more)
        where
          none : (b : Bool) → (not b && false) ≡ false
          none true = refl
          none false = refl

  -- a list that has no cell of this ID is kept
  without-absent : (cs : List Created) → has_cell gone cs ≡ false → cells_but gone cs ≡ cs
  unfolding has_cell cells_but
  without-absent [] e = refl
  without-absent (c ∷ cs) e =
      let parts : (eqb c.id gone ≡ false) × (has_cell gone cs ≡ false) = or_parts (eqb c.id gone) (has_cell gone cs) e in
      without_other gone c cs parts.0 ∙ ap (λ (l : List Created). c ∷ l) (without-absent cs parts.1)

  -- what is given back
  pub costs-without : (cs : List Created) → Distinct cs → has_cell gone cs ≡ true → costs (cells_but gone cs) + pool_cost (record_brought gone cs).region_count ≡ costs cs
  unfolding has_cell costs
  costs-without [] d e = absurd (true≢false (sym e))
  costs-without (c ∷ cs) d e = go (eqb c.id gone) refl (costs-without cs d.1) e
    where
      go : (b : Bool) → eqb c.id gone ≡ b
          → (has_cell gone cs ≡ true → costs (cells_but gone cs) + pool_cost (record_brought gone cs).region_count ≡ costs cs)
          → (eqb c.id gone || has_cell gone cs) ≡ true
          → costs (cells_but gone (c ∷ cs)) + pool_cost (record_brought gone (c ∷ cs)).region_count ≡ pool_cost (cell_of c.bytes).region_count + costs cs
      go true q more h =
          let id-is : c.id ≡ gone = eqb-true c.id gone q in
          let absent : has_cell gone cs ≡ false = subst (λ (n : ℕ). has_cell n cs ≡ false) id-is d.0 in
          let list : cells_but gone (c ∷ cs) ≡ cs = without-this gone c cs q ∙ without-absent cs absent in
          let this : record_brought gone (c ∷ cs) ≡ cell_of c.bytes = record-first c cs gone q in
          let l : costs (cells_but gone (c ∷ cs)) ≡ costs cs = ap costs list in
          let r : (record_brought gone (c ∷ cs)).region_count ≡ (cell_of c.bytes).region_count = ap (λ (x : CellConfig). x.region_count) this in
          omega arith
      go false q more h =
          let rest : has_cell gone cs ≡ true = sym (ap (λ (x : Bool). x || has_cell gone cs) q) ∙ h in
          let l : costs (cells_but gone (c ∷ cs)) ≡ pool_cost (cell_of c.bytes).region_count + costs (cells_but gone cs) = ap costs (without_other gone c cs q) in
          let r : (record_brought gone (c ∷ cs)).region_count ≡ (record_brought gone cs).region_count =
          ap (λ (x : CellConfig). x.region_count) (record-later c cs gone q) in
          let m : costs (cells_but gone cs) + pool_cost (record_brought gone cs).region_count ≡ costs cs = more rest in
          omega arith
