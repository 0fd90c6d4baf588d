-- Destroy keeps the invariant: the cell gives its CPUs back to root, and no other cell names them. Assumes nothing.
use Rattle.std.proofs.Common.{◌≡◌, refl, sym, ap, ◌∙◌, subst, Bool, true, false, not, ◌||◌, ◌⊎◌, inl, inr, ℕ, arith, eqb, ne_eqb}
use Rattle.std.proofs.lemmas.Bool.{and_from, and_parts, both_ways, false_from_ne_true, not-true, or_cases, or_left, or_right}
use Rattle.base.specs.Lists.{any}
use Rattle.base.proofs.Tests.{fails, eq→eqb}
use Rattle.cpu_set.specs.CpuSet.{member}
use Rattle.regions.specs.Regions.{comm}
use Rattle.cell_record.specs.declared.CellConfig.{CellConfig}
use Rattle.cell_record.specs.CellRecord.{cell_regions}
use Rattle.reached.proofs.Members.{chosen, passed}
use Rattle.reached.proofs.Table.{Table}
use Rattle.reached.proofs.Changes.{destroyed}
use Rattle.reached.proofs.Sound.{IsCell, Names, Valid, Sound, subset-member, clear_both}

module _ (t : Table) (id : ℕ) (s : Sound t) (target : IsCell t id) where
  abbrev rest : Table
  rest = destroyed id t

  -- a cell that is left is one from before, and another
  pub record Left (i : ℕ) : Type 0 where
    pub distinct : i ≡ id → ⊥
    pub before : IsCell t i
    pub config : rest.config i ≡ t.config i
    pub mapped : rest.mapped i ≡ t.mapped i

  pub left : (i : ℕ) → IsCell rest i → Left i
  left i c =
      let parts : (not (eqb i id) ≡ true) × (t.is_live i ≡ true) = and_parts (not (eqb i id)) (t.is_live i) c.lives in
      let e : eqb i id ≡ false = not-true (eqb i id) parts.0 in
      record {
        distinct = λ q. fails e (eq→eqb i id q);
        before = record { other = c.other; lives = parts.1 };
        config = passed _ _ e;
        mapped = passed _ _ e;
      }

  remains : (i : ℕ) → IsCell t i → (i ≡ id → ⊥) → IsCell rest i
  remains i c n = record { other = c.other; lives = and_from _ _ (ap not (ne_eqb i id n)) c.lives }

  named : (k i : ℕ) → Left i → Names (rest.config i) k → Names (t.config i) k
  named k i l n = subst (λ (c : CellConfig). Names c k) l.config n

  not-target : (k i : ℕ) → Left i → Names (t.config i) k → Names (t.config id) k → ⊥
  not-target k i l n m = (s.apart i id l.before target l.distinct).cpus k n m

  pub sound-destroyed : Sound rest
  sound-destroyed = record {
    cells-room = s.cells-room;
    comms-room = s.comms-room;
    cpus-room = s.cpus-room;
    accepted = s.accepted;
    pool-small = s.pool-small;
    root-lives = and_from _ _ (ap not (ne_eqb 0 id (λ q. target.other (sym q)))) s.root-lives;
    few = λ i l. s.few i (and_parts (not (eqb i id)) (t.is_live i) l).1;
    valid = λ i c. let l = left i c in subst (Valid t.system) (sym l.config) (s.valid i l.before);
    with-region = λ i c.
        let l = left i c in l.mapped ∙ s.with-region i l.before ∙ ap (λ (c : CellConfig). any comm (cell_regions c)) (sym l.config);
    apart = λ i j c d n.
        let l = left i c in let r = left j d in clear_both _ _ _ _ l.config r.config (s.apart i j l.before r.before n);
    root-started = λ k r. started k (or_cases (t.root_has k) (member k (t.config id).cpus) r);
    root-free = λ k r i c n. free k (or_cases (t.root_has k) (member k (t.config id).cpus) r) i (left i c) n;
    root-rest = λ k b none. all-else k b none (member k (t.config id).cpus) refl;
    cell-owns = λ k i c n.
        let l = left i c in
        let kept : member k (t.config id).cpus ≡ false = false_from_ne_true _ (λ m. not-target k i l (named k i l n) m) in
        passed _ _ kept ∙ s.cell-owns k i l.before (named k i l n);
    root-owns = λ k r. root k r (member k (t.config id).cpus) refl;
    pool-fits = omega (arith, s.pool-fits);
  }
    where
      started : (k : ℕ) → (t.root_has k ≡ true) ⊎ Names (t.config id) k → member k t.system.cpus ≡ true
      started k (inl r) = s.root-started k r
      started k (inr n) = subset-member _ _ k (s.valid id target).started n

      free : (k : ℕ) → (t.root_has k ≡ true) ⊎ Names (t.config id) k → (i : ℕ) → Left i → Names (rest.config i) k → ⊥
      free k (inl r) i l n = s.root-free k r i l.before (named k i l n)
      free k (inr m) i l n = not-target k i l (named k i l n) m

      all-else : (k : ℕ) → member k t.system.cpus ≡ true → ((i : ℕ) → IsCell rest i → Names (rest.config i) k → ⊥)
          → (b : Bool) → member k (t.config id).cpus ≡ b → (t.root_has k || member k (t.config id).cpus) ≡ true
      all-else k b none true e = or_right (t.root_has k) _ e
      all-else k b none false e =
          or_left _ (member k (t.config id).cpus) (s.root-rest k b (λ i c n. none i (remains i c (other i n)) (still i c n)))
        where
          other : (i : ℕ) → Names (t.config i) k → i ≡ id → ⊥
          other i n q = both_ways _ e (subst (λ (j : ℕ). Names (t.config j) k) q n)

          still : (i : ℕ) → IsCell t i → Names (t.config i) k → Names (rest.config i) k
          still i c n = subst (λ (c : CellConfig). Names c k) (sym (left i (remains i c (other i n))).config) n

      root : (k : ℕ) → (t.root_has k || member k (t.config id).cpus) ≡ true → (b : Bool) → member k (t.config id).cpus ≡ b → rest.owner k ≡ 0
      root k r true e = chosen _ _ e
      root k r false e = passed _ _ e ∙ s.root-owns k (by-root (or_cases (t.root_has k) (member k (t.config id).cpus) r))
        where
          by-root : (t.root_has k ≡ true) ⊎ Names (t.config id) k → t.root_has k ≡ true
          by-root (inl q) = q
          by-root (inr n) = absurd (both_ways _ e n)
