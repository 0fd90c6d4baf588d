-- Create keeps the invariant: a new cell takes its CPUs from root, whose set has no CPU of another cell, and a region of it that meets another
-- cell's is shared in both. Assumes nothing.
use Rattle.std.proofs.Common.{◌≡◌, refl, sym, ap, ◌∙◌, subst, Bool, true, false, not, ◌&&◌, ◌||◌, ◌⊎◌, inl, inr, ℕ, ◌+◌, ◌%◌, ◌^◌, ◌≤◌, ◌<◌, mod-eq_of_lt, arith, eqb, eqb-true, ne_eqb}
use Rattle.std.proofs.lemmas.Bool.{and_from, and_parts, both_ways, false_from_ne_true, not-true, or_cases, or_left, or_right}
use Rattle.base.specs.Lists.{any}
use Rattle.base.proofs.Tests.{is_true, fails, eq→eqb}
use Rattle.cpu_set.specs.CpuSet.{member}
use Rattle.regions.specs.Regions.{comm}
use Rattle.cell_record.specs.declared.CellConfig.{CellConfig}
use Rattle.cell_record.specs.CellRecord.{cell_regions}
use Rattle.rules.specs.Effects.{pool_cost}
use Rattle.reached.proofs.Members.{chosen, passed}
use Rattle.reached.proofs.Table.{Table}
use Rattle.reached.proofs.Changes.{created}
use Rattle.reached.proofs.Sound.{Fits, IsCell, Names, Clear, Valid, Sound, clear-sym, clear_both}

module _ (t : Table) (id : ℕ) (new : CellConfig) (s : Sound t) (f : Fits t id new) where
  abbrev next : Table
  next = created id new t

  -- a cell of the new table is the new one, or one from before
  data Cell (i : ℕ) : Type 0 where
    fresh : i ≡ id → next.config i ≡ new → next.mapped i ≡ any comm (cell_regions new) → Cell i
    older : (i ≡ id → ⊥) → IsCell t i → next.config i ≡ t.config i → next.mapped i ≡ t.mapped i → Cell i

  view : (i : ℕ) → IsCell next i → Cell i
  view i c = go (eqb i id) refl c.lives
    where
      go : (b : Bool) → eqb i id ≡ b → (eqb i id || t.is_live i) ≡ true → Cell i
      go true e l = fresh (eqb-true i id e) (chosen _ _ e) (chosen _ _ e)
      go false e l = older (λ q. fails e (eq→eqb i id q)) (record { other = c.other; lives = sym (ap (λ (b : Bool). b || t.is_live i) e) ∙ l }) (passed _ _ e) (passed _ _ e)

  -- a cell from before is one of the new table
  stays : (i : ℕ) → IsCell t i → IsCell next i
  stays i c = record { other = c.other; lives = or_right (eqb i id) _ c.lives }

  distinct : (i : ℕ) → IsCell t i → i ≡ id → ⊥
  distinct i c e = both_ways _ (ap t.is_live e ∙ f.free) c.lives

  config-old : (i : ℕ) → IsCell t i → next.config i ≡ t.config i
  config-old i c = let e : eqb i id ≡ false = ne_eqb i id (distinct i c) in passed _ _ e

  config-new : next.config id ≡ new
  config-new = let e : eqb id id ≡ true = is_true (eqb id id) (eq→eqb id id refl) in chosen _ _ e

  is-new : IsCell next id
  is-new = record { other = f.other; lives = or_left _ (t.is_live id) (is_true (eqb id id) (eq→eqb id id refl)) }

  -- no other cell has a CPU of the new one's
  not-others : (k i : ℕ) → IsCell t i → Names (t.config i) k → Names new k → ⊥
  not-others k i c n w = s.root-free k (f.from-root k w) i c n

  clear-new : (i : ℕ) → IsCell t i → Clear (t.config i) new
  clear-new i c = record { cpus = λ k n w. not-others k i c n w; regions = f.regions i c }

  pub sound-created : Sound next
  sound-created = record {
    cells-room = s.cells-room;
    comms-room = s.comms-room;
    cpus-room = s.cpus-room;
    accepted = s.accepted;
    pool-small = s.pool-small;
    root-lives = or_right (eqb 0 id) _ s.root-lives;
    few = λ i l. live-few i (or_cases (eqb i id) (t.is_live i) l);
    valid = λ i c. cell-valid i (view i c);
    with-region = λ i c. cell-region i (view i c);
    apart = λ i j c d n. cells-apart i j (view i c) (view j d) n;
    root-started = λ k r. s.root-started k (and_parts (t.root_has k) _ r).0;
    root-free = λ k r i c n. free k (and_parts (t.root_has k) _ r) i (view i c) n;
    root-rest = λ k b none. rest k b none;
    cell-owns = λ k i c n. owns k i (view i c) n;
    root-owns = λ k r. root k (and_parts (t.root_has k) _ r);
    pool-fits = fits;
  }
    where
      live-few : (i : ℕ) → (eqb i id ≡ true) ⊎ (t.is_live i ≡ true) → i < 16
      live-few i (inl e) = subst (λ (n : ℕ). n < 16) (sym (eqb-true i id e)) f.below
      live-few i (inr l) = s.few i l

      cell-valid : (i : ℕ) → Cell i → Valid t.system (next.config i)
      cell-valid i (fresh e q w) = subst (Valid t.system) (sym q) f.valid
      cell-valid i (older e c q w) = subst (Valid t.system) (sym q) (s.valid i c)

      cell-region : (i : ℕ) → Cell i → next.mapped i ≡ any comm (cell_regions (next.config i))
      cell-region i (fresh e q w) = w ∙ ap (λ (c : CellConfig). any comm (cell_regions c)) (sym q)
      cell-region i (older e c q w) = w ∙ s.with-region i c ∙ ap (λ (c : CellConfig). any comm (cell_regions c)) (sym q)

      cells-apart : (i j : ℕ) → Cell i → Cell j → (i ≡ j → ⊥) → Clear (next.config i) (next.config j)
      cells-apart i j (fresh e q w) (fresh e2 q2 w2) n = absurd (n (e ∙ sym e2))
      cells-apart i j (fresh e q w) (older e2 d q2 w2) n = clear_both _ _ _ _ q q2 (clear-sym _ _ (clear-new j d))
      cells-apart i j (older e c q w) (fresh e2 q2 w2) n = clear_both _ _ _ _ q q2 (clear-new i c)
      cells-apart i j (older e c q w) (older e2 d q2 w2) n = clear_both _ _ _ _ q q2 (s.apart i j c d n)

      free : (k : ℕ) → (t.root_has k ≡ true) × (not (member k new.cpus) ≡ true) → (i : ℕ) → Cell i → Names (next.config i) k → ⊥
      free k r i (fresh e q w) n = both_ways _ (not-true (member k new.cpus) r.1) (subst (λ (c : CellConfig). Names c k) q n)
      free k r i (older e c q w) n = s.root-free k r.0 i c (subst (λ (c : CellConfig). Names c k) q n)

      rest : (k : ℕ) → member k t.system.cpus ≡ true → ((i : ℕ) → IsCell next i → Names (next.config i) k → ⊥)
          → (t.root_has k && not (member k new.cpus)) ≡ true
      rest k b none =
          let unnamed : member k new.cpus ≡ false = false_from_ne_true _ (λ n. none id is-new (subst (λ (c : CellConfig). Names c k) (sym config-new) n)) in
          and_from _ _ (s.root-rest k b (λ i c n. none i (stays i c) (subst (λ (c : CellConfig). Names c k) (sym (config-old i c)) n))) (ap not unnamed)

      owns : (k i : ℕ) → Cell i → Names (next.config i) k → next.owner k ≡ i
      owns k i (fresh e q w) n = let given : Names new k = subst (λ (c : CellConfig). Names c k) q n in chosen _ _ given ∙ sym e
      owns k i (older e c q w) n =
          let named : Names (t.config i) k = subst (λ (c : CellConfig). Names c k) q n in
          let kept : member k new.cpus ≡ false = false_from_ne_true _ (λ w. not-others k i c named w) in
          passed _ _ kept ∙ s.cell-owns k i c named

      root : (k : ℕ) → (t.root_has k ≡ true) × (not (member k new.cpus) ≡ true) → next.owner k ≡ 0
      root k r = let kept : member k new.cpus ≡ false = not-true (member k new.cpus) r.1 in passed _ _ kept ∙ s.root-owns k r.0

      small : (t.pool + pool_cost new.region_count) % 2 ^ 32 ≡ t.pool + pool_cost new.region_count
      small = mod-eq_of_lt (omega (arith, f.room, s.pool-small))

      fits : (t.pool + pool_cost new.region_count) % 2 ^ 32 ≤ t.system.pool.pages
      fits = subst (λ (n : ℕ). n ≤ t.system.pool.pages) (sym small) f.room
