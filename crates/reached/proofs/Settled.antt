-- The machine's table agrees with the history's cells, and each effect keeps that. Create's ID is the smallest that is free in both; Destroy takes
-- one cell from both, and with it its cost; Disable is Destroy of one live cell after the other. Assumes nothing.
use Rattle.std.proofs.Common.{◌≡◌, refl, sym, ap, ◌∙◌, subst, Bool, true, false, not, ◌&&◌, ◌||◌, List, [], ◌∷◌, ℕ, zero, suc, ◌+◌, ◌^◌, ◌≤◌, ◌<◌, mod-eq_of_lt, arith, eqb, eq-eqb, eqb-true, ne_eqb}
use Rattle.std.proofs.lemmas.Bool.{and_parts, both_ways, not-true}
use Rattle.std.proofs.Math.Decide.{ℕ_discrete}
use Rattle.base.specs.Lists.{from}
use Rattle.base.proofs.Tests.{fails, eq→eqb}
use Rattle.cell_record.specs.declared.CellConfig.{CellConfig}
use Rattle.cell_record.specs.CellRecord.{cell_of}
use Rattle.machine_state.specs.declared.Power.{Power}
use Rattle.machine_state.specs.declared.Power.TheVariants.{Disabled}
use Rattle.machine_state.specs.declared.Machine.{Machine}
use Rattle.rules.specs.State.{live, cell_ids, with_power}
use Rattle.rules.specs.Unobeyed.{is_on}
use Rattle.rules.specs.Create.{free_id}
use Rattle.rules.specs.Effects.{pool_cost, cell_created, cell_destroyed, all_destroyed, disabled}
use Rattle.rules.proofs.Ids.{by-test, first-same}
use Rattle.history.specs.History.{Created, has_cell, record_brought, cells_but, smallest_free}
use Rattle.reached.specs.Pool.{costs}
use Rattle.reached.proofs.Members.{chosen, passed}
use Rattle.reached.proofs.Table.{Table, table_of}
use Rattle.reached.proofs.Changes.{created, destroyed, created-table, destroyed-table}
use Rattle.reached.proofs.Sound.{Fits, IsCell, Sound}
use Rattle.reached.proofs.Created.{sound-created}
use Rattle.reached.proofs.Destroyed.{sound-destroyed}
use Rattle.reached.proofs.Cells.{Distinct, has_first, record-first, record-later, has-without, record-without, distinct_without, costs-without}
use Rattle.system_record.specs.declared.SystemConfig.{SystemConfig}

-- `boot` is what the system record said
module _ (boot : SystemConfig) where
  pub record Follows (cs : List Created) (t : Table) : Type 0 where
    pub lives : (id : ℕ) → (id ≡ 0 → ⊥) → t.is_live id ≡ has_cell id cs
    pub no-root : has_cell 0 cs ≡ false
    pub records : (id : ℕ) → has_cell id cs ≡ true → t.config id ≡ record_brought id cs
    pub distinct : Distinct cs
    pub pool : t.pool ≡ t.system.pool.used + costs cs
    pub off : is_on t.power ≡ false → cs ≡ []
    pub booted : t.system ≡ boot

  pub record Settled (cs : List Created) (t : Table) : Type 0 where
    pub sound : Sound t
    pub follows : Follows cs t

  -- ---- Create

  module _ (cs : List Created) (t : Table) (id : ℕ) (bytes : List ℕ) (h : Settled cs t) (f : Fits t id (cell_of bytes)) (on : is_on t.power ≡ true) where
    abbrev new : Created
    new = record { id = id; bytes = bytes }

    abbrev more : List Created
    more = new ∷ cs

    absent : has_cell id cs ≡ false
    absent = sym (h.follows.lives id f.other) ∙ f.free

    swap : (a b : ℕ) → eqb a b ≡ eqb b a
    swap a b = go (eqb a b) refl
      where
        go : (x : Bool) → eqb a b ≡ x → x ≡ eqb b a
        go true e = sym (ap (λ (n : ℕ). eqb n a) (sym (eqb-true a b e)) ∙ eq-eqb a a refl)
        go false e = sym (ne_eqb _ _ (λ q. fails e (eq→eqb a b (sym q))))

    record-at : (k : ℕ) → has_cell k more ≡ true → (b : Bool) → eqb id k ≡ b → (created id (cell_of bytes) t).config k ≡ record_brought k more
    record-at k l true e = chosen _ _ (swap k id ∙ e) ∙ sym (record-first new cs k e)
    record-at k l false e =
        let old : has_cell k cs ≡ true = sym (has_first new cs k ∙ ap (λ (b : Bool). b || has_cell k cs) e) ∙ l in
        passed _ _ (swap k id ∙ e) ∙ h.follows.records k old ∙ sym (record-later new cs k e)

    pub settled-created : Settled more (created id (cell_of bytes) t)
    unfolding costs
    settled-created = record {
      sound = sound-created t id (cell_of bytes) h.sound f;
      follows = record {
        lives = λ k n.
            ap (λ (b : Bool). b || t.is_live k) (swap k id) ∙ ap (λ (b : Bool). eqb id k || b) (h.follows.lives k n) ∙ sym (has_first new cs k);
        no-root = has_first new cs 0 ∙ ap (λ (b : Bool). b || has_cell 0 cs) (ne_eqb _ _ f.other) ∙ h.follows.no-root;
        records = λ k l. record-at k l (eqb id k) refl;
        distinct = (absent, h.follows.distinct);
        pool =
            let small : t.pool + pool_cost (cell_of bytes).region_count < 2 ^ 32 = omega (arith, f.room, h.sound.pool-small) in
            let sum : t.pool ≡ t.system.pool.used + costs cs = h.follows.pool in
            mod-eq_of_lt small ∙ omega arith;
        off = λ e. absurd (both_ways _ e on);
        booted = h.follows.booted;
      };
    }

  -- ---- Destroy

  module _ (cs : List Created) (t : Table) (id : ℕ) (h : Settled cs t) (target : IsCell t id) where
    present : has_cell id cs ≡ true
    present = sym (h.follows.lives id target.other) ∙ target.lives

    left-cells : (k : ℕ) → has_cell k (cells_but id cs) ≡ true → (not (eqb k id) ≡ true) × (has_cell k cs ≡ true)
    left-cells k l = and_parts (not (eqb k id)) (has_cell k cs) (sym (has-without id cs k) ∙ l)

    emptied : (b : Bool) → (not b && has_cell 0 cs) ≡ false
    emptied true = refl
    emptied false = h.follows.no-root

    pub settled-destroyed : Settled (cells_but id cs) (destroyed id t)
    unfolding cells_but
    settled-destroyed = record {
      sound = sound-destroyed t id h.sound target;
      follows = record {
        lives = λ k n. ap (λ (b : Bool). not (eqb k id) && b) (h.follows.lives k n) ∙ sym (has-without id cs k);
        no-root = has-without id cs 0 ∙ emptied (eqb 0 id);
        records = λ k l.
            let parts = left-cells k l in
            let other : eqb k id ≡ false = not-true (eqb k id) parts.0 in
            passed _ _ other ∙ h.follows.records k parts.1 ∙ sym (record-without id cs k (λ q. fails other (eq→eqb k id q)));
        distinct = distinct_without id cs h.follows.distinct;
        pool =
            let back : costs (cells_but id cs) + pool_cost (record_brought id cs).region_count ≡ costs cs = costs-without id cs h.follows.distinct present in
            let kept : (t.config id).region_count ≡ (record_brought id cs).region_count =
            ap (λ (c : CellConfig). c.region_count) (h.follows.records id present) in
            let sum : t.pool ≡ t.system.pool.used + costs cs = h.follows.pool in
            omega arith;
        off = λ e. ap (cells_but id) (h.follows.off e);
        booted = h.follows.booted;
      };
    }

  -- ---- on the machine

  pub after-create : (cs : List Created) (m : Machine) (id : ℕ) (bytes : List ℕ) → Settled cs (table_of m) → Fits (table_of m) id (cell_of bytes) → is_on m.power ≡ true
      → Settled (record { id = id; bytes = bytes } ∷ cs) (table_of (cell_created id (cell_of bytes) m))
  after-create cs m id bytes h f on =
      subst (Settled (record { id = id; bytes = bytes } ∷ cs))
      (sym (created-table id (cell_of bytes) m f.below h.sound.cells-room h.sound.comms-room h.sound.cpus-room))
      (settled-created cs (table_of m) id bytes h f on)

  pub after-destroy : (cs : List Created) (m : Machine) (id : ℕ) → Settled cs (table_of m) → IsCell (table_of m) id → Settled (cells_but id cs) (table_of (cell_destroyed id m))
  after-destroy cs m id h c =
      subst (Settled (cells_but id cs))
      (sym (destroyed-table id m (h.sound.few id c.lives) h.sound.cells-room h.sound.comms-room h.sound.cpus-room))
      (settled-destroyed cs (table_of m) id h c)

  -- what is live after Destroy was live before, and is not its target
  pub live-after : (m : Machine) (id : ℕ) (h : Sound (table_of m)) → IsCell (table_of m) id → (k : ℕ) → live (cell_destroyed id m) k ≡ (not (eqb k id) && live m k)
  live-after m id h c k =
      ap (λ (t : Table). t.is_live k) (destroyed-table id m (h.few id c.lives) h.cells-room h.comms-room h.cpus-room)

  -- the new ID is the smallest that the history has free
  pub same-free : (cs : List Created) (m : Machine) → Settled cs (table_of m) → free_id m ≡ smallest_free cs
  unfolding free_id smallest_free
  same-free cs m h =
      first-same (λ id. not (live m id)) (λ id. not (has_cell id cs)) 1 15
      (λ id l. ap not (h.follows.lives id (λ q. absurd (omega (arith, l, q)))))

  -- ---- Disable

  -- n IDs from k on destroyed where they are live: none of them is left, and nothing is new
  record Gone (k n : ℕ) (m after : Machine) : Type 0 where
    cells : List Created
    settled : Settled cells (table_of after)
    was : (i : ℕ) → live after i ≡ true → live m i ≡ true
    none : (i : ℕ) → k ≤ i → i < k + n → live after i ≡ true → ⊥

  gone : (k n : ℕ) (m : Machine) (cs : List Created) → 0 < k → Settled cs (table_of m) → Gone k n m (all_destroyed (from k n) m)
  unfolding all_destroyed from
  gone k zero m cs p h = record { cells = cs; settled = h; was = λ i l. l; none = λ i low high l. omega arith }
  gone k (suc n) m cs p h =
      by-test (Gone k (suc n) m) (live m k) (all_destroyed (from (suc k) n) (cell_destroyed k m)) (all_destroyed (from (suc k) n) m)
      (λ l. dropped (target l) (gone (suc k) n (cell_destroyed k m) (cells_but k cs) (omega arith) (after-destroy cs m k h (target l))))
      (λ l. passed-by l (gone (suc k) n m cs (omega arith) h))
    where
      target : live m k ≡ true → IsCell (table_of m) k
      target l = record { other = λ q. omega arith; lives = l }

      dropped : IsCell (table_of m) k → Gone (suc k) n (cell_destroyed k m) (all_destroyed (from (suc k) n) (cell_destroyed k m))
          → Gone k (suc n) m (all_destroyed (from (suc k) n) (cell_destroyed k m))
      dropped c g = record {
        cells = g.cells;
        settled = g.settled;
        was = λ i l. (parts i l).1;
        none = λ i low high l. here i low high l (ℕ_discrete i k);
      }
        where
          parts : (i : ℕ) → live (all_destroyed (from (suc k) n) (cell_destroyed k m)) i ≡ true → (not (eqb i k) ≡ true) × (live m i ≡ true)
          parts i l = and_parts (not (eqb i k)) (live m i) (sym (live-after m k h.sound c i) ∙ g.was i l)

          here : (i : ℕ) → k ≤ i → i < k + suc n → live (all_destroyed (from (suc k) n) (cell_destroyed k m)) i ≡ true → Dec (i ≡ k) → ⊥
          here i low high l (yes q) = fails (not-true (eqb i k) (parts i l).0) (eq→eqb i k q)
          here i low high l (no q) = g.none i (omega arith) (omega arith) l

      passed-by : live m k ≡ false → Gone (suc k) n m (all_destroyed (from (suc k) n) m) → Gone k (suc n) m (all_destroyed (from (suc k) n) m)
      passed-by e g = record {
        cells = g.cells;
        settled = g.settled;
        was = g.was;
        none = λ i low high l. here i low high l (ℕ_discrete i k);
      }
        where
          here : (i : ℕ) → k ≤ i → i < k + suc n → live (all_destroyed (from (suc k) n) m) i ≡ true → Dec (i ≡ k) → ⊥
          here i low high l (yes q) = both_ways _ (ap (live m) q ∙ e) (g.was i l)
          here i low high l (no q) = g.none i (omega arith) (omega arith) l

  -- with no live cell but root the history has none
  no_cells : (cs : List Created) (t : Table) → Settled cs t → ((i : ℕ) → IsCell t i → ⊥) → cs ≡ []
  no_cells [] t h none = refl
  no_cells (c ∷ cs) t h none =
      let here : has_cell c.id (c ∷ cs) ≡ true = has_first c cs c.id ∙ ap (λ (b : Bool). b || has_cell c.id cs) (eq-eqb c.id c.id refl) in
      let other : c.id ≡ 0 → ⊥ = λ q. both_ways _ (ap (λ (n : ℕ). has_cell n (c ∷ cs)) q ∙ h.follows.no-root) here in
      absurd (none c.id (record { other = other; lives = h.follows.lives c.id other ∙ here }))

  with-power : (p : Power) (m : Machine) → Sound (table_of m) → Sound (table_of (with_power p m))
  unfolding with_power
  with-power p m s = record {
    cells-room = s.cells-room;
    comms-room = s.comms-room;
    cpus-room = s.cpus-room;
    accepted = s.accepted;
    pool-small = s.pool-small;
    root-lives = s.root-lives;
    few = s.few;
    valid = λ i c. s.valid i (as_before i c);
    with-region = λ i c. s.with-region i (as_before i c);
    apart = λ i j c d n. s.apart i j (as_before i c) (as_before j d) n;
    root-started = s.root-started;
    root-free = λ k r i c n. s.root-free k r i (as_before i c) n;
    root-rest = λ k b none. s.root-rest k b (λ i c n. none i (as-after i c) n);
    cell-owns = λ k i c n. s.cell-owns k i (as_before i c) n;
    root-owns = s.root-owns;
    pool-fits = s.pool-fits;
  }
    where
      as_before : (i : ℕ) → IsCell (table_of (with_power p m)) i → IsCell (table_of m) i
      as_before i c = record { other = c.other; lives = c.lives }

      as-after : (i : ℕ) → IsCell (table_of m) i → IsCell (table_of (with_power p m)) i
      as-after i c = record { other = c.other; lives = c.lives }

  pub after_disable : (cs : List Created) (m : Machine) → Settled cs (table_of m) → Settled [] (table_of (disabled m))
  unfolding disabled with_power
  after_disable cs m h =
      let g : Gone 1 15 m (all_destroyed cell_ids m) = gone 1 15 m cs (omega arith) h in
      let empty : g.cells ≡ [] =
      no_cells g.cells _ g.settled
      (λ i c. g.none i (positive i c.other) (g.settled.sound.few i c.lives) c.lives) in
      let s : Settled [] (table_of (all_destroyed cell_ids m)) = subst (λ (l : List Created). Settled l (table_of (all_destroyed cell_ids m))) empty g.settled in
      record {
        sound = with-power Disabled (all_destroyed cell_ids m) s.sound;
        follows = record {
          lives = s.follows.lives;
          no-root = s.follows.no-root;
          records = s.follows.records;
          distinct = tt;
          pool = s.follows.pool;
          off = λ e. refl;
          booted = s.follows.booted;
        };
      }
    where
      positive : (i : ℕ) → (i ≡ 0 → ⊥) → 1 ≤ i
      positive i n = omega arith
