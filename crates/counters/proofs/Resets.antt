-- What a step does to a CPU's counters, on the machine alone: it resets them exactly where a cell that names the CPU has come or gone with it. Create
-- and Destroy change the live IDs at one place, and the counters of that cell's CPUs; Disable does so place by place. Assumes nothing.
use Rattle.std.proofs.Common.{◌≡◌, refl, sym, ap, ap₂, ◌∙◌, Bool, true, false, not, ◌&&◌, ◌||◌, true≢false, List, [], ◌∷◌, ℕ, zero, suc, ◌≤◌, ◌<◌, arith, eqb, length, replicate, get_or-set_same, get_or-set_other, ne_eqb, eq-eqb}
use Rattle.std.proofs.Math.Bool.{or-false, and-true}
use Rattle.std.proofs.Math.Decide.{ℕ_discrete}
use Rattle.base.specs.Lists.{any, from}
use Rattle.cpu_set.specs.CpuSet.{member}
use Rattle.cell_record.specs.declared.CellConfig.{CellConfig}
use Rattle.machine_state.specs.declared.Cpu.{Cpu}
use Rattle.machine_state.specs.declared.CommRegion.{CommRegion}
use Rattle.machine_state.specs.declared.Cell.{Cell}
use Rattle.machine_state.specs.Machine.{Waiting}
use Rattle.machine_state.specs.declared.Machine.{Machine}
use Rattle.machine_state.specs.Machine.{fresh_cpu, no_cell, past_cell}
use Rattle.rules.specs.State.{root_id, cell_ids, cell_at, cpu_at, has_id, live, with_waiting, with_power, with_pool, with_ids, with_root_cpus, with_cell, with_comm, with_cpus}
use Rattle.rules.specs.Effects.{change_in, cpus_changed, start_cpu, stop_cpu, given_to, new_cell, cell_created, in_phase, cell_started, cell_loadable, cell_cut_off, cell_destroyed, all_destroyed, disabled}
use Rattle.rules.proofs.Places.{changed-at}
use Rattle.rules.proofs.Ids.{by-test, has-added, has-dropped, any-from-true}

-- ---- one place of a list of IDs

any_none : (p : ℕ → Bool) (ids : List ℕ) → ((id : ℕ) → p id ≡ false) → any p ids ≡ false
any_none p [] f = refl
any_none p (id ∷ ids) f = ap₂ (λ (a b : Bool). a || b) (f id) (any_none p ids f)

-- where all others fail, the search is the test of the one
any_at : (p : ℕ → Bool) (t : ℕ) → 1 ≤ t → t < 16 → ((id : ℕ) → (id ≡ t → ⊥) → p id ≡ false) → any p cell_ids ≡ p t
any_at p t low high others = go (p t) refl
  where
    go : (b : Bool) → p t ≡ b → any p cell_ids ≡ b
    go true e = any-from-true p 1 15 t e low (omega arith)
    go false e = any_none p cell_ids (λ id. by-id id (ℕ_discrete id t) e)
      where
        by-id : (id : ℕ) → Dec (id ≡ t) → p t ≡ false → p id ≡ false
        by-id id (yes q) e = ap p q ∙ e
        by-id id (no n) e = others id n

pub any_same : (p q : ℕ → Bool) (k n : ℕ) → ((id : ℕ) → k ≤ id → p id ≡ q id) → any p (from k n) ≡ any q (from k n)
unfolding from
any_same p q k zero f = refl
any_same p q k (suc n) f = ap₂ (λ (a b : Bool). a || b) (f k (omega arith)) (any_same p q (suc k) n (λ id l. f id (omega arith)))

-- ---- the counters of a CPU, and which cells have come and gone

abbrev pub zeros : List ℕ
zeros = replicate 6 0

abbrev pub counters_of : ℕ → Machine → List ℕ
counters_of k m = (cpu_at m k).counters

-- a cell that names the CPU lives in the first machine and not in the other
unfoldable pub lives_only : ℕ → Machine → Machine → Bool
lives_only k m n = any (λ id. live m id && not (live n id) && member k (cell_at m id).cpus) cell_ids

abbrev pub changes_hands : ℕ → Machine → Machine → Bool
changes_hands k m n = lives_only k n m || lives_only k m n

-- where it has changed hands the counters are zero, and else they are `kept`
unfoldable pub or_zeros : Bool → List ℕ → List ℕ
or_zeros true kept = zeros
or_zeros false kept = kept

abbrev pub Resets : ℕ → List ℕ → Machine → Machine → Type 0
Resets k kept m n = counters_of k n ≡ or_zeros (changes_hands k m n) kept

never : (a x : Bool) → (a && not a && x) ≡ false
never true x = refl
never false x = refl

-- the same cells live
pub same-hands : (k : ℕ) (m n : Machine) → n.live_ids ≡ m.live_ids → changes_hands k m n ≡ false
unfolding lives_only
same-hands k m n e =
    ap₂ (λ (a b : Bool). a || b)
    (any_none _ cell_ids (λ id. ap (λ (ids : ℕ). live n id && not (has_id ids id) && member k (cell_at n id).cpus) (sym e) ∙ never (live n id) _))
    (any_none _ cell_ids (λ id. ap (λ (ids : ℕ). live m id && not (has_id ids id) && member k (cell_at m id).cpus) e ∙ never (live m id) _))

pub resets_none : (k : ℕ) (kept : List ℕ) (m n : Machine) → n.live_ids ≡ m.live_ids → counters_of k n ≡ kept → Resets k kept m n
unfolding or_zeros
resets_none k kept m n e c = c ∙ sym (ap (λ (b : Bool). or_zeros b kept) (same-hands k m n e))

-- messages and the waiting call leave all that as it was
pub resets-waiting : (k : ℕ) (kept : List ℕ) (m n : Machine) (w : Waiting) → Resets k kept m n → Resets k kept m (with_waiting w n)
unfolding lives_only with_waiting
resets-waiting k kept m n w r = r

pub resets-message : (k : ℕ) (kept : List ℕ) (m n : Machine) (id : ℕ) (words : CommRegion) → Resets k kept m n → Resets k kept m (with_comm id words n)
unfolding lives_only with_comm
resets-message k kept m n id words r = r

-- ---- the CPUs of a set, changed

kept_in : (cpus : ℕ) (change : Cpu → Cpu) (k : ℕ) (p : Cpu) → (change p).counters ≡ p.counters → (change_in cpus change k p).counters ≡ p.counters
unfolding change_in
kept_in cpus change k p e = by-test (λ (q : Cpu). q.counters ≡ p.counters) (member k cpus) (change p) p (λ t. e) (λ t. refl)

fresh_in : (cpus id : ℕ) (stopped : Bool) (k : ℕ) (p : Cpu) → (change_in cpus (given_to id stopped) k p).counters ≡ or_zeros (member k cpus) p.counters
unfolding change_in fresh_cpu or_zeros
fresh_in cpus id stopped k p =
    by-test (λ (q : Cpu). q.counters ≡ or_zeros (member k cpus) p.counters) (member k cpus) (fresh_cpu id stopped) p
    (λ t. sym (ap (λ (b : Bool). or_zeros b p.counters) t))
    (λ t. sym (ap (λ (b : Bool). or_zeros b p.counters) t))

-- an ID more, and an ID less
comes : (a b x : Bool) → a ≡ false → ((a || b) && not b && x) ≡ false
comes false true x e = refl
comes false false x e = refl
comes true b x e = absurd (true≢false e)

here : (a b x : Bool) → a ≡ true → b ≡ false → ((a || b) && not b && x) ≡ x
here true false x e f = refl
here true true x e f = absurd (true≢false f)
here false b x e f = absurd (true≢false (sym e))

stays : (a b x : Bool) → (b && not (a || b) && x) ≡ false
stays true true x = refl
stays true false x = refl
stays false true x = refl
stays false false x = refl

goes : (a b x : Bool) → a ≡ false → (b && not (not a && b) && x) ≡ false
goes false true x e = refl
goes false false x e = refl
goes true b x e = absurd (true≢false e)

gone-here : (a b x : Bool) → a ≡ true → b ≡ true → (b && not (not a && b) && x) ≡ x
gone-here true true x e f = refl
gone-here true false x e f = absurd (true≢false (sym f))
gone-here false b x e f = absurd (true≢false (sym e))

nothing-new : (a b x : Bool) → (not a && b && not b && x) ≡ false
nothing-new true b x = refl
nothing-new false true x = refl
nothing-new false false x = refl

both-resets : (a b : Bool) (kept : List ℕ) → or_zeros b (or_zeros a kept) ≡ or_zeros (a || b) kept
unfolding or_zeros
both-resets true true kept = refl
both-resets true false kept = refl
both-resets false b kept = refl

module _ (k : ℕ) (below : k < 64) where
  -- ---- Start, Set Loadable

  pub started-resets : (id : ℕ) (m : Machine) → Resets k (counters_of k m) m (cell_started id m)
  unfolding cell_started in_phase cpus_changed with_cell with_cpus with_comm start_cpu
  started-resets id m =
      resets_none k (counters_of k m) m (cell_started id m) refl
      (ap (λ (p : Cpu). p.counters) (changed-at (cell_at m id).cpus start_cpu k m.cpus below) ∙ kept_in (cell_at m id).cpus start_cpu k (cpu_at m k) refl)

  pub loadable-resets : (id : ℕ) (m : Machine) → Resets k (counters_of k m) m (cell_loadable id m)
  unfolding cell_loadable in_phase cpus_changed with_cell with_cpus with_comm stop_cpu
  loadable-resets id m =
      resets_none k (counters_of k m) m (cell_loadable id m) refl
      (ap (λ (p : Cpu). p.counters) (changed-at (cell_at m id).cpus stop_cpu k m.cpus below) ∙ kept_in (cell_at m id).cpus stop_cpu k (cpu_at m k) refl)

  -- ---- a cell cut off: what comes after it, of the machine before it

  pub cut-resets : (id : ℕ) (m n : Machine) → Resets k (counters_of k (cell_cut_off id m)) (cell_cut_off id m) n → Resets k (counters_of k m) m n
  unfolding cell_cut_off cpus_changed with_cpus with_comm stop_cpu lives_only
  cut-resets id m n r =
      r ∙ ap (or_zeros (changes_hands k m n))
      (ap (λ (p : Cpu). p.counters) (changed-at (cell_at m id).cpus stop_cpu k m.cpus below) ∙ kept_in (cell_at m id).cpus stop_cpu k (cpu_at m k) refl)

  -- ---- Create

  created-counters : (id : ℕ) (new : CellConfig) (m : Machine) → counters_of k (cell_created id new m) ≡ or_zeros (member k new.cpus) (counters_of k m)
  unfolding cell_created cpus_changed with_pool with_ids with_root_cpus with_cell with_cpus with_comm
  created-counters id new m =
      ap (λ (p : Cpu). p.counters) (changed-at new.cpus (given_to id true) k m.cpus below) ∙ fresh_in new.cpus id true k (cpu_at m k)

  created-live : (id : ℕ) (new : CellConfig) (m : Machine) → id < 16 → (j : ℕ) → live (cell_created id new m) j ≡ (eqb j id || live m j)
  unfolding cell_created with_pool with_ids
  created-live id new m high j = has-added id m.live_ids j high

  created-cpus : (id : ℕ) (new : CellConfig) (m : Machine) → id < 16 → length m.cells ≡ 16 → (cell_at (cell_created id new m) id).cpus ≡ new.cpus
  unfolding cell_created cpus_changed with_pool with_ids with_root_cpus with_cell with_cpus with_comm new_cell
  created-cpus id new m high room =
      let inside : id < length m.cells = omega arith in
      ap (λ (c : Cell). c.cpus) (get_or-set_same m.cells id (new_cell new) past_cell inside)

  created-hands : (id : ℕ) (new : CellConfig) (m : Machine) → 1 ≤ id → id < 16 → live m id ≡ false → length m.cells ≡ 16
      → changes_hands k m (cell_created id new m) ≡ member k new.cpus
  unfolding lives_only
  created-hands id new m low high free room =
      let next = cell_created id new m in
      let come : lives_only k next m ≡ member k new.cpus =
      any_at (λ (j : ℕ). live next j && not (live m j) && member k (cell_at next j).cpus) id low high
      (λ j n. ap (λ (b : Bool). b && not (live m j) && member k (cell_at next j).cpus) (created-live id new m high j) ∙ comes (eqb j id) (live m j) _ (ne_eqb j id n))
      ∙ ap (λ (b : Bool). b && not (live m id) && member k (cell_at next id).cpus) (created-live id new m high id)
      ∙ here (eqb id id) (live m id) _ (eq-eqb id id refl) free
      ∙ ap (member k) (created-cpus id new m high room)
      in
      let gone : lives_only k m next ≡ false =
      any_none _ cell_ids
      (λ j. ap (λ (b : Bool). live m j && not b && member k (cell_at m j).cpus) (created-live id new m high j) ∙ stays (eqb j id) (live m j) _)
      in
      ap₂ (λ (a b : Bool). a || b) come gone ∙ or-false (member k new.cpus)

  pub created-resets : (id : ℕ) (new : CellConfig) (m : Machine) → 1 ≤ id → id < 16 → live m id ≡ false → length m.cells ≡ 16
      → Resets k (counters_of k m) m (cell_created id new m)
  created-resets id new m low high free room =
      created-counters id new m ∙ ap (λ (b : Bool). or_zeros b (counters_of k m)) (sym (created-hands id new m low high free room))

  -- ---- Destroy

  destroyed-counters : (id : ℕ) (m : Machine) → counters_of k (cell_destroyed id m) ≡ or_zeros (member k (cell_at m id).cpus) (counters_of k m)
  unfolding cell_destroyed cpus_changed with_pool with_ids with_root_cpus with_cell with_cpus with_comm
  destroyed-counters id m =
      ap (λ (p : Cpu). p.counters) (changed-at (cell_at m id).cpus (given_to root_id false) k m.cpus below)
      ∙ fresh_in (cell_at m id).cpus root_id false k (cpu_at m k)

  destroyed-live : (id : ℕ) (m : Machine) (j : ℕ) → live (cell_destroyed id m) j ≡ (not (eqb j id) && live m j)
  unfolding cell_destroyed with_pool with_ids
  destroyed-live id m j = has-dropped id m.live_ids j

  destroyed-other : (id : ℕ) (m : Machine) (j : ℕ) → (j ≡ id → ⊥) → cell_at (cell_destroyed id m) j ≡ cell_at m j
  unfolding cell_destroyed cpus_changed with_pool with_ids with_root_cpus with_cell with_cpus with_comm
  destroyed-other id m j n = get_or-set_other m.cells id j no_cell past_cell n

  destroyed-hands : (id : ℕ) (m : Machine) → 1 ≤ id → id < 16 → live m id ≡ true → changes_hands k m (cell_destroyed id m) ≡ member k (cell_at m id).cpus
  unfolding lives_only
  destroyed-hands id m low high lives =
      let next = cell_destroyed id m in
      let come : lives_only k next m ≡ false =
      any_none _ cell_ids
      (λ j. ap (λ (b : Bool). b && not (live m j) && member k (cell_at next j).cpus) (destroyed-live id m j) ∙ nothing-new (eqb j id) (live m j) _)
      in
      let gone : lives_only k m next ≡ member k (cell_at m id).cpus =
      any_at (λ (j : ℕ). live m j && not (live next j) && member k (cell_at m j).cpus) id low high
      (λ j n. ap (λ (b : Bool). live m j && not b && member k (cell_at m j).cpus) (destroyed-live id m j) ∙ goes (eqb j id) (live m j) _ (ne_eqb j id n))
      ∙ ap (λ (b : Bool). live m id && not b && member k (cell_at m id).cpus) (destroyed-live id m id)
      ∙ gone-here (eqb id id) (live m id) _ (eq-eqb id id refl) lives
      in
      ap₂ (λ (a b : Bool). a || b) come gone

  pub destroyed-resets : (id : ℕ) (m : Machine) → 1 ≤ id → id < 16 → live m id ≡ true → Resets k (counters_of k m) m (cell_destroyed id m)
  destroyed-resets id m low high lives =
      destroyed-counters id m ∙ ap (λ (b : Bool). or_zeros b (counters_of k m)) (sym (destroyed-hands id m low high lives))

  -- ---- Disable: every cell, one after the other

  names : Machine → ℕ → Bool
  names m j = live m j && member k (cell_at m j).cpus

  named : (a : ℕ) (m : Machine) (b : Bool) → live m a ≡ b → names m a ≡ (b && member k (cell_at m a).cpus)
  unfolding names
  named a m b e = ap (λ (c : Bool). c && member k (cell_at m a).cpus) e

  -- the cells after it are as they were
  names-later : (id : ℕ) (m : Machine) (j : ℕ) → suc id ≤ j → names (cell_destroyed id m) j ≡ names m j
  unfolding names
  names-later id m j l =
      let n : j ≡ id → ⊥ = λ q. omega arith in
      ap₂ (λ (a : Bool) (c : Cell). a && member k c.cpus)
      (destroyed-live id m j ∙ ap (λ (b : Bool). not b && live m j) (ne_eqb j id n))
      (destroyed-other id m j n)

  all-counters : (a n : ℕ) (m : Machine) → counters_of k (all_destroyed (from a n) m) ≡ or_zeros (any (names m) (from a n)) (counters_of k m)
  unfolding all_destroyed from or_zeros
  all-counters a zero m = refl
  all-counters a (suc n) m =
      by-test (λ (next : Machine). counters_of k next ≡ or_zeros (names m a || any (names m) (from (suc a) n)) (counters_of k m)) (live m a)
      (all_destroyed (from (suc a) n) (cell_destroyed a m))
      (all_destroyed (from (suc a) n) m)
      (λ e.
      all-counters (suc a) n (cell_destroyed a m)
      ∙ ap₂ or_zeros (any_same (names (cell_destroyed a m)) (names m) (suc a) n (names-later a m)) (destroyed-counters a m)
      ∙ both-resets (member k (cell_at m a).cpus) (any (names m) (from (suc a) n)) (counters_of k m)
      ∙ ap (λ (b : Bool). or_zeros (b || any (names m) (from (suc a) n)) (counters_of k m)) (sym (named a m true e)))
      (λ e.
      all-counters (suc a) n m ∙ ap (λ (b : Bool). or_zeros (b || any (names m) (from (suc a) n)) (counters_of k m)) (sym (named a m false e)))

  disabled-hands : (m : Machine) → ((j : ℕ) → 1 ≤ j → live (disabled m) j ≡ false) → changes_hands k m (disabled m) ≡ any (names m) cell_ids
  unfolding lives_only names
  disabled-hands m off =
      let come : lives_only k (disabled m) m ≡ false =
      any_same _ (λ (j : ℕ). false) 1 15 (λ j l. ap (λ (b : Bool). b && not (live m j) && member k (cell_at (disabled m) j).cpus) (off j l))
      ∙ any_none (λ (j : ℕ). false) cell_ids (λ j. refl)
      in
      let gone : lives_only k m (disabled m) ≡ any (names m) cell_ids =
      any_same _ (names m) 1 15
      (λ j l.
      ap (λ (b : Bool). live m j && not b && member k (cell_at m j).cpus) (off j l)
      ∙ ap (λ (b : Bool). b && member k (cell_at m j).cpus) (and-true (live m j)))
      in
      ap₂ (λ (a b : Bool). a || b) come gone

  pub disabled-resets : (m : Machine) → ((j : ℕ) → 1 ≤ j → live (disabled m) j ≡ false) → Resets k (counters_of k m) m (disabled m)
  unfolding disabled with_power
  disabled-resets m off = all-counters 1 15 m ∙ ap (λ (b : Bool). or_zeros b (counters_of k m)) (sym (disabled-hands m off))
