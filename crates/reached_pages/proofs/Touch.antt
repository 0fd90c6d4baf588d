-- What cells may touch, in every state reached: the mappings give it, two cells share it or one loads it, and none of it is hypervisor memory. The
-- owner of a page goes by document 01's order, and the facts of Cells decide each of its rows. Assumes nothing.
use Rattle.std.proofs.Common.{◌≡◌, refl, sym, ap, ◌∙◌, subst, Bool, true, false, not, ◌&&◌, ◌||◌, ◌⊎◌, inl, inr, List, ℕ, ◌≤◌, arith, ne_eqb}
use Rattle.std.proofs.lemmas.Bool.{and_from, and_parts, both_ways, false_from_ne_true, not-true, or_cases}
use mathlib.Core.List.{Memᴰ}
use Rattle.std.proofs.Math.Decide.{ℕ_discrete}
use Rattle.base.specs.Lists.{any}
use Rattle.base.proofs.Rules.{by-rule}
use Rattle.regions.specs.declared.MemRegion.{MemRegion}
use Rattle.regions.specs.Regions.{comm, loadable, shared}
use Rattle.machine_state.specs.declared.PhysPage.{PhysPage}
use Rattle.machine_state.specs.declared.Owner.{Owner}
use Rattle.machine_state.specs.declared.Machine.{Machine}
use Rattle.rules.specs.State.{cell_at, regions_at, cell_ids, live}
use Rattle.rules.specs.Pages.{has_phys, has_booted, owns, shares, boot_has, owner_of, is_loading, loads, open_to_root, root_may_touch, cell_may_touch, may_touch}
use Rattle.rules.proofs.Ids.{Found, any-from, any-from-true}
use Rattle.reached.proofs.Members.{passed, any_of, some_of, Passes}
use Rattle.reached.proofs.Table.{table_of}
use Rattle.reached.proofs.Sound.{IsCell, Sound}
use Rattle.reached_pages.specs.Touch.{Why, shared as is_shared, loading, loaded}
use Rattle.reached_pages.proofs.Regions.{has_it}
use Rattle.reached_pages.proofs.Cells.{not-shared, not-comm, Has, region-rules, not-hypervisor, one-region, both-shared}

module _ (m : Machine) (s : Sound (table_of m)) where
  abbrev pub Cell : ℕ → Type 0
  Cell id = IsCell (table_of m) id

  -- ---- what `may_touch` says of a cell other than root

  pub record Touches (id : ℕ) (p : PhysPage) : Type 0 where
    pub booted : has_booted m.power ≡ true
    pub cell : Cell id
    pub region : MemRegion
    pub has : Has p (regions_at m id) region

  -- a region that passes the test of `has_it` and more
  has_of : (p : PhysPage) (rs : List MemRegion) (r : MemRegion) → Memᴰ r rs → has_it p r ≡ true → Has p rs r
  has_of p rs r i e = let q = and_parts (has_phys p r) (not (comm r)) e in record { is_in = i; has = q.0; plain = not-true (comm r) q.1 }

  pub of-cell : (id : ℕ) (p : PhysPage) → (id ≡ 0 → ⊥) → cell_may_touch p m id ≡ true → Touches id p
  unfolding cell_may_touch
  of-cell id p n e =
      let two : ((has_booted m.power && live m id) ≡ true) × (any (has_it p) (regions_at m id) ≡ true) = and_parts (has_booted m.power && live m id) _ e in
      let one : (has_booted m.power ≡ true) × (live m id ≡ true) = and_parts (has_booted m.power) (live m id) two.0 in
      let f : Passes (has_it p) (regions_at m id) = some_of (has_it p) (regions_at m id) two.1 in
      record {
        booted = one.0;
        cell = record { other = n; lives = one.1 };
        region = f.element;
        has = has_of p (regions_at m id) f.element f.is_in f.passes;
      }

  pub not_root : (id : ℕ) (p : PhysPage) → (id ≡ 0 → ⊥) → may_touch id p m ≡ cell_may_touch p m id
  unfolding may_touch
  not_root id p n = passed _ _ (ne_eqb id 0 n)

  pub is-root : (id : ℕ) (p : PhysPage) → id ≡ 0 → may_touch id p m ≡ root_may_touch p m
  unfolding may_touch
  is-root id p e = ap (λ (n : ℕ). may_touch n p m) e

  -- ---- owners

  positive : (i : ℕ) → (i ≡ 0 → ⊥) → 1 ≤ i
  positive i n = omega arith

  record Owns (id : ℕ) (p : PhysPage) : Type 0 where
    cell : Cell id
    region : MemRegion
    has : Has p (regions_at m id) region
    alone : shared region ≡ false

  owns-it : (id : ℕ) (p : PhysPage) → (id ≡ 0 → ⊥) → owns p m id ≡ true → Owns id p
  unfolding owns
  owns-it id p n e =
      let two : (live m id ≡ true) × (any (λ r. has_phys p r && not (shared r) && not (comm r)) (regions_at m id) ≡ true) = and_parts (live m id) _ e in
      let f : Passes (λ r. has_phys p r && not (shared r) && not (comm r)) (regions_at m id) = some_of _ (regions_at m id) two.1 in
      let r : MemRegion = f.element in
      let parts : ((has_phys p r && not (shared r)) ≡ true) × (not (comm r) ≡ true) = and_parts (has_phys p r && not (shared r)) _ f.passes in
      let more : (has_phys p r ≡ true) × (not (shared r) ≡ true) = and_parts (has_phys p r) _ parts.0 in
      record {
        cell = record { other = n; lives = two.0 };
        region = r;
        has = record { is_in = f.is_in; has = more.0; plain = not-true (comm r) parts.1 };
        alone = not-true (shared r) more.1;
      }

  -- a page in a shared region of a cell is nobody's own
  no-owner : (i : ℕ) (p : PhysPage) (r : MemRegion) → Cell i → Has p (regions_at m i) r → shared r ≡ true → (k : ℕ) → Owns k p → ⊥
  no-owner i p r c x sh k o = go (ℕ_discrete k i)
    where
      go : Dec (k ≡ i) → ⊥
      go (yes q) =
          let y : Has p (regions_at m i) o.region = subst (λ (n : ℕ). Has p (regions_at m n) o.region) q o.has in
          both_ways _ o.alone (ap (λ (t : MemRegion). shared t) (one-region m s i c p o.region r y x) ∙ sh)
      go (no q) = both_ways _ o.alone (both-shared m s k i o.cell c q p o.region r o.has x).0

  none-owns : (i : ℕ) (p : PhysPage) (r : MemRegion) → Cell i → Has p (regions_at m i) r → shared r ≡ true → any (owns p m) cell_ids ≡ false
  none-owns i p r c x sh = false_from_ne_true _ (λ e. go (any-from (owns p m) 1 15 e))
    where
      go : ((k : ℕ) × Found (owns p m) 1 15 k) → ⊥
      go (k, f) = let low : 1 ≤ k = f.low in no-owner i p r c x sh k (owns-it k p (λ q. omega arith) f.passes)

  shared-owner : (i : ℕ) (p : PhysPage) (r : MemRegion) → has_booted m.power ≡ true → Cell i → Has p (regions_at m i) r → shared r ≡ true → owner_of p m ≡ Owner.Shared
  unfolding owner_of shares
  shared-owner i p r b c x sh =
      by-rule P _ _ _ (λ e. absurd (both_ways _ (not-true (has_booted m.power) e) b))
      (λ e. by-rule P _ _ _ (λ e. absurd (both_ways _ (not-hypervisor m s i c p r x) e))
      (λ e. by-rule P _ _ _ (λ e. absurd (both_ways _ (none-owns i p r c x sh) e))
      (λ e. by-rule P _ _ _ (λ e. refl) (λ e. absurd (both_ways _ e some)))))
    where
      P : Owner → Type 0
      P o = o ≡ Owner.Shared

      some : any (shares p m) cell_ids ≡ true
      some =
          any-from-true (shares p m) 1 15 i
          (and_from _ _ c.lives (any_of (λ t. has_phys p t && shared t) (regions_at m i) r x.is_in (and_from _ _ x.has sh)))
          (positive i c.other) (s.few i c.lives)

  -- a page in a region of a cell that is not shared is closed to root
  owned : (i : ℕ) (p : PhysPage) (r : MemRegion) → Cell i → Has p (regions_at m i) r → shared r ≡ false → open_to_root (owner_of p m) ≡ false
  unfolding owner_of owns
  owned i p r c x sh =
      by-rule P _ _ _ (λ e. refl)
      (λ e. by-rule P _ _ _ (λ e. refl)
      (λ e. by-rule P _ _ _ (λ e. refl) (λ e. absurd (both_ways _ e some))))
    where
      P : Owner → Type 0
      P o = open_to_root o ≡ false

      some : any (owns p m) cell_ids ≡ true
      some =
          any-from-true (owns p m) 1 15 i
          (and_from _ _ c.lives (any_of _ (regions_at m i) r x.is_in (and_from _ _ (and_from _ _ x.has (ap not sh)) (ap not x.plain))))
          (positive i c.other) (s.few i c.lives)

  -- ---- two cells

  two_cells : (i j : ℕ) (p : PhysPage) → (i ≡ j → ⊥) → Touches i p → Touches j p → owner_of p m ≡ Owner.Shared
  two_cells i j p n x y =
      shared-owner i p x.region x.booted x.cell x.has (both-shared m s i j x.cell y.cell n p x.region y.region x.has y.has).0

  -- root and a cell
  record Loads (id : ℕ) (p : PhysPage) : Type 0 where
    cell : Cell id
    region : MemRegion
    has : Has p (regions_at m id) region
    may_load : loadable region ≡ true

  loads-it : (id : ℕ) (p : PhysPage) → (id ≡ 0 → ⊥) → loads p m id ≡ true → Loads id p
  unfolding loads
  loads-it id p n e =
      let two : ((live m id && is_loading (cell_at m id).phase) ≡ true) × (any (λ r. has_phys p r && loadable r) (regions_at m id) ≡ true) =
      and_parts (live m id && is_loading (cell_at m id).phase) _ e in
      let c : Cell id = record { other = n; lives = (and_parts (live m id) _ two.0).0 } in
      let f : Passes (λ r. has_phys p r && loadable r) (regions_at m id) = some_of _ (regions_at m id) two.1 in
      let r : MemRegion = f.element in
      let parts : (has_phys p r ≡ true) × (loadable r ≡ true) = and_parts (has_phys p r) _ f.passes in
      record {
        cell = c;
        region = r;
        has = record { is_in = f.is_in; has = parts.0; plain = not-comm m.system r (region-rules m s id c r f.is_in) parts.1 };
        may_load = parts.1;
      }

  root-and : (j : ℕ) (p : PhysPage) → root_may_touch p m ≡ true → Touches j p → (owner_of p m ≡ Owner.Shared) ⊎ (loads p m j ≡ true)
  unfolding root_may_touch
  root-and j p e y = by-sharing (shared y.region) refl
    where
      opens : (open_to_root (owner_of p m) || any (loads p m) cell_ids) ≡ true
      opens = (and_parts (has_booted m.power && boot_has p m) _ e).1

      by-sharing : (b : Bool) → shared y.region ≡ b → (owner_of p m ≡ Owner.Shared) ⊎ (loads p m j ≡ true)
      by-sharing true sh = inl (shared-owner j p y.region y.booted y.cell y.has sh)
      by-sharing false sh = inr (go (or_cases (open_to_root (owner_of p m)) (any (loads p m) cell_ids) opens))
        where
          this : (k : ℕ) → Loads k p → loads p m k ≡ true → Dec (k ≡ j) → loads p m j ≡ true
          this k l e (yes q) = subst (λ (n : ℕ). loads p m n ≡ true) q e
          this k l e (no q) =
              absurd (both_ways _ (not-shared m.system l.region (region-rules m s k l.cell l.region l.has.is_in) l.may_load) (both-shared m s k j l.cell y.cell q p l.region y.region l.has y.has).0)

          found : ((k : ℕ) × Found (loads p m) 1 15 k) → loads p m j ≡ true
          found (k, f) = let low : 1 ≤ k = f.low in this k (loads-it k p (λ q. omega arith) f.passes) f.passes (ℕ_discrete k j)

          go : (open_to_root (owner_of p m) ≡ true) ⊎ (any (loads p m) cell_ids ≡ true) → loads p m j ≡ true
          go (inl o) = absurd (both_ways _ (owned j p y.region y.cell y.has sh) o)
          go (inr l) = found (any-from (loads p m) 1 15 l)

  pub two : (i j : ℕ) (p : PhysPage) → (i ≡ j → ⊥) → may_touch i p m ≡ true → may_touch j p m ≡ true → Why m i j p
  two i j p n e f = go (ℕ_discrete i 0) (ℕ_discrete j 0)
    where
      cell-of : (k : ℕ) → (k ≡ 0 → ⊥) → may_touch k p m ≡ true → Touches k p
      cell-of k q t = of-cell k p q (sym (not_root k p q) ∙ t)

      first-root : i ≡ 0 → (owner_of p m ≡ Owner.Shared) ⊎ (loads p m j ≡ true) → Why m i j p
      first-root q (inl o) = is_shared o
      first-root q (inr l) = loading q l

      second-root : j ≡ 0 → (owner_of p m ≡ Owner.Shared) ⊎ (loads p m i ≡ true) → Why m i j p
      second-root q (inl o) = is_shared o
      second-root q (inr l) = loaded q l

      go : Dec (i ≡ 0) → Dec (j ≡ 0) → Why m i j p
      go (yes q) (yes r) = absurd (n (q ∙ sym r))
      go (yes q) (no r) = first-root q (root-and j p (sym (is-root i p q) ∙ e) (cell-of j r f))
      go (no q) (yes r) = second-root r (root-and i p (sym (is-root j p r) ∙ f) (cell-of i q e))
      go (no q) (no r) = is_shared (two_cells i j p n (cell-of i q e) (cell-of j r f))

  pub one : (i j : ℕ) (p : PhysPage) → (i ≡ 0 → ⊥) → (j ≡ 0 → ⊥) → owns p m i ≡ true → owns p m j ≡ true → i ≡ j
  one i j p a b e f = go (owns-it i p a e) (owns-it j p b f) (ℕ_discrete i j)
    where
      go : Owns i p → Owns j p → Dec (i ≡ j) → i ≡ j
      go x y (yes q) = q
      go x y (no q) = absurd (both_ways _ x.alone (both-shared m s i j x.cell y.cell q p x.region y.region x.has y.has).0)
