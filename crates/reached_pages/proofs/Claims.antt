-- What a cell may touch is what its mappings give, and none of it is hypervisor memory; with Touch, the claim for every state reached. A cell's
-- mapping is that of its regions, root's that of the boot regions where it may touch the page. Assumes nothing.
use Rattle.std.proofs.Common.{◌≡◌, refl, sym, ap, ◌∙◌, subst, Bool, true, false, not, ◌&&◌, true≢false, ℕ, arith, eqb-true}
use Rattle.std.proofs.lemmas.Bool.{and_from, and_parts, both_ways, false_from_ne_true, not-false, not-true}
use Rattle.std.proofs.Math.Decide.{ℕ_discrete}
use Rattle.base.specs.Lists.{any}
use Rattle.base.proofs.Rules.{by-rule, by-none}
use Rattle.base.proofs.Tests.{fails, eq→eqb}
use Rattle.system_record.specs.declared.SystemConfig.{SystemConfig}
use Rattle.system_record.specs.SystemRecord.{boot_regions}
use Rattle.machine_state.specs.declared.PhysPage.{PhysPage}
use Rattle.machine_state.specs.declared.Access.{Access}
use Rattle.machine_state.specs.declared.Mapping.{Mapping}
use Rattle.machine_state.specs.declared.Mapping.TheVariants.{Page, Comm, Unmapped}
use Rattle.machine_state.specs.declared.Machine.{Machine}
use Rattle.rules.specs.State.{regions_at, live}
use Rattle.rules.specs.Pages.{has_page, has_phys, has_booted, hypervisor_has, boot_has, root_may_touch, cell_may_touch, may_touch, cell_mapping, if_touchable, root_mapping, mapping_of}
use Rattle.rules.specs.Step.{step}
use Rattle.history.specs.History.{History}
use Rattle.reached.proofs.Members.{chosen, any_of, some_of, Passes}
use Rattle.reached.proofs.Table.{table_of}
use Rattle.reached.proofs.Sound.{Sound}
use Rattle.reached.proofs.Walk.{Agrees}
use Rattle.reached.proofs.Runs.{reached-agrees}
use Rattle.reached_pages.specs.Touch.{MapsTo, Touch, TouchAlways}
use Rattle.reached_pages.proofs.Regions.{has_it, MappedAt, maps-it, mapped-it}
use Rattle.reached_pages.proofs.Cells.{good-cell, not-hypervisor, good-boot, boot-plain, boot-clear}
use Rattle.reached_pages.proofs.Touch.{Touches, of-cell, not_root, is-root, two, one}

-- two mappings that differ
no-page : (p : PhysPage) (access : Access) → Unmapped ≡ Page p access → ⊥
no-page p access e = let z : ◌≡◌ {A = ℕ} 0 1 = cc in omega arith

module _ (m : Machine) (s : Sound (table_of m)) where
  -- ---- root

  -- the boot regions have no comm region
  boot-has : (p : PhysPage) → boot_has p m ≡ true → any (has_it p) (boot_regions m.system) ≡ true
  unfolding boot_has
  boot-has p e =
      let f : Passes (has_phys p) (boot_regions m.system) = some_of (has_phys p) (boot_regions m.system) e in
      any_of (has_it p) (boot_regions m.system) f.element f.is_in (and_from _ _ f.passes (ap not (boot-plain m s f.element f.is_in)))

  root-parts : (p : PhysPage) → root_may_touch p m ≡ true → (has_booted m.power ≡ true) × (boot_has p m ≡ true)
  unfolding root_may_touch
  root-parts p e = and_parts (has_booted m.power) (boot_has p m) (and_parts (has_booted m.power && boot_has p m) _ e).0

  root-maps : (p : PhysPage) → root_may_touch p m ≡ true → MapsTo m 0 p
  unfolding mapping_of root_mapping if_touchable
  root-maps p e =
      let f : MappedAt (boot_regions m.system) p = maps-it (boot_regions m.system) (good-boot m s) p (boot-has p (root-parts p e).1) in
      record {
        page = f.page;
        access = f.access;
        maps =
            by-rule (λ x. x ≡ Page p f.access) _ _ _ (λ q. absurd (both_ways _ (not-true (has_booted m.power) q) (root-parts p e).0))
            (λ q. by-rule (λ x. x ≡ Page p f.access) _ _ _
            (λ q. ap (if_touchable m) f.maps ∙ chosen (Page p f.access) Unmapped e)
            (λ q. absurd (true≢false q)));
      }

  touchable : (x : Mapping) (p : PhysPage) (access : Access) → if_touchable m x ≡ Page p access → root_may_touch p m ≡ true
  unfolding if_touchable
  touchable (Page q a) p access e = go (root_may_touch q m) refl e
    where
      go : (b : Bool) → root_may_touch q m ≡ b → elim b [ true ↦ Page q a | false ↦ Unmapped ] ≡ Page p access → root_may_touch p m ≡ true
      go true t e = let same : q ≡ p = cc in subst (λ (x : PhysPage). root_may_touch x m ≡ true) same t
      go false t e = absurd (no-page p access e)
  touchable Comm p access e = absurd (no-page p access e)
  touchable Unmapped p access e = absurd (no-page p access e)

  -- ---- the other cells

  cell-maps : (id : ℕ) (p : PhysPage) → (id ≡ 0 → ⊥) → cell_may_touch p m id ≡ true → MapsTo m id p
  unfolding mapping_of cell_may_touch
  cell-maps id p n e =
      let two : ((has_booted m.power && live m id) ≡ true) × (any (has_it p) (regions_at m id) ≡ true) = and_parts (has_booted m.power && live m id) _ e in
      let one : (has_booted m.power ≡ true) × (live m id ≡ true) = and_parts (has_booted m.power) (live m id) two.0 in
      let f : MappedAt (regions_at m id) p = maps-it (regions_at m id) (good-cell m s id (record { other = n; lives = one.1 })) p two.1 in
      record {
        page = f.page;
        access = f.access;
        maps =
            by-rule (λ x. x ≡ Page p f.access) _ _ _ (λ q. absurd (both_ways _ (not-true (has_booted m.power) q) one.0))
            (λ q. by-rule (λ x. x ≡ Page p f.access) _ _ _ (λ q. absurd (n (eqb-true id 0 q)))
            (λ q. by-rule (λ x. x ≡ Page p f.access) _ _ _ (λ q. f.maps) (λ q. absurd (both_ways _ q one.1))));
      }

  touches : (id : ℕ) (p : PhysPage) → may_touch id p m ≡ true → MapsTo m id p
  touches id p e = go (ℕ_discrete id 0)
    where
      go : Dec (id ≡ 0) → MapsTo m id p
      go (yes q) = subst (λ (n : ℕ). MapsTo m n p) (sym q) (root-maps p (sym (is-root m s id p q) ∙ e))
      go (no q) = cell-maps id p q (sym (not_root m s id p q) ∙ e)

  mapped : (id : ℕ) (p : PhysPage) → MapsTo m id p → may_touch id p m ≡ true
  unfolding mapping_of root_mapping cell_may_touch
  mapped id p w =
      by-rule P _ _ _ (λ q e. absurd (no-page p w.access e))
      (λ b. by-rule P _ _ _ (λ q e. is-root m s id p (eqb-true id 0 q) ∙ touchable _ p w.access e)
      (λ n. by-rule P _ _ _ (λ l e. cell (λ q. fails n (eq→eqb id 0 q)) (booted b) l e)
      (λ l. by-none P Unmapped (λ e. absurd (no-page p w.access e))))) w.maps
    where
      P : Mapping → Type 0
      P x = x ≡ Page p w.access → may_touch id p m ≡ true

      booted : not (has_booted m.power) ≡ false → has_booted m.power ≡ true
      booted = not-false (has_booted m.power)

      cell : (id ≡ 0 → ⊥) → has_booted m.power ≡ true → live m id ≡ true → cell_mapping (regions_at m id) w.page ≡ Page p w.access → may_touch id p m ≡ true
      cell n b l e =
          not_root m s id p n
          ∙ and_from _ _ (and_from _ _ b l) (mapped-it (regions_at m id) (good-cell m s id (record { other = n; lives = l })) p w.page w.access e)

  -- ---- hypervisor memory

  none_touch : (id : ℕ) (p : PhysPage) → hypervisor_has p m ≡ true → may_touch id p m ≡ false
  unfolding boot_has
  none_touch id p y = false_from_ne_true _ (λ e. go e (ℕ_discrete id 0))
    where
      of-boot : boot_has p m ≡ true → hypervisor_has p m ≡ false
      of-boot e =
          let f : Passes (has_phys p) (boot_regions m.system) = some_of (has_phys p) (boot_regions m.system) e in
          boot-clear m s f.element p f.is_in f.passes

      go : may_touch id p m ≡ true → Dec (id ≡ 0) → ⊥
      go e (yes q) = both_ways _ (of-boot (root-parts p (sym (is-root m s id p q) ∙ e)).1) y
      go e (no q) = let t : Touches m s id p = of-cell m s id p q (sym (not_root m s id p q) ∙ e) in both_ways _ (not-hypervisor m s id t.cell p t.region t.has) y

-- ---- in every state reached

touch : (boot : SystemConfig) (h : History) (m : Machine) → Agrees boot h m → Touch boot h m
unfolding hypervisor_has
touch boot h m a = record {
  touches = touches m s;
  mapped = mapped m s;
  two = two m s;
  hypervisor = λ id p y. none_touch m s id p (ap (λ (c : SystemConfig). has_page c.hypervisor.start c.hypervisor.size p.0) a.settled.follows.booted ∙ y);
  one = one m s;
}
  where
    s : Sound (table_of m)
    s = a.settled.sound

pub pages : TouchAlways step
pages bytes e ls = touch _ _ _ (reached-agrees bytes e ls)
