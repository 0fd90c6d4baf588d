-- Pages of live cells, from the invariant of the machine's table. Two cells that have a page, comm aside, have it in regions that are both shared; a
-- cell has it in one region; no region of a cell or of root meets hypervisor memory. Assumes nothing.
use Rattle.std.proofs.Common.{◌≡◌, refl, sym, Bool, true, false, not, ◌&&◌, ◌||◌, true≢false, ◌⊎◌, inl, inr, List, ℕ, ◌/◌, ◌%◌, ◌<◌, arith, ltb, eqb, eqb-true, leb-true}
use Rattle.std.proofs.lemmas.Bool.{and_parts, both_ways, false_from_ne_true, not-true, or_cases}
use mathlib.Core.List.{Memᴰ}
use Rattle.base.specs.Lists.{all, any, pairwise}
use Rattle.cpu_set.specs.CpuSet.{is_empty}
use Rattle.fields.specs.Fields.{is_name}
use Rattle.regions.specs.declared.MemRegion.{MemRegion}
use Rattle.regions.specs.Regions.{placed, flags_ok, readable, comm, loadable, shared, shared_and_executable, comm_ok, clear_of, overlap, overlap_phys, apart, whole_pages, inside_phys}
use Rattle.system_record.specs.declared.SystemConfig.{SystemConfig}
use Rattle.system_record.specs.SystemRecord.{boot_regions, boot_region_ok, system_valid}
use Rattle.cell_record.specs.CellRecord.{cell_region_ok, cell_valid, region_rules}
use Rattle.machine_state.specs.declared.PhysPage.{PhysPage}
use Rattle.machine_state.specs.declared.Machine.{Machine}
use Rattle.rules.specs.State.{regions_at}
use Rattle.rules.specs.Create.{conflict}
use Rattle.rules.specs.Pages.{has_page, has_phys, hypervisor_has}
use Rattle.reached.proofs.Members.{all_of, pair_of}
use Rattle.reached.proofs.Table.{table_of}
use Rattle.reached.proofs.Sound.{IsCell, Sound}
use Rattle.reached_pages.proofs.Regions.{Good, both-overlap, apart_parts}

-- ---- the rules of a region

pub record Rules (system : SystemConfig) (r : MemRegion) : Type 0 where
  pub pages : placed r ≡ true
  pub flags : not (loadable r && shared r) ≡ true
  pub comm-flags : comm_ok r ≡ true
  pub clear : clear_of system.hypervisor.start system.hypervisor.size r ≡ true

rules : (system : SystemConfig) (r : MemRegion) → cell_region_ok system r ≡ true → Rules system r
unfolding cell_region_ok flags_ok
rules system r e =
    let five : (region_rules system r ≡ true) × _ = and_parts (region_rules system r) (not (shared_and_executable r)) e in
    let four : ((placed r && flags_ok r && comm_ok r && clear_of system.hypervisor.start system.hypervisor.size r) ≡ true) × _ =
    and_parts (placed r && flags_ok r && comm_ok r && clear_of system.hypervisor.start system.hypervisor.size r)
    (not (loadable r || shared r) || any (inside_phys r) (boot_regions system)) five.0 in
    let three : ((placed r && flags_ok r && comm_ok r) ≡ true) × (clear_of system.hypervisor.start system.hypervisor.size r ≡ true) =
    and_parts (placed r && flags_ok r && comm_ok r) _ four.0 in
    let two : ((placed r && flags_ok r) ≡ true) × (comm_ok r ≡ true) = and_parts (placed r && flags_ok r) _ three.0 in
    let one : (placed r ≡ true) × (flags_ok r ≡ true) = and_parts (placed r) _ two.0 in
    record {
      pages = one.0;
      flags = (and_parts (ltb r.flags 64 && readable r) (not (loadable r && shared r)) one.1).1;
      comm-flags = two.1;
      clear = three.1;
    }

-- "loadable and shared never together"
pub not-shared : (system : SystemConfig) (r : MemRegion) → Rules system r → loadable r ≡ true → shared r ≡ false
not-shared system r k e = go (loadable r) (shared r) k.flags e
  where
    go : (a b : Bool) → not (a && b) ≡ true → a ≡ true → b ≡ false
    go true b n e = not-true b n
    go false b n e = absurd (true≢false (sym e))

-- "A comm region has flags exactly 11": it is not loadable
pub not-comm : (system : SystemConfig) (r : MemRegion) → Rules system r → loadable r ≡ true → comm r ≡ false
unfolding comm_ok
not-comm system r k e = false_from_ne_true _ (λ c. eleven (only (comm r) _ c k.comm-flags))
  where
    only : (a b : Bool) → a ≡ true → (not a || b) ≡ true → b ≡ true
    only true b t n = n
    only false b t n = absurd (true≢false (sym t))

    eleven : (eqb r.flags 11 && eqb r.phys 0 && eqb r.size 4096) ≡ true → ⊥
    eleven q =
        let f : ((eqb r.flags 11 && eqb r.phys 0) ≡ true) × (eqb r.size 4096 ≡ true) = and_parts (eqb r.flags 11 && eqb r.phys 0) _ q in
        let x : r.flags ≡ 11 = eqb-true r.flags 11 (and_parts (eqb r.flags 11) (eqb r.phys 0) f.0).0 in
        let y : r.flags / 16 % 2 ≡ 1 = eqb-true (r.flags / 16 % 2) 1 e in
        omega arith

-- a page of hypervisor memory is in no region that is clear of it
clear-page : (start size : ℕ) (r : MemRegion) (p : PhysPage) → clear_of start size r ≡ true → comm r ≡ false → has_phys p r ≡ true → has_page start size p.0 ≡ true → ⊥
unfolding clear_of has_phys
clear-page start size r p e c h y = go (or_cases (comm r) (not (overlap r.phys r.size start size)) e)
  where
    go : (comm r ≡ true) ⊎ (not (overlap r.phys r.size start size) ≡ true) → ⊥
    go (inl x) = both_ways _ c x
    go (inr x) = both_ways _ (not-true _ x) (both-overlap _ _ _ _ p.0 h y)

-- ---- a region that has a page, comm aside
pub record Has (p : PhysPage) (rs : List MemRegion) (r : MemRegion) : Type 0 where
  pub is_in : Memᴰ r rs
  pub has : has_phys p r ≡ true
  pub plain : comm r ≡ false

-- in a list whose regions are apart it is one
pub same-region : (p : PhysPage) (rs : List MemRegion) → pairwise apart rs ≡ true → (r s : MemRegion) → Has p rs r → Has p rs s → r ≡ s
unfolding has_phys overlap_phys
same-region p rs e r s x y = go (pair_of apart rs e r s x.is_in y.is_in)
  where
    never : (a b : MemRegion) → Has p rs a → Has p rs b → apart a b ≡ true → ⊥
    never a b u v q = none (comm a) (comm b) (overlap_phys a b) u.plain v.plain (both-overlap _ _ _ _ p.0 u.has v.has) (apart_parts a b q).1
      where
        none : (c d o : Bool) → c ≡ false → d ≡ false → o ≡ true → (c || d || not o) ≡ true → ⊥
        none true d o e f g n = true≢false e
        none false true o e f g n = true≢false f
        none false false true e f g n = true≢false (sym n)
        none false false false e f g n = true≢false (sym g)

    go : (r ≡ s) ⊎ ((apart r s ≡ true) ⊎ (apart s r ≡ true)) → r ≡ s
    go (inl q) = q
    go (inr (inl q)) = absurd (never r s x y q)
    go (inr (inr q)) = absurd (never s r y x q)

module _ (m : Machine) (s : Sound (table_of m)) where
  -- ---- cells

  parts : (id : ℕ) → IsCell (table_of m) id → (all (cell_region_ok m.system) (regions_at m id) ≡ true) × (pairwise apart (regions_at m id) ≡ true)
  unfolding cell_valid
  parts id c = go (is_name _) (not (is_empty _)) _ _ _ (s.valid id c).rules
    where
      go : (a b c d e : Bool) → (a && b && c && d && e) ≡ true → (c ≡ true) × (d ≡ true)
      go true true true true e q = (refl, refl)
      go true true true false e q = absurd (true≢false (sym q))
      go true true false d e q = absurd (true≢false (sym q))
      go true false c d e q = absurd (true≢false (sym q))
      go false b c d e q = absurd (true≢false (sym q))

  pub region-rules : (id : ℕ) → IsCell (table_of m) id → (r : MemRegion) → Memᴰ r (regions_at m id) → Rules m.system r
  region-rules id c r i = rules m.system r (all_of (cell_region_ok m.system) (regions_at m id) (parts id c).0 r i)

  pub good-cell : (id : ℕ) → IsCell (table_of m) id → Good (regions_at m id)
  good-cell id c = record { whole-pages = λ r i. (region-rules id c r i).pages; apart-each = (parts id c).1 }

  pub not-hypervisor : (id : ℕ) → IsCell (table_of m) id → (p : PhysPage) (r : MemRegion) → Has p (regions_at m id) r → hypervisor_has p m ≡ false
  unfolding hypervisor_has
  not-hypervisor id c p r x = false_from_ne_true _ (λ y. clear-page _ _ r p (region-rules id c r x.is_in).clear x.plain x.has y)

  pub one-region : (id : ℕ) → IsCell (table_of m) id → (p : PhysPage) (r t : MemRegion) → Has p (regions_at m id) r → Has p (regions_at m id) t → r ≡ t
  one-region id c p r t x y = same-region p (regions_at m id) (parts id c).1 r t x y

  pub both-shared : (i j : ℕ) → IsCell (table_of m) i → IsCell (table_of m) j → (i ≡ j → ⊥) → (p : PhysPage) (r t : MemRegion)
      → Has p (regions_at m i) r → Has p (regions_at m j) t → (shared r ≡ true) × (shared t ≡ true)
  unfolding conflict has_phys overlap_phys
  both-shared i j c d n p r t x y =
      go (comm r) (comm t) (overlap_phys r t) (shared r) (shared t) x.plain y.plain (both-overlap _ _ _ _ p.0 x.has y.has)
      ((s.apart i j c d n).regions r t x.is_in y.is_in)
    where
      go : (a b o e f : Bool) → a ≡ false → b ≡ false → o ≡ true → (not a && not b && o && not (e && f)) ≡ false → (e ≡ true) × (f ≡ true)
      go true b o e f x y z n = absurd (true≢false x)
      go false true o e f x y z n = absurd (true≢false y)
      go false false false e f x y z n = absurd (true≢false (sym z))
      go false false true true true x y z n = (refl, refl)
      go false false true true false x y z n = absurd (true≢false n)
      go false false true false f x y z n = absurd (true≢false n)

  -- ---- root's regions

  boot-parts : (all (boot_region_ok m.system.hypervisor.start m.system.hypervisor.size) (boot_regions m.system) ≡ true) × (pairwise apart (boot_regions m.system) ≡ true)
  unfolding system_valid
  boot-parts = go (is_name _) (whole_pages m.system.hypervisor.start m.system.hypervisor.size) _ _ s.accepted
    where
      go : (a b c d : Bool) → (a && b && c && d) ≡ true → (c ≡ true) × (d ≡ true)
      go true true true d q = (refl, q)
      go true true false d q = absurd (true≢false (sym q))
      go true false c d q = absurd (true≢false (sym q))
      go false b c d q = absurd (true≢false (sym q))

  record BootRules (r : MemRegion) : Type 0 where
    pages : placed r ≡ true
    plain : comm r ≡ false
    clear : clear_of m.system.hypervisor.start m.system.hypervisor.size r ≡ true

  boot-rules : (r : MemRegion) → Memᴰ r (boot_regions m.system) → BootRules r
  unfolding boot_region_ok
  boot-rules r i =
      let start : ℕ = m.system.hypervisor.start in
      let size : ℕ = m.system.hypervisor.size in
      let all-of-it : (placed r && flags_ok r && ltb r.flags 8 && clear_of start size r) ≡ true =
      all_of (boot_region_ok start size) (boot_regions m.system) boot-parts.0 r i in
      let three : ((placed r && flags_ok r && ltb r.flags 8) ≡ true) × (clear_of start size r ≡ true) = and_parts (placed r && flags_ok r && ltb r.flags 8) _ all-of-it in
      let two : ((placed r && flags_ok r) ≡ true) × (ltb r.flags 8 ≡ true) = and_parts (placed r && flags_ok r) _ three.0 in
      let few : r.flags < 8 = leb-true _ _ two.1 in
      record {
        pages = (and_parts (placed r) (flags_ok r) two.0).0;
        plain = false_from_ne_true (comm r) (λ q. let y : r.flags / 8 % 2 ≡ 1 = eqb-true (r.flags / 8 % 2) 1 q in omega arith);
        clear = three.1;
      }

  pub good-boot : Good (boot_regions m.system)
  good-boot = record { whole-pages = λ r i. (boot-rules r i).pages; apart-each = boot-parts.1 }

  pub boot-plain : (r : MemRegion) → Memᴰ r (boot_regions m.system) → comm r ≡ false
  boot-plain r i = (boot-rules r i).plain

  pub boot-clear : (r : MemRegion) (p : PhysPage) → Memᴰ r (boot_regions m.system) → has_phys p r ≡ true → hypervisor_has p m ≡ false
  unfolding hypervisor_has
  boot-clear r p i h = false_from_ne_true _ (λ y. clear-page _ _ r p (boot-rules r i).clear (boot-rules r i).plain h y)
