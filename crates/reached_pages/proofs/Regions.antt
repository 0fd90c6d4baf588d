-- Pages of regions. Two ranges that have a page overlap; where a region is whole pages on both sides, each of its physical pages has one cell page
-- and the other way round; where the regions of a list are apart, the one that has a cell page is the one that is found. So the mapping of a
-- list gives exactly the pages of its regions, comm aside. Assumes nothing.
use Rattle.std.proofs.Common.{◌≡◌, refl, sym, ap, ◌∙◌, subst, Bool, true, false, not, ◌&&◌, ◌||◌, ◌⊎◌, inl, inr, List, [], ◌∷◌, ℕ, ◌+◌, ◌-◌, ◌*◌, ◌/◌, ◌%◌, ◌^◌, ◌≤◌, ◌<◌, min, max, arith, leb, ltb, le→leb, eqb-true, leb-true}
use Rattle.std.proofs.lemmas.Bool.{and_from, and_parts, both_ways, not-true}
use mathlib.Core.List.{Memᴰ}
use Rattle.base.specs.Lists.{all, any, pairwise}
use Rattle.base.proofs.Tests.{is_true}
use Rattle.regions.specs.declared.MemRegion.{MemRegion}
use Rattle.regions.specs.Regions.{aligned, whole_pages, placed, comm, overlap, overlap_virt, overlap_phys, apart, no_region}
use Rattle.machine_state.specs.declared.PhysPage.{PhysPage}
use Rattle.machine_state.specs.declared.CellPage.{CellPage}
use Rattle.machine_state.specs.declared.Access.{Access}
use Rattle.machine_state.specs.declared.Mapping.TheVariants.{Page, Comm, Unmapped}
use Rattle.rules.specs.Pages.{has_page, has_phys, has_virt, region_for, phys_of, access_of, mapped_by, cell_mapping}
use Rattle.reached.proofs.Members.{chosen, passed, all_of, any_of, some_of, Passes}

-- ---- ranges of whole pages

pub record In (start size n : ℕ) : Type 0 where
  pub small : n < 2 ^ 36
  pub low : start ≤ 4096 * n
  pub high : 4096 * n < start + size

pub page-in : (start size n : ℕ) → has_page start size n ≡ true → In start size n
unfolding has_page
page-in start size n e =
    let parts : ((ltb n (2 ^ 36) && leb start (4096 * n)) ≡ true) × (ltb (4096 * n) (start + size) ≡ true) = and_parts (ltb n (2 ^ 36) && leb start (4096 * n)) _ e in
    let more : (ltb n (2 ^ 36) ≡ true) × (leb start (4096 * n) ≡ true) = and_parts (ltb n (2 ^ 36)) _ parts.0 in
    record { small = leb-true _ _ more.0; low = leb-true _ _ more.1; high = leb-true _ _ parts.1 }

pub in-page : (start size n : ℕ) → In start size n → has_page start size n ≡ true
unfolding has_page
in-page start size n h =
    and_from _ _ (and_from _ _ (is_true (ltb n (2 ^ 36)) (le→leb _ _ h.small)) (is_true (leb start (4096 * n)) (le→leb _ _ h.low))) (is_true (ltb (4096 * n) (start + size)) (le→leb _ _ h.high))

-- two ranges that have a page overlap
pub both-overlap : (a n b m k : ℕ) → has_page a n k ≡ true → has_page b m k ≡ true → overlap a n b m ≡ true
unfolding overlap
both-overlap a n b m k e f =
    let x : In a n k = page-in a n k e in
    let y : In b m k = page-in b m k f in
    let lt : max a b < min (a + n) (b + m) = omega arith in
    is_true (ltb (max a b) (min (a + n) (b + m))) (le→leb _ _ lt)

record Whole (start size : ℕ) : Type 0 where
  at : start % 4096 ≡ 0
  long : size % 4096 ≡ 0
  ends : start + size ≤ 2 ^ 48

whole : (start size : ℕ) → whole_pages start size ≡ true → Whole start size
unfolding whole_pages
whole start size e =
    let p : ((aligned start && aligned size && leb 4096 size) ≡ true) × (leb (start + size) (2 ^ 48) ≡ true) = and_parts (aligned start && aligned size && leb 4096 size) _ e in
    let q : ((aligned start && aligned size) ≡ true) × (leb 4096 size ≡ true) = and_parts (aligned start && aligned size) _ p.0 in
    let r : (aligned start ≡ true) × (aligned size ≡ true) = and_parts (aligned start) _ q.0 in
    record { at = eqb-true _ _ r.0; long = eqb-true _ _ r.1; ends = leb-true _ _ p.1 }

-- the page at the same place of another range of the same size
moved : (a b size n : ℕ) → Whole a size → Whole b size → In a size n → In b size (b / 4096 + (n - a / 4096))
moved a b size n x y h =
    let p = x.at in
    let q = x.long in
    let r = y.at in
    let e = y.ends in
    let low = h.low in
    let high = h.high in
    record { small = omega arith; low = omega arith; high = omega arith }

back : (a b size n : ℕ) → Whole a size → Whole b size → In a size n → a / 4096 + ((b / 4096 + (n - a / 4096)) - b / 4096) ≡ n
back a b size n x y h = let p = x.at in let low = h.low in omega arith

-- ---- a region: physical pages and cell pages

-- the cell page of a physical page
virt_of : MemRegion → PhysPage → CellPage
virt_of r p = record { 0 = r.virt / 4096 + (p.0 - r.phys / 4096) }

placed-parts : (r : MemRegion) → placed r ≡ true → Whole r.phys r.size × Whole r.virt r.size
unfolding placed
placed-parts r e =
    let p : (whole_pages r.phys r.size ≡ true) × (whole_pages r.virt r.size ≡ true) = and_parts (whole_pages r.phys r.size) _ e in
    (whole r.phys r.size p.0, whole r.virt r.size p.1)

has-virt : (r : MemRegion) (p : PhysPage) → placed r ≡ true → has_phys p r ≡ true → has_virt (virt_of r p) r ≡ true
unfolding has_phys has_virt virt_of
has-virt r p e h =
    let w = placed-parts r e in in-page _ _ _ (moved r.phys r.virt r.size p.0 w.0 w.1 (page-in _ _ _ h))

phys-of-virt : (r : MemRegion) (p : PhysPage) → placed r ≡ true → has_phys p r ≡ true → phys_of r (virt_of r p) ≡ p
unfolding has_phys phys_of virt_of
phys-of-virt r p e h =
    let w = placed-parts r e in λ i. record { 0 = back r.phys r.virt r.size p.0 w.0 w.1 (page-in _ _ _ h) i }

has-phys : (r : MemRegion) (q : CellPage) → placed r ≡ true → has_virt q r ≡ true → has_phys (phys_of r q) r ≡ true
unfolding has_phys has_virt phys_of
has-phys r q e h =
    let w = placed-parts r e in in-page _ _ _ (moved r.virt r.phys r.size q.0 w.1 w.0 (page-in _ _ _ h))

no-page : (q : CellPage) → has_virt q no_region ≡ true → ⊥
unfolding has_virt no_region
no-page q e = let h : In 0 0 q.0 = page-in 0 0 q.0 e in let high = h.high in omega arith

-- ---- a list of regions

pub record Good (rs : List MemRegion) : Type 0 where
  pub whole-pages : (r : MemRegion) → Memᴰ r rs → placed r ≡ true
  pub apart-each : pairwise apart rs ≡ true

-- a page of two regions that are apart: not by cell addresses; by physical ones only where one is a comm region
pub apart_parts : (r s : MemRegion) → apart r s ≡ true → (overlap_virt r s ≡ false) × ((comm r || comm s || not (overlap_phys r s)) ≡ true)
unfolding apart
apart_parts r s e =
    let p : ((not (overlap_virt r s) && (comm r || comm s || not (overlap_phys r s))) ≡ true) × (not (comm r && comm s) ≡ true) =
    and_parts (not (overlap_virt r s) && (comm r || comm s || not (overlap_phys r s))) _ e in
    let q : (not (overlap_virt r s) ≡ true) × ((comm r || comm s || not (overlap_phys r s)) ≡ true) = and_parts (not (overlap_virt r s)) _ p.0 in
    (not-true (overlap_virt r s) q.0, q.1)

not-both : (r s : MemRegion) (q : CellPage) → apart r s ≡ true → has_virt q r ≡ true → has_virt q s ≡ true → ⊥
unfolding has_virt overlap_virt
not-both r s q e f g = both_ways _ (apart_parts r s e).0 (both-overlap _ _ _ _ q.0 f g)

-- the region that is found is the one that has the page
found_it : (q : CellPage) (rs : List MemRegion) → pairwise apart rs ≡ true → (r : MemRegion) → Memᴰ r rs → has_virt q r ≡ true → region_for q rs ≡ r
unfolding region_for pairwise
found_it q [] e r i h = absurd (mathlib.Core.List.Memᴰ.not-nil i)
found_it q (s ∷ ss) e r i h = go (has_virt q s) refl (and_parts (all (apart s) ss) (pairwise apart ss) e) (mathlib.Core.List.Memᴰ.cases_cons i) (found_it q ss)
  where
    go : (b : Bool) → has_virt q s ≡ b → (all (apart s) ss ≡ true) × (pairwise apart ss ≡ true) → (r ≡ s) ⊎ Memᴰ r ss
        → (pairwise apart ss ≡ true → (r : MemRegion) → Memᴰ r ss → has_virt q r ≡ true → region_for q ss ≡ r)
        → elim (has_virt q s) [ true ↦ s | false ↦ region_for q ss ] ≡ r
    go true t (x, y) (inl z) more = chosen _ _ t ∙ sym z
    go true t (x, y) (inr j) more = absurd (not-both s r q (all_of (apart s) ss x r j) t h)
    go false t (x, y) (inl z) more = absurd (both_ways _ t (sym (ap (has_virt q) z) ∙ h))
    go false t (x, y) (inr j) more = passed _ _ t ∙ more y r j h

found_in : (q : CellPage) (rs : List MemRegion) → has_virt q (region_for q rs) ≡ true → Memᴰ (region_for q rs) rs
unfolding region_for
found_in q [] h = absurd (no-page q h)
found_in q (s ∷ ss) h = go (has_virt q s) refl (found_in q ss)
  where
    go : (b : Bool) → has_virt q s ≡ b → (has_virt q (region_for q ss) ≡ true → Memᴰ (region_for q ss) ss) → Memᴰ (region_for q (s ∷ ss)) (s ∷ ss)
    go true t more = mathlib.Core.List.Memᴰ.head (chosen _ _ t)
    go false t more =
        let same : region_for q (s ∷ ss) ≡ region_for q ss = passed _ _ t in
        subst (λ (r : MemRegion). Memᴰ r (s ∷ ss)) (sym same) (mathlib.Core.List.Memᴰ.tail (more (sym (ap (has_virt q) same) ∙ h)))

-- ---- what a list of regions maps

abbrev pub has_it : PhysPage → MemRegion → Bool
has_it p r = has_phys p r && not (comm r)

pub record MappedAt (rs : List MemRegion) (p : PhysPage) : Type 0 where
  pub page : CellPage
  pub access : Access
  pub maps : cell_mapping rs page ≡ Page p access

pub maps-it : (rs : List MemRegion) → Good rs → (p : PhysPage) → any (has_it p) rs ≡ true → MappedAt rs p
unfolding cell_mapping mapped_by
maps-it rs g p e =
    let f : Passes (has_it p) rs = some_of (has_it p) rs e in
    let r : MemRegion = f.element in
    let parts : (has_phys p r ≡ true) × (not (comm r) ≡ true) = and_parts (has_phys p r) _ f.passes in
    let ok : placed r ≡ true = g.whole-pages r f.is_in in
    let here : has_virt (virt_of r p) r ≡ true = has-virt r p ok parts.0 in
    record {
      page = virt_of r p;
      access = access_of r;
      maps =
          ap (λ (s : MemRegion). mapped_by s (virt_of r p)) (found_it (virt_of r p) rs g.apart-each r f.is_in here)
          ∙ chosen _ _ here ∙ passed _ _ (not-true (comm r) parts.1) ∙ ap (λ (x : PhysPage). Page x (access_of r)) (phys-of-virt r p ok parts.0);
    }

pub mapped-it : (rs : List MemRegion) → Good rs → (p : PhysPage) (q : CellPage) (access : Access) → cell_mapping rs q ≡ Page p access → any (has_it p) rs ≡ true
unfolding cell_mapping mapped_by
mapped-it rs g p q access e = go (has_virt q r) refl (comm r) refl e
  where
    r : MemRegion
    r = region_for q rs

    go : (b : Bool) → has_virt q r ≡ b → (c : Bool) → comm r ≡ c
        → elim b [ true ↦ elim c [ true ↦ Comm | false ↦ Page (phys_of r q) (access_of r) ] | false ↦ Unmapped ] ≡ Page p access → any (has_it p) rs ≡ true
    go true h true c e = absurd (let z : ◌≡◌ {A = ℕ} 0 1 = cc in omega arith)
    go true h false c e =
        let same : phys_of r q ≡ p = cc in
        let is_in : Memᴰ r rs = found_in q rs h in
        any_of (has_it p) rs r is_in
        (and_from _ _ (subst (λ (x : PhysPage). has_phys x r ≡ true) same (has-phys r q (g.whole-pages r is_in) h)) (ap not c))
    go false h c d e = absurd (let z : ◌≡◌ {A = ℕ} 0 1 = cc in omega arith)
