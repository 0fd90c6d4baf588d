-- Laws of a record's regions and of tables of them. A table that is filled place by place is, after i turns, the table of the record's first i
-- regions; a loop over the record's bytes gathers a test of each region. By the lists' elements. Assumes nothing.
use mathlib.Core.Path.{◌≡◌, refl, sym, ap, ap₂, ◌∙◌}
use mathlib.Core.Bool.{Bool, true, false, ◌&&◌, ◌||◌}
use mathlib.Core.List.{List, [], ◌∷◌, map}
use Prim.Native.Nat.{ℕ, suc, ◌+◌, ◌≤◌, ◌<◌, min}
use native.Mathlib.Nat.{zero-add}
use native.Mathlib.Decide.{ℕ_discrete}
use native.Mathlib.Omega.{arith}
use borrow.Author.Tests.{lt-ltb, le-ltb}
use lib.Dec.{ltb}
use lib.ListN.{length, get_or, set, take, replicate, get_or-replicate, length-take}
use lib.Seq.{get_or-set_same, get_or-set_other, get_or-take}
use Rattle.std.specs.List.{enumerate_from}
use Rattle.std.proofs.lemmas.List.Folds.{list_all-map}
use Rattle.std.proofs.lemmas.List.FromFn.{length-enumerate_from, get_or-enumerate_from}
use Rattle.base.specs.Lists.{all, any, pairwise, from, up_to}
use Rattle.base.proofs.Tests.{equal-leb}
use Rattle.base.proofs.Lists.{all-turn, any-turn, pairwise-turn, length-up_to, get_or-up_to, map-up_to}
use Rattle.regions.specs.declared.MemRegion.{MemRegion}
use Rattle.regions.specs.Regions.{no_region}
use Rattle.region_table.specs.Tables.{region_at, regions_of, table_of}

-- a test of each element of a list, with its place
pub all-placed : {A : Type 0} (test : ℕ × A → Bool) (d : A) (xs : List A)
    → all test (enumerate_from 0 xs) ≡ all (λ i. test (i, get_or xs i d)) (up_to (length xs))
all-placed {A} test d xs =
    ap (all test)
    (map-up_to {A = ℕ × A} (λ i. (i, get_or xs i d)) (length xs) (0, d) (enumerate_from 0 xs) (length-enumerate_from 0 xs)
    (λ i l. get_or-enumerate_from 0 xs i (0, d) l ∙ ap {B = ℕ × A} (λ k. (k, get_or xs i d)) (zero-add i)))
    ∙ list_all-map test (λ i. (i, get_or xs i d)) (up_to (length xs))

-- what place k of a table of n regions holds
abbrev pub place : ℕ → List ℕ → ℕ → ℕ → MemRegion
place base bs n k = elim (ltb k n) [ true ↦ region_at base bs k | false ↦ no_region ]

place_in : (base : ℕ) (bs : List ℕ) (n k : ℕ) → k < n → place base bs n k ≡ region_at base bs k
place_in base bs n k h = rw (lt-ltb k n h, place)

place_out : (base : ℕ) (bs : List ℕ) (n k : ℕ) → n ≤ k → place base bs n k ≡ no_region
place_out base bs n k h = rw (le-ltb k n h, place)

-- a place is the same in two tables that both have its region, or both not
place_same : (base : ℕ) (bs : List ℕ) (n m k : ℕ) → (k < n → k < m) → (k < m → k < n) → place base bs n k ≡ place base bs m k
place_same base bs n m k f g =
    ap (λ (t : Bool). elim t as (λ x. MemRegion) [ true ↦ region_at base bs k | false ↦ no_region ]) (equal-leb (suc k) n (suc k) m f g)

-- a table of so many places holds the first n regions
abbrev pub Filled : ℕ → ℕ → List ℕ → ℕ → List MemRegion → Type 0
Filled places base bs n xs = (k : ℕ) → k < places → get_or xs k no_region ≡ place base bs n k

pub filled_none : (places base : ℕ) (bs : List ℕ) (r : MemRegion) → r ≡ no_region → Filled places base bs 0 (replicate places r)
filled_none places base bs r e k h = get_or-replicate places k r no_region h ∙ e ∙ sym (place_out base bs 0 k (omega arith))

module _ (places base : ℕ) (bs : List ℕ) (xs : List MemRegion) (size : length xs ≡ places) where
  pub filled_more : (i : ℕ) (r : MemRegion) → i < places → r ≡ region_at base bs i → Filled places base bs i xs
      → Filled places base bs (i + 1) (set xs i r)
  filled_more i r h e f k l = by_place (ℕ_discrete k i)
    where
      by_place : Dec (k ≡ i) → get_or (set xs i r) k no_region ≡ place base bs (i + 1) k
      by_place (yes q) =
          rw q (get_or-set_same xs i r no_region (omega arith) ∙ e ∙ sym (place_in base bs (i + 1) i (omega arith)))
      by_place (no n) =
          get_or-set_other xs i k r no_region n ∙ f k l ∙ place_same base bs i (i + 1) k (λ p. omega arith) (λ p. omega arith)

  pub filled-all : (count n i : ℕ) → n ≡ min count places → i ≤ n → n ≤ i → Filled places base bs i xs → xs ≡ table_of places base count bs
  unfolding table_of
  filled-all count n i e h g f =
      map-up_to (place base bs count) places no_region xs size
      (λ k l. f k l ∙ place_same base bs i count k (λ p. omega arith) (λ p. omega arith))

-- ---- the regions of a record, one more at a time

module _ (base : ℕ) (bs : List ℕ) where
  length-regions : (n : ℕ) → length (regions_of base n bs) ≡ n
  unfolding regions_of
  length-regions n = length-up_to (region_at base bs) n

  -- region i of a record that has more is the one at its own offset
  region-is : (n i : ℕ) → i < n → get_or (regions_of base n bs) i no_region ≡ region_at base bs i
  unfolding regions_of
  region-is n i h = get_or-up_to (region_at base bs) n i no_region h

  -- the first of them
  first-regions : (n i : ℕ) → i ≤ n → take i (regions_of base n bs) ≡ regions_of base i bs
  unfolding regions_of
  first-regions n i h =
      map-up_to (region_at base bs) i no_region (take i (regions_of base n bs))
      (length-take i (regions_of base n bs) ∙ ap (min i) (length-regions n) ∙ few)
      (λ k l. get_or-take i (regions_of base n bs) k no_region l ∙ region-is n k (omega arith))
    where
      few : min i n ≡ i
      few = omega arith

  -- the turns of a loop that gathers a test of each region
  module _ (i : ℕ) where
    inside : i < length (regions_of base (i + 1) bs)
    inside = let e = length-regions (i + 1) in omega arith

    before : take i (regions_of base (i + 1) bs) ≡ regions_of base i bs
    before = first-regions (i + 1) i (omega arith)

    after : take (i + 1) (regions_of base (i + 1) bs) ≡ regions_of base (i + 1) bs
    after = first-regions (i + 1) (i + 1) (omega arith)

    here : region_at base bs i ≡ get_or (regions_of base (i + 1) bs) i no_region
    here = sym (region-is (i + 1) i (omega arith))

    pub all-regions : (p : MemRegion → Bool) (flag t : Bool) → flag ≡ all p (regions_of base i bs) → t ≡ p (region_at base bs i)
        → (flag && t) ≡ all p (regions_of base (i + 1) bs)
    all-regions p flag t e q =
        all-turn p (regions_of base (i + 1) bs) i no_region flag t (e ∙ ap (all p) (sym before)) (q ∙ ap p here) inside ∙ ap (all p) after

    pub any-regions : (p : MemRegion → Bool) (flag t : Bool) → flag ≡ any p (regions_of base i bs) → t ≡ p (region_at base bs i)
        → (flag || t) ≡ any p (regions_of base (i + 1) bs)
    any-regions p flag t e q =
        any-turn p (regions_of base (i + 1) bs) i no_region flag t (e ∙ ap (any p) (sym before)) (q ∙ ap p here) inside ∙ ap (any p) after

    pub pairwise-regions : (p : MemRegion → MemRegion → Bool) (flag t : Bool) → flag ≡ pairwise p (regions_of base i bs)
        → t ≡ all (λ x. p x (region_at base bs i)) (regions_of base i bs) → (flag && t) ≡ pairwise p (regions_of base (i + 1) bs)
    pairwise-regions p flag t e q =
        pairwise-turn p (regions_of base (i + 1) bs) i no_region flag t (e ∙ ap (pairwise p) (sym before))
        (q ∙ ap₂ (λ (r : MemRegion) (l : List MemRegion). all (λ x. p x r) l) here (sym before)) inside
        ∙ ap (pairwise p) after

  -- the loop's beginning
  pub all-no-region : (p : MemRegion → Bool) → true ≡ all p (regions_of base 0 bs)
  unfolding regions_of from
  all-no-region p = refl

  pub any-no-region : (p : MemRegion → Bool) → false ≡ any p (regions_of base 0 bs)
  unfolding regions_of from
  any-no-region p = refl

  pub pairwise-no-region : (p : MemRegion → MemRegion → Bool) → true ≡ pairwise p (regions_of base 0 bs)
  unfolding pairwise regions_of from
  pairwise-no-region p = refl

  -- the regions that a table's count names are the record's
  pub table-regions : (places n : ℕ) → take n (table_of places base n bs) ≡ regions_of base (min n places) bs
  unfolding table_of regions_of
  table-regions places n =
      map-up_to (region_at base bs) (min n places) no_region (take n (table_of places base n bs))
      (length-take n (table_of places base n bs) ∙ ap (min n) (length-up_to (place base bs n) places))
      (λ k l. get_or-take n (table_of places base n bs) k no_region (omega arith)
      ∙ get_or-up_to (place base bs n) places k no_region (omega arith) ∙ place_in base bs n k (omega arith))

  -- a test of some of a record's regions, by their numbers
  any_map : (p : MemRegion → Bool) (ks : List ℕ) → any (λ i. p (region_at base bs i)) ks ≡ any p (map (region_at base bs) ks)
  any_map p [] = refl
  any_map p (k ∷ ks) = ap (λ (b : Bool). p (region_at base bs k) || b) (any_map p ks)

  pub any-numbered : (p : MemRegion → Bool) (n : ℕ) → any (λ i. p (region_at base bs i)) (up_to n) ≡ any p (regions_of base n bs)
  unfolding regions_of
  any-numbered p n = any_map p (up_to n)
