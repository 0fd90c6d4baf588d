-- Laws of cell pages: where a page of a range lies, and the first region that has a page, as an iterator finds it. Linear arithmetic, and induction
-- on lists. Assumes nothing.
use mathlib.Core.Path.{◌≡◌, refl}
use mathlib.Core.Bool.{Bool, true, false, cond, ◌&&◌}
use mathlib.Core.List.{List, [], ◌∷◌}
use Prim.Native.Nat.{ℕ, ◌+◌, ◌-◌, ◌*◌, ◌/◌, ◌^◌, ◌≤◌, ◌<◌}
use native.Mathlib.Nat.{div-le_of_le-mul}
use native.Mathlib.Omega.{arith}
use borrow.Author.Tests.{ltb-true, leb-true}
use lib.Dec.{T, leb, ltb}
use Rattle.std.proofs.Common.{Some}
use Rattle.std.specs.List.{find}
use Rattle.std.specs.Option.{unwrap_or}
use Rattle.base.proofs.Tests.{is_true, holds, and_left, and_right}
use Rattle.regions.specs.declared.MemRegion.{MemRegion}
use Rattle.regions.specs.Regions.{no_region}
use Rattle.machine_state.specs.declared.CellPage.{CellPage}
use Rattle.rules.specs.Pages.{has_page, has_virt, region_for}

-- ---- a page in a range is no earlier than the range's first, and below 2^36

module _ (start size n : ℕ) where
  page-head : has_page start size n ≡ true → T (ltb n (2 ^ 36) && leb start (4096 * n))
  unfolding has_page
  page-head e = and_left (ltb n (2 ^ 36) && leb start (4096 * n)) (ltb (4096 * n) (start + size)) (holds e)

  pub page-small : has_page start size n ≡ true → n < 2 ^ 36
  page-small e = ltb-true n (2 ^ 36) (is_true _ (and_left (ltb n (2 ^ 36)) (leb start (4096 * n)) (page-head e)))

  pub page-starts : has_page start size n ≡ true → start / 4096 ≤ n
  page-starts e =
      div-le_of_le-mul 4096
      (leb-true start (4096 * n) (is_true _ (and_right (ltb n (2 ^ 36)) (leb start (4096 * n)) (page-head e))))

-- the number of the physical page fits
pub page-sum : (phys begin n : ℕ) → phys < 2 ^ 64 → n < 2 ^ 36 → phys / 4096 + (n - begin) < 2 ^ 64
page-sum phys begin n h l = omega arith

-- ---- the first region that has a cell page is what an iterator finds; where it finds none, one of no size

pub first-region : (p : CellPage) (rs : List MemRegion) → unwrap_or (find (has_virt p) rs) no_region ≡ region_for p rs
unfolding region_for
first-region p [] = refl
first-region p (r ∷ rs) = go (has_virt p r) (first-region p rs)
  where
    go : (b : Bool) → unwrap_or (find (has_virt p) rs) no_region ≡ region_for p rs
        → unwrap_or (cond b (Some r) (find (has_virt p) rs)) no_region ≡ elim b as (λ x. MemRegion) [ true ↦ r | false ↦ region_for p rs ]
    go true e = refl
    go false e = e
