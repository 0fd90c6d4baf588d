-- Laws of the questions about physical pages: a page in a range, the first ID that passes a test, a cell's place. Linear arithmetic, and induction
-- on lists. Assumes nothing.
use mathlib.Core.Path.{◌≡◌, refl, sym, ap, ◌∙◌}
use mathlib.Core.Bool.{Bool, true, false, not, ◌&&◌, ◌||◌}
use mathlib.Core.List.{List, [], ◌∷◌}
use Prim.Native.Nat.{ℕ, suc, ◌+◌, ◌-◌, ◌*◌, ◌^◌, ◌≤◌, ◌<◌}
use native.Mathlib.Nat.{mul-le-mul_right}
use native.Mathlib.Omega.{arith}
use borrow.Author.Tests.{lt-ltb, le-ltb, le-leb, lt-leb, not-false}
use lib.Dec.{T, ltb}
use Rattle.base.specs.Lists.{all, any, from}
use Rattle.base.proofs.Tests.{equal-leb, is_true, holds, and_left, and_right}
use Rattle.machine_state.specs.Machine.{max_cells}
use Rattle.rules.specs.State.{has_id, first, some_id, cell_ids}
use Rattle.rules.proofs.SomeIds.{is-some, is-none}
use Rattle.std.proofs.Common.{Some, None}
use Rattle.rules.specs.Pages.{has_page}
use Rattle.rules.proofs.Ids.{has_id-lt}

-- ---- a page in a range: the code's tests, which form no end, say what the definition says

module _ (start size n : ℕ) where
  pub page-past : 2 ^ 36 ≤ n → false ≡ has_page start size n
  unfolding has_page
  page-past h = rw (le-ltb n (2 ^ 36) h)

  pub page-before : n < 2 ^ 36 → 4096 * n < start → false ≡ has_page start size n
  unfolding has_page
  page-before h l = rw (lt-ltb n (2 ^ 36) h, lt-leb start (4096 * n) l)

  pub page-from : n < 2 ^ 36 → start ≤ 4096 * n → ltb (4096 * n - start) size ≡ has_page start size n
  unfolding has_page
  page-from h l =
      rw (lt-ltb n (2 ^ 36) h, le-leb start (4096 * n) l)
      (equal-leb (suc (4096 * n - start)) size (suc (4096 * n)) (start + size) (λ p. omega arith) (λ p. omega arith))

-- ---- the first ID that passes a test

module _ (p : ℕ → Bool) where
  -- there is a first one below 16 where there is one at all
  first_any : (ks : List ℕ) → T (all (λ k. ltb k max_cells) ks) → ltb (first p ks) max_cells ≡ any p ks
  unfolding first
  first_any [] t = refl
  first_any (k ∷ ks) t = by-test (p k) (first_any ks (and_right (ltb k max_cells) (all (λ j. ltb j max_cells) ks) t))
    where
      by-test : (b : Bool) → ltb (first p ks) max_cells ≡ any p ks
          → ltb (elim b as (λ x. ℕ) [ true ↦ k | false ↦ first p ks ]) max_cells ≡ (b || any p ks)
      by-test true e = is_true _ (and_left (ltb k max_cells) (all (λ j. ltb j max_cells) ks) t)
      by-test false e = e

  first_found : ltb (first p cell_ids) max_cells ≡ any p cell_ids
  unfolding from
  first_found = first_any cell_ids tt

-- by whether an owner was found
module _ (p : ℕ → Bool) where
  pub some-first : (id : ℕ) → some_id (first p cell_ids) ≡ Some id → (id ≡ first p cell_ids) × (any p cell_ids ≡ true)
  some-first id e =
      let i = is-some (first p cell_ids) id e in (
        sym i.0,
        sym (first_found p) ∙ ap (λ (k : ℕ). ltb k max_cells) i.0 ∙ lt-ltb id max_cells i.1,
      )

  pub none-first : some_id (first p cell_ids) ≡ None → any p cell_ids ≡ false
  none-first e = sym (first_found p) ∙ le-ltb (first p cell_ids) max_cells (is-none (first p cell_ids) e)

-- a live cell has its place in the table
pub live-place : (ids id : ℕ) (found : Bool) → found ≡ has_id ids id → not found ≡ false → id < max_cells
live-place ids id found e n = has_id-lt ids id (holds (sym e ∙ not-false found n))

-- a place's offset in a table of cells fits
pub place-fits : (id size : ℕ) → id < max_cells → size < 2 ^ 60 → id * size < 2 ^ 64
place-fits id size h l = let m : id * size ≤ 16 * size = mul-le-mul_right size (omega arith) in omega arith

-- a test of a live cell, whichever is asked first
pub and-swap : (a b c : Bool) → (a && (b && c)) ≡ (b && a && c)
and-swap true true c = refl
and-swap true false c = refl
and-swap false true c = refl
and-swap false false c = refl
