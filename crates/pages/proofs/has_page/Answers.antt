-- `pages::has_page` meets its contract: a number from 2^36 up, a page before the range, and the rest. Assumes nothing.
use Prim.Native.Nat.{◌^◌, ◌≤◌}
use native.Mathlib.Omega.{arith}
use Rattle.pages.proofs.Laws.{page-past, page-before, page-from}
use Rattle.pages.proofs.has_page.Goals as goal

pub returns-then-n-ge68719476736 : goal.returns-then-n-ge68719476736
returns-then-n-ge68719476736 c =
    let past : 2 ^ 36 ≤ c.args.n = omega arith in page-past _ _ _ past

pub returns-then-at-start : goal.returns-then-at-start
returns-then-at-start c = page-before _ _ _ c.if-n-ge68719476736.false c.if-at-start.true

pub returns : goal.returns
returns c = page-from _ _ _ c.if-n-ge68719476736.false c.if-at-start.false
