-- "Version 1 records are still read, with L = 0": the bytes that would hold the limit are zero there, so the limit read from them is. Assumes nothing.
use mathlib.Core.Bool.{Bool, true, false, ◌&&◌, ◌||◌, false≢true}
use mathlib.Core.Path.{◌≡◌, refl, sym, ap, ◌∙◌}
use mathlib.Core.List.{List, [], ◌∷◌}
use Prim.Native.Nat.{ℕ, ◌+◌, ◌*◌}
use native.Mathlib.Omega.{arith}
use borrow.Author.Tests.{eqb-true}
use lib.Dec.{eqb}
use Rattle.base.specs.Lists.{all, part}
use Rattle.fields.specs.Fields.{little_endian, field, u16, is_zero, zeros}
use Rattle.cell_record.specs.CellRecord.{cell_of, limit_ok}

all-zero : (bs : List ℕ) → all is_zero bs ≡ true → little_endian bs ≡ 0
unfolding little_endian
all-zero [] h = refl
all-zero (b ∷ bs) h = go (eqb b 0) (all is_zero bs) refl (all-zero bs) h
  where
    go : (x y : Bool) → eqb b 0 ≡ x → (y ≡ true → little_endian bs ≡ 0) → (x && y) ≡ true → b + 256 * little_endian bs ≡ 0
    go true y e f t = let rest : little_endian bs ≡ 0 = f t in let here : b ≡ 0 = eqb-true b 0 e in omega arith
    go false y e f t = absurd (false≢true t)

pub version-1-unlimited : (r : List ℕ) → limit_ok r ≡ true → u16 4 r ≡ 1 → (cell_of r).reply_limit ≡ 0
unfolding limit_ok cell_of field
version-1-unlimited r h v = all-zero (part 50 2 r) (sym (ap (λ (n : ℕ). eqb n 2 || zeros (part 50 2 r)) v) ∙ h)
