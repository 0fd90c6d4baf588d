-- Laws of ranges: the code's tests, which form no sum, say what the definitions say of ends. Linear arithmetic. Assumes nothing.
use mathlib.Core.Path.{◌≡◌, sym}
use mathlib.Core.Bool.{false, ◌&&◌}
use mathlib.Core.List.{List}
use Prim.Native.Nat.{ℕ, suc, ◌+◌, ◌-◌, ◌≤◌, ◌<◌, min, max}
use native.Mathlib.Omega.{arith}
use borrow.Author.Tests.{lt-leb, le-leb}
use lib.Dec.{leb, ltb}
use lib.ListN.{length, drop, drop_of_length-le}
use Rattle.base.proofs.Tests.{both-leb, equal-leb}
use Rattle.fields.specs.Fields.{field, little_endian}
use Rattle.regions.specs.Regions.{overlap, inside, region_of, no_region}

pub overlap-up : (a n b m : ℕ) → a ≤ b → (ltb (b - a) n && ltb 0 m) ≡ overlap a n b m
unfolding overlap
overlap-up a n b m h =
    both-leb (suc (b - a)) n 1 m (suc (max a b)) (min (a + n) (b + m)) (λ p q. omega arith) (λ p. omega arith) (λ p. omega arith)

pub overlap-down : (a n b m : ℕ) → b < a → (ltb (a - b) m && ltb 0 n) ≡ overlap a n b m
unfolding overlap
overlap-down a n b m h =
    both-leb (suc (a - b)) m 1 n (suc (max a b)) (min (a + n) (b + m)) (λ p q. omega arith) (λ p. omega arith) (λ p. omega arith)

pub inside-before : (a n b m : ℕ) → a < b → false ≡ inside a n b m
unfolding inside
inside-before a n b m h = rw (lt-leb b a h)

pub inside-larger : (a n b m : ℕ) → b ≤ a → m < n → false ≡ inside a n b m
unfolding inside
inside-larger a n b m h l = rw (le-leb b a h, lt-leb (a + n) (b + m) (omega arith))

pub inside-within : (a n b m : ℕ) → b ≤ a → n ≤ m → leb (a - b) (m - n) ≡ inside a n b m
unfolding inside
inside-within a n b m h l = rw (le-leb b a h) (equal-leb (a - b) (m - n) (a + n) (b + m) (λ p. omega arith) (λ p. omega arith))

-- an end at or before a limit, without forming the end
pub ends-within : (start size limit : ℕ) → size ≤ limit → leb start (limit - size) ≡ leb (start + size) limit
ends-within start size limit h = equal-leb start (limit - size) (start + size) limit (λ p. omega arith) (λ p. omega arith)

pub ends-past : (start size limit : ℕ) → limit < size → false ≡ leb (start + size) limit
ends-past start size limit h = sym (lt-leb (start + size) limit (omega arith))

-- past the record's end there are no bytes, and a region of none is all zeros
pub past-region : (at : ℕ) (bs : List ℕ) → length bs ≤ at → no_region ≡ region_of (drop at bs)
unfolding region_of no_region field little_endian
past-region at bs h = rw (drop_of_length-le bs h)
