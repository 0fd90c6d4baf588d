-- Fields of a record. Document 01, "Boot and cell records": "Little-endian. All unnamed bytes are zero."
use Rattle.std.specs.Prelude.{Bool, ◌&&◌, List, [], ◌∷◌, ◌++◌, ℕ, ◌+◌, ◌*◌, leb, eqb, take, drop, replicate}
use Rattle.std.specs.List.{prefix_len}
use Rattle.base.specs.Lists.{all, part}

-- "Little-endian": the first byte is the lowest
unfoldable pub little_endian : List ℕ → ℕ
little_endian [] = 0
little_endian (b ∷ bs) = b + 256 * little_endian bs

-- the number in the w bytes at an offset. Bytes past the record's end count as zero
unfoldable pub field : ℕ → ℕ → List ℕ → ℕ
field w at r = little_endian (part at w r)

-- u16, u32, u64 at an offset
abbrev pub u16 : ℕ → List ℕ → ℕ
u16 at r = field 2 at r

abbrev pub u32 : ℕ → List ℕ → ℕ
u32 at r = field 4 at r

abbrev pub u64 : ℕ → List ℕ → ℕ
u64 at r = field 8 at r

-- "All unnamed bytes are zero"
abbrev pub is_zero : ℕ → Bool
is_zero b = eqb b 0

abbrev pub zeros : List ℕ → Bool
zeros bs = all is_zero bs

-- "bytes 0x21..0x7e"
abbrev pub graphic : ℕ → Bool
graphic b = leb 0x21 b && leb b 0x7e

-- how many bytes 0x21..0x7e stand at the start
abbrev pub leading : List ℕ → ℕ
leading bs = prefix_len graphic bs

-- "Name: 1 to 31 bytes 0x21..0x7e, then zeros"
unfoldable pub is_name : List ℕ → Bool
is_name bs = leb 1 (leading bs) && leb (leading bs) 31 && zeros (drop (leading bs) bs)

-- the first n bytes, with zeros past the end
unfoldable pub padded : ℕ → List ℕ → List ℕ
padded n bs = take n (bs ++ replicate n 0)
