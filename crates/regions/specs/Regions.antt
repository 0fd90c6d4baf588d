-- Memory regions. Document 01, "Boot and cell records", the paragraph "Region (32 bytes)" and what the section says of ranges.
use Rattle.std.specs.Prelude.{Bool, not, ◌&&◌, ◌||◌, List, ℕ, ◌+◌, ◌/◌, ◌%◌, ◌^◌, min, max, leb, ltb, eqb}
use Rattle.fields.specs.Fields.{u64}
use Rattle.regions.specs.declared.MemRegion.{MemRegion}

-- "physical start, cell address, size, flags, each u64"
unfoldable pub region_of : List ℕ → MemRegion
region_of bs = record { phys = u64 0 bs; virt = u64 8 bs; size = u64 16 bs; flags = u64 24 bs }

-- what stands in an unused place of a table
unfoldable pub no_region : MemRegion
no_region = record { phys = 0; virt = 0; size = 0; flags = 0 }

-- "multiples of 4,096"
abbrev pub aligned : ℕ → Bool
aligned n = eqb (n % 4096) 0

-- "whole pages, at least one, ending by 2^48": of hypervisor memory, and of a region on either side
unfoldable pub whole_pages : ℕ → ℕ → Bool
whole_pages start size = aligned start && aligned size && leb 4096 size && leb (start + size) (2 ^ 48)

-- "Start, address and size are multiples of 4,096; size at least 4,096; each end at most 2^48"
unfoldable pub placed : MemRegion → Bool
placed r = whole_pages r.phys r.size && whole_pages r.virt r.size

-- "read 1, write 2, execute 4, comm 8, loadable 16, shared 32"
abbrev pub read_flag : ℕ
read_flag = 1

abbrev pub write_flag : ℕ
write_flag = 2

abbrev pub execute_flag : ℕ
execute_flag = 4

abbrev pub comm_flag : ℕ
comm_flag = 8

abbrev pub loadable_flag : ℕ
loadable_flag = 16

abbrev pub shared_flag : ℕ
shared_flag = 32

-- the flag of value v is set
abbrev pub flag : ℕ → MemRegion → Bool
flag v r = eqb (r.flags / v % 2) 1

abbrev pub readable : MemRegion → Bool
readable r = flag read_flag r

abbrev pub executable : MemRegion → Bool
executable r = flag execute_flag r

abbrev pub comm : MemRegion → Bool
comm r = flag comm_flag r

abbrev pub loadable : MemRegion → Bool
loadable r = flag loadable_flag r

abbrev pub shared : MemRegion → Bool
shared r = flag shared_flag r

-- C-17: "A region both shared and executable"
abbrev pub shared_and_executable : MemRegion → Bool
shared_and_executable r = shared r && executable r

-- "no other bit; read is always set, loadable and shared never together"
unfoldable pub flags_ok : MemRegion → Bool
flags_ok r = ltb r.flags 64 && readable r && not (loadable r && shared r)

-- "A comm region has flags exactly 11, physical start 0, size 4,096"
unfoldable pub comm_ok : MemRegion → Bool
comm_ok r = not (comm r) || eqb r.flags 11 && eqb r.phys 0 && eqb r.size 4096

-- two ranges overlap: some byte is in both, so that the later start lies before the earlier end
unfoldable pub overlap : ℕ → ℕ → ℕ → ℕ → Bool
overlap a n b m = ltb (max a b) (min (a + n) (b + m))

-- the range of n from a lies inside that of m from b
unfoldable pub inside : ℕ → ℕ → ℕ → ℕ → Bool
inside a n b m = leb b a && leb (a + n) (b + m)

unfoldable pub overlap_virt : MemRegion → MemRegion → Bool
overlap_virt r s = overlap r.virt r.size s.virt s.size

unfoldable pub overlap_phys : MemRegion → MemRegion → Bool
overlap_phys r s = overlap r.phys r.size s.phys s.size

-- "no two regions overlap in cell addresses, nor (comm aside) in physical addresses"; comm regions: "at most one per cell"
unfoldable pub apart : MemRegion → MemRegion → Bool
apart r s = not (overlap_virt r s) && (comm r || comm s || not (overlap_phys r s)) && not (comm r && comm s)

-- "None (comm aside) overlaps hypervisor memory"
unfoldable pub clear_of : ℕ → ℕ → MemRegion → Bool
clear_of start size r = comm r || not (overlap r.phys r.size start size)

-- "A loadable or shared region lies inside a single boot region": r lies physically inside the region b
unfoldable pub inside_phys : MemRegion → MemRegion → Bool
inside_phys r b = inside r.phys r.size b.phys b.size
