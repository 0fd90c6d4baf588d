-- The regions of a record, and the table that holds them. Document 01, "Boot and cell records": "Each region record is read from the
-- part of the configuration that begins at its own offset."
use Rattle.std.specs.Prelude.{true, false, List, map, ℕ, ◌+◌, ◌*◌, ltb, drop}
use Rattle.base.specs.Lists.{up_to}
use Rattle.regions.specs.declared.MemRegion.{MemRegion}
use Rattle.regions.specs.Regions.{region_of, no_region}

-- region i of a record whose regions begin at byte `base`
unfoldable pub region_at : ℕ → List ℕ → ℕ → MemRegion
region_at base bs i = region_of (drop (base + 32 * i) bs)

-- the regions of a record that has n
unfoldable pub regions_of : ℕ → ℕ → List ℕ → List MemRegion
regions_of base n bs = map (region_at base bs) (up_to n)

-- how many regions a record may have, and places its table: a cell's, "Raise the limit from 16 to 64 regions for cells", and the system's,
-- "boot stays at 16" (request C-16)
abbrev pub max_regions : ℕ
max_regions = 64

abbrev pub max_boot_regions : ℕ
max_boot_regions = 16

-- the same in a table of so many places
unfoldable pub table_of : ℕ → ℕ → ℕ → List ℕ → List MemRegion
table_of places base n bs = map (λ i. elim (ltb i n) [ true ↦ region_at base bs i | false ↦ no_region ]) (up_to places)
