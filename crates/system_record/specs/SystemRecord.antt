-- The system record. Document 01, "Boot and cell records": "System record: 0 mark `TSS`, ..", and boot's answers.
use Rattle.std.specs.Prelude.{Bool, not, ◌&&◌, ◌||◌, List, [], ◌∷◌, ℕ, ◌+◌, ◌-◌, ◌*◌, ◌^◌, leb, ltb, eqb, length, take, ℤ, pos}
use Rattle.base.specs.Lists.{all, pairwise, part, same}
use Rattle.base.specs.Rules.{first_rule, EINVAL, ERANGE, ENOMEM}
use Rattle.cpu_set.specs.CpuSet.{is_empty, below}
use Rattle.fields.specs.Fields.{u16, u32, u64, zeros, is_name, padded}
use Rattle.regions.specs.declared.MemRegion.{MemRegion}
use Rattle.regions.specs.Regions.{whole_pages, placed, flags_ok, clear_of, apart}
use Rattle.region_table.specs.Tables.{max_boot_regions, table_of}
use Rattle.system_record.specs.declared.SystemConfig.{SystemConfig}
use Rattle.system_record.specs.declared.SystemRead.{SystemRead}

-- the values at their offsets: "8 name (32 bytes), 40 u64 boot CPUs, 48 u16 possible CPUs, 56 u64 hypervisor start, 64 u64 its size,
-- 72 u32 pool pages, 76 u32 pool used, 80 u32 remap pages, 84 u32 remap used, 88 u16 PM timer address, 96 regions"
unfoldable pub system_of : List ℕ → SystemConfig
system_of r = record {
  name = padded 32 (part 8 32 r);
  cpus = u64 40 r;
  possible = u16 48 r;
  hypervisor = record { start = u64 56 r; size = u64 64 r };
  pool = record { pages = u32 72 r; used = u32 76 r };
  remap = record { pages = u32 80 r; used = u32 84 r };
  timer = u16 88 r;
  region_count = u16 6 r;
  regions = table_of max_boot_regions 96 (u16 6 r) r;
}

-- "mark `TSS`, 4 u16 version 1, 6 u16 region count 1..16", "All unnamed bytes are zero", "Length is 96 + 32n"
unfoldable pub system_form : List ℕ → Bool
system_form r =
    same (take 3 r) (0x54 ∷ 0x53 ∷ 0x53 ∷ [])
    && zeros (part 3 1 r)
    && eqb (u16 4 r) 1
    && leb 1 (u16 6 r)
    && leb (u16 6 r) max_boot_regions
    && zeros (part 50 6 r)
    && zeros (part 90 6 r)
    && eqb (length r) (96 + 32 * u16 6 r)

-- a boot region: the rules of a region, and "Boot regions use flags 1, 2, 4 only"
unfoldable pub boot_region_ok : ℕ → ℕ → MemRegion → Bool
boot_region_ok start size r = placed r && flags_ok r && ltb r.flags 8 && clear_of start size r

-- the regions of a system: those that the count names
abbrev pub boot_regions : SystemConfig → List MemRegion
boot_regions c = take c.region_count c.regions

-- the rules on the values: the name, hypervisor memory "itself whole pages, at least one, ending by 2^48", and the regions
unfoldable pub system_valid : SystemConfig → Bool
system_valid c =
    is_name c.name
    && whole_pages c.hypervisor.start c.hypervisor.size
    && all (boot_region_ok c.hypervisor.start c.hypervisor.size) (boot_regions c)
    && pairwise apart (boot_regions c)

-- "a pool number exceeds 2^31 - 1"
abbrev pub too_many : ℕ → Bool
too_many n = ltb (2 ^ 31 - 1) n

-- "possible CPUs is not 1..64, boot CPUs is empty or has a bit at or beyond that count, or a pool number exceeds 2^31 - 1"
unfoldable pub out_of_range : SystemConfig → Bool
out_of_range c =
    not (leb 1 c.possible && leb c.possible 64)
    || is_empty c.cpus
    || not (below c.cpus c.possible)
    || (too_many c.pool.pages || too_many c.pool.used)
    || (too_many c.remap.pages || too_many c.remap.used)

-- "used exceeds its total"
unfoldable pub overdrawn : SystemConfig → Bool
overdrawn c = ltb c.pool.pages c.pool.used || ltb c.remap.pages c.remap.used

-- "Boot answers in this order: -22 for any rule above; -34 ..; -12 ..; else 0: an accepted start"
unfoldable pub boot_answer : List ℕ → ℤ
boot_answer r =
    first_rule
    (record { when = not (system_form r && system_valid (system_of r)); code = EINVAL }
    ∷ record { when = out_of_range (system_of r); code = ERANGE }
    ∷ record { when = overdrawn (system_of r); code = ENOMEM }
    ∷ [])
    (pos 0)

-- what reading a system record gives: boot's answer, and the values as they stand
unfoldable pub read_system : List ℕ → SystemRead
read_system r = record { code = boot_answer r; config = system_of r }
