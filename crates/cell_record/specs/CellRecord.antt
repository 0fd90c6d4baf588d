-- The cell record. Document 01, "Boot and cell records": "Cell record: 0 mark `TSC`, ..".
use Rattle.std.specs.Prelude.{Bool, not, ◌&&◌, ◌||◌, List, [], ◌∷◌, ℕ, ◌+◌, ◌*◌, ◌%◌, leb, ltb, eqb, length, take, ℤ, pos}
use Rattle.base.specs.Lists.{all, any, pairwise, part, same}
use Rattle.base.specs.Rules.{first_rule, E2BIG, EINVAL}
use Rattle.cpu_set.specs.CpuSet.{is_empty}
use Rattle.fields.specs.Fields.{u16, u64, zeros, is_name, padded}
use Rattle.regions.specs.declared.MemRegion.{MemRegion}
use Rattle.regions.specs.Regions.{placed, flags_ok, comm_ok, comm, loadable, shared, shared_and_executable, clear_of, inside_phys, apart}
use Rattle.region_table.specs.Tables.{max_regions, table_of}
use Rattle.system_record.specs.declared.SystemConfig.{SystemConfig}
use Rattle.system_record.specs.SystemRecord.{boot_regions}
use Rattle.cell_record.specs.declared.CellConfig.{CellConfig}
use Rattle.cell_record.specs.declared.CellRead.{CellRead}

-- the values at their offsets: "6 u16 flags (bit 0 passive, others zero), 8 name, 40 u64 CPUs, 48 u16 region count .., 56 regions". C-14: "Cell
-- record version 2 uses bytes 50 and 51 as a limit L in polls; 0 means none"
unfoldable pub cell_of : List ℕ → CellConfig
cell_of r = record {
  name = padded 32 (part 8 32 r);
  passive = eqb (u16 6 r % 2) 1;
  reply_limit = u16 50 r;
  cpus = u64 40 r;
  region_count = u16 48 r;
  regions = table_of max_regions 56 (u16 48 r) r;
}

-- "Length is 56 + 32n", and as many regions as there may be: "The longest cell record becomes 56 + 2,048 = 2,104 bytes" (request C-16)
abbrev pub longest : ℕ
longest = 56 + 32 * max_regions

-- C-14: "Version 1 records are still read, with L = 0, and other versions stay -22"
unfoldable pub version_ok : List ℕ → Bool
version_ok r = eqb (u16 4 r) 1 || eqb (u16 4 r) 2

-- "All unnamed bytes are zero": 52 to 55, and in version 1, which has no limit, 50 and 51 too
unfoldable pub limit_ok : List ℕ → Bool
limit_ok r = eqb (u16 4 r) 2 || zeros (part 50 2 r)

-- "mark `TSC`, 4 u16 version .., 6 u16 flags (bit 0 passive, others zero)", "region count 0.." to the limit, "All unnamed bytes are zero",
-- "Length is 56 + 32n"
unfoldable pub cell_form : List ℕ → Bool
cell_form r =
    same (take 3 r) (0x54 ∷ 0x53 ∷ 0x43 ∷ [])
    && zeros (part 3 1 r)
    && version_ok r
    && ltb (u16 6 r) 2
    && leb (u16 48 r) max_regions
    && limit_ok r
    && zeros (part 52 4 r)
    && eqb (length r) (56 + 32 * u16 48 r)

-- a cell's region, as document 01 has it: the rules of a region; "None (comm aside) overlaps hypervisor memory"; "A loadable or shared region
-- lies inside a single boot region"
abbrev pub region_rules : SystemConfig → MemRegion → Bool
region_rules boot r =
    placed r
    && flags_ok r
    && comm_ok r
    && clear_of boot.hypervisor.start boot.hypervisor.size r
    && (not (loadable r || shared r) || any (inside_phys r) (boot_regions boot))

-- a cell's region now. C-17: "A region both shared and executable .. Such a record now gives -22"
unfoldable pub cell_region_ok : SystemConfig → MemRegion → Bool
cell_region_ok boot r = region_rules boot r && not (shared_and_executable r)

-- the regions of a cell: those that the count names
abbrev pub cell_regions : CellConfig → List MemRegion
cell_regions c = take c.region_count c.regions

-- the rules on the values, with the rule for a region: the name, "no CPU", the regions, and "Without one [a comm region] the cell must be
-- passive"
abbrev pub valid_by : (MemRegion → Bool) → CellConfig → Bool
valid_by region_ok c =
    is_name c.name
    && not (is_empty c.cpus)
    && all region_ok (cell_regions c)
    && pairwise apart (cell_regions c)
    && (any comm (cell_regions c) || c.passive)

unfoldable pub cell_valid : SystemConfig → CellConfig → Bool
cell_valid boot c = valid_by (cell_region_ok boot) c

-- what the record itself makes Create answer, with the rules on the values: "-7 record longer than" the limit; "-22 rule
-- broken, no CPU"
abbrev pub answer_by : (CellConfig → Bool) → List ℕ → ℤ
answer_by valid r =
    first_rule
    (record { when = ltb longest (length r); code = E2BIG }
    ∷ record { when = not (cell_form r && valid (cell_of r)); code = EINVAL }
    ∷ [])
    (pos 0)

unfoldable pub cell_answer : SystemConfig → List ℕ → ℤ
cell_answer boot r = answer_by (cell_valid boot) r

-- what reading a cell record gives: the answer, 0 for a record that keeps every rule, and the values as they stand
unfoldable pub read_cell : SystemConfig → List ℕ → CellRead
read_cell boot r = record { code = cell_answer boot r; config = cell_of r }
