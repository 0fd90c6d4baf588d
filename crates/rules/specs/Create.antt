-- When Create is refused. Document 01, "Calls and their return codes", row 1 of the table: a test for each code.
use Rattle.std.specs.Prelude.{Bool, not, ◌&&◌, ◌||◌, List, ℕ, ◌+◌, ltb, eqb, length}
use Rattle.base.specs.Lists.{any, same}
use Rattle.cpu_set.specs.CpuSet.{member, subset}
use Rattle.regions.specs.declared.MemRegion.{MemRegion}
use Rattle.regions.specs.Regions.{comm, shared, overlap_phys}
use Rattle.cell_record.specs.declared.CellConfig.{CellConfig}
use Rattle.cell_record.specs.CellRecord.{cell_of, cell_form, cell_valid, cell_regions, longest}
use Rattle.machine_state.specs.declared.Machine.{Machine}
use Rattle.rules.specs.State.{boot_cpu_set, cell_at, regions_at, state_at, cell_ids, no_id, first, live, active, is_locked}
use Rattle.rules.specs.Effects.{pool_cost}

-- "-1 some active cell has state 1"; of Destroy, another than its target
unfoldable pub other_cell_locked : ℕ → Machine → Bool
other_cell_locked except m = any (λ id. active m id && not (eqb id except) && is_locked (state_at m id)) cell_ids

abbrev pub some_cell_locked : Machine → Bool
some_cell_locked m = other_cell_locked 0 m

-- "-7 record longer than" the limit, that "moves to 2,105" bytes (request C-16)
abbrev pub too_long : List ℕ → Bool
too_long bytes = ltb longest (length bytes)

-- "-22 rule broken, no CPU, or a CPU outside the boot set"
unfoldable pub invalid : List ℕ → Machine → Bool
invalid bytes m = not (cell_form bytes && cell_valid m.system (cell_of bytes)) || not (subset (cell_of bytes).cpus (boot_cpu_set m))

-- "-17 name in use, root's included"
unfoldable pub name_in_use : List ℕ → Machine → Bool
name_in_use name m = same m.system.name name || any (λ id. live m id && same (cell_at m id).name name) cell_ids

-- "a region physically meeting a live non-root cell's (comm regions of either aside) unless both are shared"
unfoldable pub conflict : MemRegion → MemRegion → Bool
conflict r s = not (comm r) && not (comm s) && overlap_phys r s && not (shared r && shared s)

-- some region of the first list meets one of the second
unfoldable pub conflicts : List MemRegion → List MemRegion → Bool
conflicts rs ss = any (λ r. any (conflict r) ss) rs

unfoldable pub region_in_use : List MemRegion → Machine → Bool
region_in_use rs m = any (λ id. live m id && conflicts (regions_at m id) rs) cell_ids

-- "-16 caller's CPU wanted, a CPU not root's, or a region physically meeting a live non-root cell's"
unfoldable pub busy : ℕ → CellConfig → Machine → Bool
busy caller new m = member caller new.cpus || not (subset new.cpus m.root_cpus) || region_in_use (cell_regions new) m

-- "smallest free ID from 1"
unfoldable pub free_id : Machine → ℕ
free_id m = first (λ id. not (live m id)) cell_ids

-- "-12 no free ID, or pool used would pass its total"
unfoldable pub no_room : CellConfig → Machine → Bool
no_room new m = eqb (free_id m) no_id || ltb m.system.pool.pages (m.pool_used + pool_cost new.region_count)
