-- Pages. Document 01, "The machine": "Owner of a physical page: ..", what a cell may touch, and "The page questions are: owner; and, for a
-- cell and a cell page, the physical page with its read, write and execute flags, or the communication page, or nothing."
use Rattle.std.specs.Prelude.{Bool, true, false, not, ◌&&◌, ◌||◌, List, [], ◌∷◌, ℕ, ◌+◌, ◌-◌, ◌*◌, ◌/◌, ◌^◌, leb, ltb, eqb}
use Rattle.base.specs.Lists.{any}
use Rattle.base.specs.Rules.{first_rule, ◌⇒◌}
use Rattle.regions.specs.declared.MemRegion.{MemRegion}
use Rattle.regions.specs.Regions.{flag, read_flag, write_flag, execute_flag, comm, loadable, shared, no_region}
use Rattle.system_record.specs.SystemRecord.{boot_regions}
use Rattle.machine_state.specs.declared.Phase.{Phase}
use Rattle.machine_state.specs.declared.Phase.TheVariants.{Loading}
use Rattle.machine_state.specs.declared.Power.{Power}
use Rattle.machine_state.specs.declared.Power.TheVariants.{Unbooted}
use Rattle.machine_state.specs.declared.PhysPage.{PhysPage}
use Rattle.machine_state.specs.declared.CellPage.{CellPage}
use Rattle.machine_state.specs.declared.Access.{Access}
use Rattle.machine_state.specs.declared.Owner.{Owner}
use Rattle.machine_state.specs.declared.Mapping.{Mapping}
use Rattle.machine_state.specs.declared.Mapping.TheVariants.{Page, Comm, Unmapped}
use Rattle.machine_state.specs.declared.Machine.{Machine}
use Rattle.rules.specs.State.{root_id, cell_at, regions_at, cell_ids, first, live}

-- a range of bytes has page n. "Numbers from 2^36 up belong to nobody and map to nothing": no range has such a page
unfoldable pub has_page : ℕ → ℕ → ℕ → Bool
has_page start size n = ltb n (2 ^ 36) && leb start (4096 * n) && ltb (4096 * n) (start + size)

-- "Physical page numbers and cell page numbers are two kinds": a region has the one by its physical start, the other by its cell address
unfoldable pub has_phys : PhysPage → MemRegion → Bool
has_phys p r = has_page r.phys r.size p.0

unfoldable pub has_virt : CellPage → MemRegion → Bool
has_virt p r = has_page r.virt r.size p.0

-- ---- owners

-- "Before boot (not after Disable)"
abbrev pub has_booted : Power → Bool
has_booted Unbooted = false
has_booted _ = true

-- "the hypervisor": its memory of the boot record
unfoldable pub hypervisor_has : PhysPage → Machine → Bool
hypervisor_has p m = has_page m.system.hypervisor.start m.system.hypervisor.size p.0

-- "a live (created, not destroyed) non-root cell with it in a region neither shared nor comm"
unfoldable pub owns : PhysPage → Machine → ℕ → Bool
owns p m id = live m id && any (λ r. has_phys p r && not (shared r) && not (comm r)) (regions_at m id)

-- "a live cell's shared region has it"
unfoldable pub shares : PhysPage → Machine → ℕ → Bool
shares p m id = live m id && any (λ r. has_phys p r && shared r) (regions_at m id)

-- "a boot region has it"
unfoldable pub boot_has : PhysPage → Machine → Bool
boot_has p m = any (has_phys p) (boot_regions m.system)

-- "Owner of a physical page: the hypervisor; else a live (created, not destroyed) non-root cell with it in a region neither shared nor
-- comm; else shared, if a live cell's shared region has it; else root, if a boot region has it; else nobody". "Before boot .. nobody"
unfoldable pub owner_of : PhysPage → Machine → Owner
owner_of p m =
    first_rule
    ((not (has_booted m.power) ⇒ Owner.Nobody)
    ∷ (hypervisor_has p m ⇒ Owner.Hypervisor)
    ∷ (any (owns p m) cell_ids ⇒ Owner.Cell (first (owns p m) cell_ids))
    ∷ (any (shares p m) cell_ids ⇒ Owner.Shared)
    ∷ (boot_has p m ⇒ Owner.Root)
    ∷ [])
    Owner.Nobody

-- ---- what a cell may touch

-- "loadable pages of a cell in loading"
abbrev pub is_loading : Phase → Bool
is_loading Loading = true
is_loading _ = false

unfoldable pub loads : PhysPage → Machine → ℕ → Bool
loads p m id = live m id && is_loading (cell_at m id).phase && any (λ r. has_phys p r && loadable r) (regions_at m id)

-- "boot pages it owns, shared pages"
abbrev pub open_to_root : Owner → Bool
open_to_root Owner.Shared = true
open_to_root Owner.Root = true
open_to_root _ = false

-- "Root may touch boot pages it owns, shared pages, and loadable pages of a cell in loading". Loadable and shared regions lie in boot regions
unfoldable pub root_may_touch : PhysPage → Machine → Bool
root_may_touch p m = has_booted m.power && boot_has p m && (open_to_root (owner_of p m) || any (loads p m) cell_ids)

-- a non-root cell may touch the pages of its own regions, in every phase; its comm region is no physical page of its record
unfoldable pub cell_may_touch : PhysPage → Machine → ℕ → Bool
cell_may_touch p m id = has_booted m.power && live m id && any (λ r. has_phys p r && not (comm r)) (regions_at m id)

unfoldable pub may_touch : ℕ → PhysPage → Machine → Bool
may_touch id p m = elim (eqb id root_id) [ true ↦ root_may_touch p m | false ↦ cell_may_touch p m id ]

-- ---- mappings

-- the first region that has a cell page; where none does one of no size, which has no page
unfoldable pub region_for : CellPage → List MemRegion → MemRegion
region_for p [] = no_region
region_for p (r ∷ rs) = elim (has_virt p r) [ true ↦ r | false ↦ region_for p rs ]

-- "translation takes one and gives the other"
unfoldable pub phys_of : MemRegion → CellPage → PhysPage
phys_of r p = record { 0 = r.phys / 4096 + (p.0 - r.virt / 4096) }

-- "its read, write and execute flags": "read 1, write 2, execute 4"
unfoldable pub access_of : MemRegion → Access
access_of r = record { read = flag read_flag r; write = flag write_flag r; execute = flag execute_flag r }

-- what a region makes of a cell page: "the physical page with its read, write and execute flags, or the communication page, or nothing"
unfoldable pub mapped_by : MemRegion → CellPage → Mapping
mapped_by r p =
    elim (has_virt p r) [ true ↦ elim (comm r) [ true ↦ Comm | false ↦ Page (phys_of r p) (access_of r) ] | false ↦ Unmapped ]

-- "A non-root cell maps its own regions in every phase"
unfoldable pub cell_mapping : List MemRegion → CellPage → Mapping
cell_mapping regions p = mapped_by (region_for p regions) p

-- root maps no page that it may not touch
unfoldable pub if_touchable : Machine → Mapping → Mapping
if_touchable m (Page q access) = elim (root_may_touch q m) [ true ↦ Page q access | false ↦ Unmapped ]
if_touchable m _ = Unmapped

-- "root's mapping and flags come from the boot region"
unfoldable pub root_mapping : CellPage → Machine → Mapping
root_mapping p m = if_touchable m (cell_mapping (boot_regions m.system) p)

-- "an absent cell maps nothing"; root is absent before boot
unfoldable pub mapping_of : ℕ → CellPage → Machine → Mapping
mapping_of id p m =
    first_rule
    ((not (has_booted m.power) ⇒ Unmapped)
    ∷ (eqb id root_id ⇒ root_mapping p m)
    ∷ (live m id ⇒ cell_mapping (regions_at m id) p)
    ∷ [])
    Unmapped
