-- The reading-room box. Document 01, the section of that name: its records, byte for byte, and its starred lines as rows of one table.
use Rattle.std.specs.Prelude.{Bool, true, false, not, ◌&&◌, List, [], ◌∷◌, ◌++◌, ℕ, eqb, pos, replicate, set}
use Rattle.base.specs.Lists.{all, same}
use Rattle.base.specs.Rules.{EPERM, ENOENT, EINVAL, EBUSY, EEXIST}
use Rattle.machine_state.specs.declared.Cpu.{Cpu}
use Rattle.machine_state.specs.declared.Event.TheVariants.{Call, Store, Fault, Poll}
use Rattle.machine_state.specs.declared.Answer.{Answer}
use Rattle.machine_state.specs.declared.Answer.TheVariants.{Code, Wait, Done}
use Rattle.machine_state.specs.declared.Machine.{Machine}
use Rattle.machine_state.specs.declared.Phase.{Phase}
use Rattle.machine_state.specs.declared.Phase.TheVariants.{Suspended, Loading, Started}
use Rattle.machine_state.specs.declared.Cell.{Cell}
use Rattle.machine_state.specs.Machine.{boot_of}
use Rattle.regions.specs.declared.MemRegion.{MemRegion}
use Rattle.machine_state.specs.declared.Owner.{Owner}
use Rattle.fields.specs.Fields.{padded}
use Rattle.texts.specs.Texts.{answer_text}
use Rattle.rules.specs.State.{cell_ids, cell_at, comm_at, cpu_at, with_cpu}
use Rattle.rules.specs.Pages.{owner_of, root_may_touch}
use Rattle.rules.specs.CommRegion.{bytes}
use Rattle.rules.specs.Step.{step}
use Rattle.rules.specs.Run.{Line, after}

-- a region record: physical start, cell address, size, flags
unfoldable pub region : ℕ → ℕ → ℕ → ℕ → List ℕ
region start address size flags = bytes 8 start ++ bytes 8 address ++ bytes 8 size ++ bytes 8 flags

-- its name, which document 01 leaves open: `reading-room`
abbrev pub system_name : List ℕ
system_name = 0x72 ∷ 0x65 ∷ 0x61 ∷ 0x64 ∷ 0x69 ∷ 0x6e ∷ 0x67 ∷ 0x2d ∷ 0x72 ∷ 0x6f ∷ 0x6f ∷ 0x6d ∷ []

-- "Four CPUs, boot set 15, root region 0 to 0x3f000000 (cell address 0, flags 7), hypervisor 0x3f000000 size 0x1000000, pool 100 used 10"
unfoldable pub box : List ℕ
box =
    0x54 ∷ 0x53 ∷ 0x53 ∷ 0 ∷ bytes 2 1 ++ bytes 2 1 ++ padded 32 system_name ++ bytes 8 15 ++ bytes 2 4 ++ replicate 6 0 ++ bytes 8 0x3f000000 ++ bytes 8 0x1000000
    ++ bytes 4 100 ++ bytes 4 10 ++ bytes 4 0 ++ bytes 4 0 ++ bytes 2 0 ++ replicate 6 0 ++ region 0 0 0x3f000000 7

-- a cell record: version, reply limit, flags, name, CPUs, the count of its regions, and the regions
unfoldable pub cell_record : ℕ → ℕ → ℕ → List ℕ → ℕ → ℕ → List ℕ → List ℕ
cell_record version limit flags name cpus count regions =
    0x54 ∷ 0x53 ∷ 0x43 ∷ 0 ∷ bytes 2 version ++ bytes 2 flags ++ padded 32 name ++ bytes 8 cpus ++ bytes 2 count ++ bytes 2 limit ++ replicate 4 0 ++ regions

-- of version 1, which has no limit, and of version 2
abbrev pub cell : ℕ → List ℕ → ℕ → ℕ → List ℕ → List ℕ
cell flags name cpus count regions = cell_record 1 0 flags name cpus count regions

abbrev pub limited_cell : ℕ → ℕ → List ℕ → ℕ → ℕ → List ℕ → List ℕ
limited_cell limit flags name cpus count regions = cell_record 2 limit flags name cpus count regions

-- "Cell `search`: CPUs 12, not passive, region at 0x3a000000 size 0x1000000 cell address 0 flags 23, comm region at cell address 0x1000000"
abbrev pub search_name : List ℕ
search_name = 0x73 ∷ 0x65 ∷ 0x61 ∷ 0x72 ∷ 0x63 ∷ 0x68 ∷ []

abbrev pub search_regions : List ℕ
search_regions = region 0x3a000000 0 0x1000000 23 ++ region 0 0x1000000 4096 11

unfoldable pub search : List ℕ
search = cell 0 search_name 12 2 search_regions

-- the same with a reply limit
unfoldable pub limited_search : ℕ → List ℕ
limited_search limit = limited_cell limit 0 search_name 12 2 search_regions

-- "`index`, CPUs 2, passive, no regions, 56 bytes"
unfoldable pub index : List ℕ
index = cell 1 (0x69 ∷ 0x6e ∷ 0x64 ∷ 0x65 ∷ 0x78 ∷ []) 2 0 []

-- "`notes` (CPUs 2, a comm region alone, not passive)"
unfoldable pub notes : List ℕ
notes = cell 0 (0x6e ∷ 0x6f ∷ 0x74 ∷ 0x65 ∷ 0x73 ∷ []) 2 1 (region 0 0 4096 11)

-- lines of a log
abbrev pub log_call : ℕ → ℕ → ℕ → ℕ → Line
log_call cpu code a1 a2 = record { event = Call cpu code a1 a2; bytes = [] }

abbrev pub log_create : ℕ → List ℕ → Line
log_create cpu bytes = record { event = Call cpu 1 0 0; bytes = bytes }

abbrev pub log_store : ℕ → ℕ → ℕ → Line
log_store cpu word value = record { event = Store cpu word value; bytes = [] }

abbrev pub log_fault : ℕ → Line
log_fault cpu = record { event = Fault cpu; bytes = [] }

abbrev pub log_poll : Line
log_poll = record { event = Poll; bytes = [] }

-- "The first line starts after boot, the others with `search` started and no other cell"
unfoldable pub booted : Machine
booted = (boot_of box).machine

unfoldable pub started : Machine
started = after step booted (log_create 0 search ∷ log_call 0 2 1 0 ∷ [])

-- `notes` beside it, started
unfoldable pub with_notes : Machine
with_notes = after step started (log_create 0 notes ∷ log_store 2 1 4 ∷ log_poll ∷ log_call 0 2 2 0 ∷ [])

-- a raw counter: the total of CPU 1 at 0x80000000
unfoldable pub half_round : Machine
half_round =
    let p = cpu_at started 1 in with_cpu 1 (record p { counters = set p.counters 0 0x80000000 }) started

-- a line and the answer that it has to have
pub record Said : Type 0 where
  pub line : Line
  pub answer : Answer

infix 4 ◌▷◌
abbrev pub ◌▷◌ : Line → Answer → Said
l ▷ a = record { line = l; answer = a }

-- what a row claims of the machine after its lines
pub data Claim : Type 0 where
  PoolUsed : ℕ → Claim
  OwnedBy : ℕ → ℕ → Claim
  RootTouches : ℕ → Bool → Claim
  MessageTo : ℕ → ℕ → Claim
  TableKept : Claim

-- a row of the table: a machine to begin with, lines with their answers, and claims
pub record Row : Type 0 where
  pub from : Machine
  pub log : List Said
  pub claims : List Claim

-- "table kept": the live cells, their phases and records, the pool, root's CPUs and each CPU's owner, number for number
unfoldable pub phase_number : Phase → ℕ
phase_number Suspended = 0
phase_number Loading = 1
phase_number Started = 2

unfoldable pub region_numbers : List MemRegion → List ℕ
region_numbers [] = []
region_numbers (r ∷ rs) = r.phys ∷ r.virt ∷ r.size ∷ r.flags ∷ region_numbers rs

unfoldable pub cell_numbers : Cell → List ℕ
cell_numbers c = phase_number c.phase ∷ c.cpus ∷ c.region_count ∷ c.name ++ region_numbers c.regions

unfoldable pub same_bool : Bool → Bool → Bool
same_bool true b = b
same_bool false b = not b

unfoldable pub owner_numbers : List Cpu → List ℕ
owner_numbers [] = []
owner_numbers (p ∷ ps) = p.cell ∷ owner_numbers ps

unfoldable pub same_cell : Machine → Machine → ℕ → Bool
same_cell m n id =
    same (cell_numbers (cell_at m id)) (cell_numbers (cell_at n id))
    && same_bool (comm_at m id).passive (comm_at n id).passive
    && same_bool (comm_at m id).mapped (comm_at n id).mapped

unfoldable pub same_table : Machine → Machine → Bool
same_table m n =
    eqb m.live_ids n.live_ids && eqb m.pool_used n.pool_used && eqb m.root_cpus n.root_cpus
    && same (owner_numbers m.cpus) (owner_numbers n.cpus) && all (same_cell m n) cell_ids

unfoldable pub owned_by : ℕ → Owner → Bool
owned_by id (Owner.Cell k) = eqb id k
owned_by id _ = false

unfoldable pub claim_holds : Machine → Machine → Claim → Bool
claim_holds before m (PoolUsed n) = eqb m.pool_used n
claim_holds before m (OwnedBy page id) = owned_by id (owner_of (record { 0 = page }) m)
claim_holds before m (RootTouches page b) = same_bool b (root_may_touch (record { 0 = page }) m)
claim_holds before m (MessageTo id n) = eqb (comm_at m id).msg_to_cell n
claim_holds before m TableKept = same_table before m

-- answers are compared as they are printed
unfoldable pub log_holds : Machine → List Said → Bool
log_holds m [] = true
log_holds m (s ∷ ss) =
    let next = step s.line.event s.line.bytes m in
    same (answer_text next.answer) (answer_text s.answer) && log_holds next.machine ss

unfoldable pub said_lines : List Said → List Line
said_lines [] = []
said_lines (s ∷ ss) = s.line ∷ said_lines ss

unfoldable pub row_holds : Row → Bool
row_holds r = log_holds r.from r.log && all (claim_holds r.from (after step r.from (said_lines r.log))) r.claims

-- the starred lines, and the case that C-12 adds
unfoldable pub starred : List Row
starred =
    -- "Create on CPU 0: 1; pool used 14; Get State 1 gives 1"
    record { from = booted; log = (log_create 0 search ▷ Code (pos 1)) ∷ (log_call 0 6 1 0 ▷ Code (pos 1)) ∷ []; claims = PoolUsed 14 ∷ [] }
    -- "Page 0x3a000: cell 1, root can't touch"
    ∷ record { from = started; log = []; claims = OwnedBy 0x3a000 1 ∷ RootTouches 0x3a000 false ∷ [] }
    -- "After Set Loadable root can, owner still 1"
    ∷ record {
      from = started;
      log = (log_call 0 3 1 0 ▷ Wait 1) ∷ (log_store 2 1 3 ▷ Done) ∷ (log_poll ▷ Code (pos 0)) ∷ [];
      claims = OwnedBy 0x3a000 1 ∷ RootTouches 0x3a000 true ∷ [];
    }
    -- "after Start it can't"
    ∷ record {
      from = started;
      log = (log_call 0 3 1 0 ▷ Wait 1) ∷ (log_store 2 1 3 ▷ Done) ∷ (log_poll ▷ Code (pos 0)) ∷ (log_call 0 2 1 0 ▷ Code (pos 0)) ∷ [];
      claims = OwnedBy 0x3a000 1 ∷ RootTouches 0x3a000 false ∷ [];
    }
    -- "The same record again: -17, not -16"
    ∷ record { from = started; log = (log_create 0 search ▷ Code EEXIST) ∷ []; claims = TableKept ∷ [] }
    -- "`index` .. from CPU 1: -16. From CPU 0 with `search` in state 1: -1"
    ∷ record { from = started; log = (log_create 1 index ▷ Code EBUSY) ∷ []; claims = TableKept ∷ [] }
    ∷ record { from = started; log = (log_store 2 2 1 ▷ Done) ∷ (log_create 0 index ▷ Code EPERM) ∷ []; claims = TableKept ∷ [] }
    -- "In state 0: wait 1, message 2; poll: wait 1; from = 4, poll: code 2"
    ∷ record { from = started; log = (log_create 0 index ▷ Wait 1) ∷ []; claims = MessageTo 1 2 ∷ [] }
    ∷ record { from = started; log = (log_create 0 index ▷ Wait 1) ∷ (log_poll ▷ Wait 1) ∷ (log_store 2 1 4 ▷ Done) ∷ (log_poll ▷ Code (pos 2)) ∷ []; claims = [] }
    -- "Destroy 1, from = 2: -1. From = 3: 0"
    ∷ record { from = started; log = (log_call 0 4 1 0 ▷ Wait 1) ∷ (log_store 2 1 2 ▷ Done) ∷ (log_poll ▷ Code EPERM) ∷ []; claims = TableKept ∷ [] }
    ∷ record { from = started; log = (log_call 0 4 1 0 ▷ Wait 1) ∷ (log_store 2 1 3 ▷ Done) ∷ (log_poll ▷ Code (pos 0)) ∷ []; claims = PoolUsed 10 ∷ [] }
    -- "`notes` .. started, Destroy 1 waiting, `notes` stores state 1, then `search` from = 3: -1, table kept"
    ∷ record {
      from = with_notes;
      log = (log_call 0 4 1 0 ▷ Wait 1) ∷ (log_store 1 2 1 ▷ Done) ∷ (log_store 2 1 3 ▷ Done) ∷ (log_poll ▷ Code EPERM) ∷ [];
      claims = TableKept ∷ [];
    }
    -- "Destroy 0: -22; 9: -2; 4294967297: -2"
    ∷ record {
      from = started;
      log = (log_call 0 4 0 0 ▷ Code EINVAL) ∷ (log_call 0 4 9 0 ▷ Code ENOENT) ∷ (log_call 0 4 4294967297 0 ▷ Code ENOENT) ∷ [];
      claims = TableKept ∷ [];
    }
    -- "State 7: Get State gives -22, and the cell is still asked"
    ∷ record { from = started; log = (log_store 2 2 7 ▷ Done) ∷ (log_call 0 6 1 0 ▷ Code EINVAL) ∷ (log_call 0 4 1 0 ▷ Wait 1) ∷ []; claims = MessageTo 1 1 ∷ [] }
    -- C-12: "an absent ID gives -2 .. add a case for ID 9"
    ∷ record { from = started; log = (log_call 0 6 9 0 ▷ Code ENOENT) ∷ []; claims = TableKept ∷ [] }
    -- "Raw counter 0x80000000 reads 0"
    ∷ record { from = half_round; log = (log_call 0 7 1 1000 ▷ Code (pos 0)) ∷ []; claims = [] }
    ∷ []
