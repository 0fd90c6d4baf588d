-- Calls: each row of a table is taken where its test holds and passed where it does not, and a code's row is found by computing. The machine
-- where a call is counted differs from the one before it in the caller's counters alone. Assumes nothing.
use mathlib.Core.Bool.{Bool, true, false, not, ◌&&◌, ◌||◌}
use mathlib.Core.List.{List}
use mathlib.Core.Path.{◌≡◌, refl, sym, ap, subst, ◌∙◌}
use Prim.Native.Nat.{ℕ, ◌<◌, ◌≤◌}
use native.Mathlib.Omega.{arith}
use borrow.Author.Tests.{eq-eqb, ne_eqb, lt-ltb, le-ltb}
use lib.Dec.{leb, eqb}
use lib.ListN.{length}
use Rattle.std.specs.Prelude.{Result, Ok, Err}
use Rattle.base.specs.declared.Errno.{Errno}
use Rattle.base.specs.Codes.{number_of}
use Rattle.base.specs.Rules.{first_rule, EPERM, ENOENT, EINVAL, ENOSYS}
use Rattle.base.proofs.Rules.{rule-holds, rule-passed, no-rule}
use Rattle.cell_record.specs.declared.CellConfig.{CellConfig}
use Rattle.cell_record.specs.CellRecord.{cell_of}
use Rattle.machine_state.specs.declared.CallCode.{CallCode}
use Rattle.machine_state.specs.declared.CallCode.TheVariants.{HypervisorDisable, CellCreate, CellStart, CellSetLoadable, CellDestroy, HypervisorGetInfo, CellGetState, CpuGetInfo}
use Rattle.machine_state.specs.CallCodes.{call_number}
use Rattle.machine_state.specs.declared.CallKind.{CallKind}
use Rattle.machine_state.specs.declared.CallKind.TheVariants.{Disable, Create, Start, SetLoadable, Destroy}
use Rattle.machine_state.specs.declared.Machine.{Machine}
use Rattle.machine_state.specs.declared.Stepped.{Stepped}
use Rattle.machine_state.specs.Machine.{max_cells}
use Rattle.rules.specs.State.{root_id, cpu_at, live, active, with_cpus}
use Rattle.rules.specs.Queries.{get_info, get_state, cpu_get_info}
use Rattle.rules.specs.Create.{other_cell_locked, invalid, name_in_use, busy, region_in_use, no_room, free_id}
use Rattle.rules.specs.Effects.{counted, call_counter}
use Rattle.rules.specs.Asking.{ask, is_destroy}
use Rattle.rules.specs.Calls.{ends, cpu_get_info_code, cell_destroy, cell_get_state, disable_call, create_call, target_call, call_by_code, call}
use Rattle.comms.specs.declared.CellSets.{CellSets}
use Rattle.comms.specs.Sets.{Sets}
use Rattle.comms.proofs.Sets.{same-sets}
use Rattle.asking.specs.declared.Move.{Move}
use Rattle.asking.specs.Moves.{Moves, WithSets}
use Rattle.create_rules.specs.Rows.{code_of_id, create_code}
use Rattle.create_rules.proofs.Laws.{code-admits, code-refuses}
use Rattle.calls.specs.Calls.{roots_alone, Calls}

-- a move by a rule, as a call's
pub calls_by : {has : Machine → Type 0} {rule : CellConfig → Machine → Stepped} {of : Machine → Stepped} {mv : Move} (m : Machine) (cpu : ℕ) (new : CellConfig)
    → Moves has rule mv → has (counted call_counter cpu m) → rule new (counted call_counter cpu m) ≡ of (counted call_counter cpu m) → Calls m cpu new of mv
calls_by m cpu new r h e = record { moves = r.moves _ new h ∙ e; place = r.place }

-- ---- Start, Set Loadable, Destroy

module _ (kind : CallKind) (id : ℕ) (new : CellConfig) (m : Machine) where
  pub target-root : id ≡ 0 → ends EINVAL m ≡ target_call kind id new m
  unfolding target_call
  target-root e = rule-holds _ _ _ (eq-eqb id root_id e)

  module _ (not_root : id ≡ 0 → ⊥) where
    pub target-absent : not (live m id) ≡ true → ends ENOENT m ≡ target_call kind id new m
    unfolding target_call
    target-absent e = rule-holds _ _ _ e ∙ rule-passed _ _ _ (ne_eqb id root_id not_root)

    module _ (there : not (live m id) ≡ false) where
      pub target-locked : (is_destroy kind && other_cell_locked id m) ≡ true → ends EPERM m ≡ target_call kind id new m
      unfolding target_call
      target-locked e = rule-holds _ _ _ e ∙ rule-passed _ _ _ there ∙ rule-passed _ _ _ (ne_eqb id root_id not_root)

      pub target-asks : (is_destroy kind && other_cell_locked id m) ≡ false → ask kind id 0 new m ≡ target_call kind id new m
      unfolding target_call
      target-asks e = no-rule _ ∙ rule-passed _ _ _ e ∙ rule-passed _ _ _ there ∙ rule-passed _ _ _ (ne_eqb id root_id not_root)

-- ---- Create, by what its rows say

module _ (caller : ℕ) (bytes : List ℕ) (m : Machine) where
  -- nothing that Create's rows look at is changed where its call is counted
  code-counted : create_code caller bytes m ≡ create_code caller bytes (counted call_counter caller m)
  unfolding create_code invalid name_in_use busy region_in_use no_room free_id other_cell_locked active counted with_cpus
  code-counted = refl

  same-free : free_id m ≡ free_id (counted call_counter caller m)
  unfolding free_id counted with_cpus
  same-free = refl

  module _ (r : Result ℕ Errno) (is : code_of_id r ≡ create_code caller bytes m) where
    pub create-refused : (why : Errno) → r ≡ Err why → ends (number_of why) (counted call_counter caller m) ≡ create_call caller bytes (counted call_counter caller m)
    create-refused why q = sym (code-refuses caller bytes _ r (is ∙ code-counted) why q)

    pub create-asks : (id : ℕ) → id ≡ free_id m → r ≡ Ok id
        → ask Create id 0 (cell_of bytes) (counted call_counter caller m) ≡ create_call caller bytes (counted call_counter caller m)
    create-asks id f q =
        ap (λ (k : ℕ). ask Create k 0 (cell_of bytes) (counted call_counter caller m)) (f ∙ same-free)
        ∙ sym (code-admits caller bytes _ r (is ∙ code-counted) id q)

-- ---- a call by its code

module _ (cpu a1 a2 : ℕ) (bytes : List ℕ) (m : Machine) where
  pub code-disable : ask Disable root_id 0 (cell_of bytes) m ≡ call_by_code cpu 0 a1 a2 bytes m
  unfolding call_by_code first_rule disable_call
  code-disable = refl

  pub code-create : create_call cpu bytes m ≡ call_by_code cpu 1 a1 a2 bytes m
  unfolding call_by_code first_rule
  code-create = refl

  pub code-start : target_call Start a1 (cell_of bytes) m ≡ call_by_code cpu 2 a1 a2 bytes m
  unfolding call_by_code first_rule
  code-start = refl

  pub code-loadable : target_call SetLoadable a1 (cell_of bytes) m ≡ call_by_code cpu 3 a1 a2 bytes m
  unfolding call_by_code first_rule
  code-loadable = refl

  pub code-destroy : target_call Destroy a1 (cell_of bytes) m ≡ call_by_code cpu 4 a1 a2 bytes m
  unfolding call_by_code first_rule
  code-destroy = refl

  pub code-info : ends (get_info a1 m) m ≡ call_by_code cpu 5 a1 a2 bytes m
  unfolding call_by_code first_rule
  code-info = refl

  pub code-state : ends (get_state a1 m) m ≡ call_by_code cpu 6 a1 a2 bytes m
  unfolding call_by_code first_rule
  code-state = refl

  pub code-cpu : ends (cpu_get_info cpu a1 a2 m) m ≡ call_by_code cpu 7 a1 a2 bytes m
  unfolding call_by_code first_rule
  code-cpu = refl

-- ---- the machine where a call is counted

module _ (m : Machine) (cpu : ℕ) where
  pub same-waiting : (counted call_counter cpu m).waiting ≡ m.waiting
  unfolding counted with_cpus
  same-waiting = refl

  pub with-sets : (cells : CellSets) → Sets cells m → length m.comms ≡ max_cells → WithSets cells (counted call_counter cpu m)
  unfolding counted with_cpus
  with-sets cells s size = record { sets = same-sets cells m (counted call_counter cpu m) refl refl s; size = size }

  pub same-info : (kind : ℕ) → get_info kind m ≡ get_info kind (counted call_counter cpu m)
  unfolding get_info counted with_cpus
  same-info kind = refl

  pub same-state : (id : ℕ) → get_state id m ≡ get_state id (counted call_counter cpu m)
  unfolding get_state counted with_cpus
  same-state id = refl
  -- the caller's cell

-- the call that an arm knows
pub at-call : (m : Machine) (cpu a1 a2 : ℕ) (bytes : List ℕ) (mv : Move) {call known : CallCode} → call ≡ known
    → Calls m cpu (cell_of bytes) (call_by_code cpu (call_number known) a1 a2 bytes) mv → Calls m cpu (cell_of bytes) (call_by_code cpu (call_number call) a1 a2 bytes) mv
at-call m cpu a1 a2 bytes mv q r = subst (λ (x : CallCode). Calls m cpu (cell_of bytes) (call_by_code cpu (call_number x) a1 a2 bytes) mv) (sym q) r

pub small : (call : CallCode) → call_number call ≤ cpu_get_info_code
small HypervisorDisable = omega arith
small CellCreate = omega arith
small CellStart = omega arith
small CellSetLoadable = omega arith
small CellDestroy = omega arith
small HypervisorGetInfo = omega arith
small CellGetState = omega arith
small CpuGetInfo = omega arith

module _ (cpu code a1 a2 : ℕ) (bytes : List ℕ) (m : Machine) where
  pub unknown-code : cpu_get_info_code < code → ends ENOSYS m ≡ call cpu code a1 a2 bytes m
  unfolding call
  unknown-code h = rule-holds _ _ _ (lt-ltb cpu_get_info_code code h)

  -- what the code reads of its caller's cell, it reads of the machine's
  abbrev barred : ℕ → Bool
  barred cell = not (eqb cell root_id) && (leb code cell_destroy || eqb code cell_get_state)

  module _ (known : code ≤ cpu_get_info_code) (cell : ℕ) (own : (cpu_at m cpu).cell ≡ cell) (alone : Bool) (is : alone ≡ roots_alone code) where
    pub not-root's : (not (eqb cell root_id) && alone) ≡ true → ends EPERM m ≡ call cpu code a1 a2 bytes m
    unfolding call roots_alone
    not-root's e =
        rule-holds _ _ _ (ap barred own ∙ ap (λ (b : Bool). not (eqb cell root_id) && b) (sym is) ∙ e) ∙ rule-passed _ _ _ (le-ltb cpu_get_info_code code known)

    pub by-its-code : (not (eqb cell root_id) && alone) ≡ false → call_by_code cpu code a1 a2 bytes m ≡ call cpu code a1 a2 bytes m
    unfolding call roots_alone
    by-its-code e =
        no-rule _ ∙ rule-passed _ _ _ (ap barred own ∙ ap (λ (b : Bool). not (eqb cell root_id) && b) (sym is) ∙ e)
        ∙ rule-passed _ _ _ (le-ltb cpu_get_info_code code known)
