-- Queries. Document 01, "Calls and their return codes", rows 5 to 7 of the table. A row's cases are a table read from the top.
use Rattle.std.specs.Prelude.{not, ◌&&◌, ◌||◌, [], ◌∷◌, ℕ, ◌-◌, ◌%◌, ◌^◌, leb, eqb, ℤ, pos, get_or}
use Rattle.base.specs.Rules.{first_rule, ◌⇒◌, EPERM, ENOENT, EINVAL}
use Rattle.cpu_set.specs.CpuSet.{member, count}
use Rattle.machine_state.specs.declared.Machine.{Machine}
use Rattle.rules.specs.State.{root_id, boot_cpu_set, cpu_at, live, state_at, running, running_locked, shut_down, failed}

-- "queries give the low 31 bits"
abbrev pub low31 : ℕ → ℤ
low31 n = pos (n % 2 ^ 31)

-- "5 Get Info | 0 pool, 1 pool used, 2 remap, 3 remap used, 4 cells with root; else -22"
unfoldable pub get_info : ℕ → Machine → ℤ
get_info type m =
    first_rule
    ((eqb type 0 ⇒ low31 m.system.pool.pages)
    ∷ (eqb type 1 ⇒ low31 m.pool_used)
    ∷ (eqb type 2 ⇒ low31 m.system.remap.pages)
    ∷ (eqb type 3 ⇒ low31 m.system.remap.used)
    ∷ (eqb type 4 ⇒ low31 (count m.live_ids))
    ∷ [])
    EINVAL

-- "6 Get State | state 0, 1 give 0; 2 gives 1; 3 gives 2; root 0; no such cell -2; other state -22", as C-12 amends it (docs/AMENDMENTS.md)
unfoldable pub get_state : ℕ → Machine → ℤ
get_state id m =
    first_rule
    ((eqb id root_id ⇒ pos 0)
    ∷ (not (live m id) ⇒ ENOENT)
    ∷ (eqb (state_at m id) running || eqb (state_at m id) running_locked ⇒ pos 0)
    ∷ (eqb (state_at m id) shut_down ⇒ pos 1)
    ∷ (eqb (state_at m id) failed ⇒ pos 2)
    ∷ [])
    EINVAL

-- "7 CPU Get Info | -22 CPU outside the boot set; -1 caller non-root and CPU not in its cell; type 0: 0, or 2 if failed; 1000 to 1005
-- counters (total, MMIO, PIO, IPI, management, calls); else -22"
unfoldable pub cpu_get_info : ℕ → ℕ → ℕ → Machine → ℤ
cpu_get_info caller cpu type m =
    first_rule
    ((not (member cpu (boot_cpu_set m)) ⇒ EINVAL)
    ∷ (not (eqb (cpu_at m caller).cell root_id) && not (eqb (cpu_at m cpu).cell (cpu_at m caller).cell) ⇒ EPERM)
    ∷ (eqb type 0 && not (cpu_at m cpu).failed ⇒ pos 0)
    ∷ (eqb type 0 ⇒ pos 2)
    ∷ (leb 1000 type && leb type 1005 ⇒ low31 (get_or (cpu_at m cpu).counters (type - 1000) 0))
    ∷ [])
    EINVAL
