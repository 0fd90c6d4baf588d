-- Wrong managers against which the claim is held, each a small change of the right one. `refusals` has two more that break it: one that counts
-- unobeyed calls, and one that does not count refused ones.
use Rattle.std.specs.Prelude.{true, false, ℕ, eqb}
use Rattle.machine_state.specs.declared.Event.TheVariants.{Call, Exit}
use Rattle.machine_state.specs.declared.Machine.{Machine}
use Rattle.rules.specs.State.{cpu_at, with_cpu, answered}
use Rattle.rules.specs.Effects.{counted}
use Rattle.rules.specs.Step.{step}
use Rattle.rules.specs.Run.{Manager}
use Rattle.counters.specs.Counters.{total}

-- CPU `cpu` with the counters that it had before
unfoldable pub with_counters : ℕ → Machine → Machine → Machine
with_counters cpu before after =
    let p = cpu_at after cpu in
    with_cpu cpu (record p { counters = (cpu_at before cpu).counters }) after

-- calls with one code leave the counters of CPU 2 as they were, whatever their effect
unfoldable pub keeps_at : ℕ → Manager
keeps_at which (Call cpu code a1 a2) bytes m =
    let s = step (Call cpu code a1 a2) bytes m in
    elim (eqb code which) [ true ↦ answered s.answer (with_counters 2 m s.machine) | false ↦ s ]
keeps_at which e bytes m = step e bytes m

-- an exit is counted in the total more than once
unfoldable pub counts_twice : Manager
counts_twice (Exit cpu kind) bytes m = let s = step (Exit cpu kind) bytes m in answered s.answer (counted total cpu s.machine)
counts_twice e bytes m = step e bytes m
