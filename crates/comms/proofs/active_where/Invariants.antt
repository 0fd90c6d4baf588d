-- The loop's invariant: the set has the IDs below the place of the active cells whose words pass, whatever test the closure's results are.
use Rattle.std.proofs.Common.{◌≡◌, ◌^◌, ◌<◌, Bool, ◌&&◌}
use Rattle.cpu_set.specs.CpuSet.{number_of}
use Rattle.machine_state.specs.declared.CommRegion.{CommRegion as CommRegionWords}
use Rattle.machine_state.specs.declared.Machine.{Machine}
use Rattle.rules.specs.State.{comm_at, active}
use Rattle.comms.proofs.active_where.Given as goal

abbrev pub invariant-loop-id : goal.invariant-loop-id
invariant-loop-id g l =
    (l.ids < 2 ^ l.id)
    × ((m : Machine) (passes : CommRegionWords → Bool) → m.live_ids ≡ l.live_ids → m.comms ≡ l.comms
    → ((c : CommRegionWords) (r : Bool) → goal.F-post g l.test c r → r ≡ passes c)
    → l.ids ≡ number_of l.id (λ id. active m id && passes (comm_at m id)))
