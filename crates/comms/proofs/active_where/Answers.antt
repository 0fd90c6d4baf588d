-- `comms::active_where` meets its contract, by the loop's invariant. Assumes nothing.
use Rattle.std.proofs.Common.{◌≡◌, ℕ, Bool, ◌&&◌, List, refl, sym, ap, ap₂, ◌∙◌, arith}
use Rattle.cpu_set.specs.CpuSet.{number_of}
use Rattle.machine_state.specs.declared.CommRegion.{CommRegion as CommRegionWords}
use Rattle.machine_state.specs.Machine.{comm_in}
use Rattle.rules.specs.State.{comm_at, active}
use Rattle.comms.proofs.Sets.{below_next, picked}
use Rattle.comms.proofs.active_where.Goals as goal

pub loop-id-init : goal.loop-id-init
unfolding number_of
loop-id-init g c = (omega arith, λ m passes e f t. refl)

pub add_where-ids-requires : goal.add_where-ids-requires
add_where-ids-requires g c = (omega arith, c.loop-id.invariant.0)

pub loop-id-preserved : goal.loop-id-preserved
loop-id-preserved g c =
    let i = c.loop-id.id in (
      rw c.add_where-ids.ensures (below_next i c.loop-id.ids _ c.loop-id.invariant.0),
      λ m passes e f t.
          let at = ap (λ (table : List CommRegionWords). comm_in table i) f in
          c.add_where-ids.ensures
          ∙ picked i c.loop-id.ids _ (λ id. active m id && passes (comm_at m id)) (c.loop-id.invariant.1 m passes e f t)
          (ap₂ (λ (x y : Bool). x && y) (c.is_active.ensures m e at) (t _ _ c.test.ensures ∙ ap passes (sym at))),
    )

pub returns : goal.returns
returns g c =
    let all : c.loop-id.id ≡ 16 = omega (arith, c.loop-id.auto.id-end, c.loop-id-test.false) in
    record {
      value = λ m passes e f t. c.loop-id.invariant.1 m passes e f t ∙ ap (λ (n : ℕ). number_of n (λ id. active m id && passes (comm_at m id))) all;
      size = omega (arith, c.loop-id.auto.id-end);
    }
