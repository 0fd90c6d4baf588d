-- `calls::target_call` meets its contract: row by row. Assumes nothing.
use mathlib.Core.Bool.{Bool, not, ◌&&◌}
use mathlib.Core.Path.{refl, sym, ap, ap₂, ◌∙◌}
use Rattle.rules.specs.State.{with_cpus}
use Rattle.rules.specs.Create.{other_cell_locked}
use Rattle.rules.specs.Effects.{counted, call_counter}
use Rattle.calls.proofs.Calls.{calls_by, same-waiting, with-sets, target-root, target-absent, target-locked, target-asks}
use Rattle.calls.proofs.target_call.Goals.{else-is_destroy-via-then-is_destroy+else-is_locked_but, else-is_destroy-via-else-is_destroy}
use Rattle.calls.proofs.target_call.Goals as goal

pub returns-then-id-eq0 : goal.returns-then-id-eq0
returns-then-id-eq0 c cpu new =
    calls_by c.args.m.now cpu new c.refused.ensures (same-waiting _ cpu) (target-root c.args.kind c.args.id new _ c.if-id-eq0.true)

pub returns-then-not-is_live : goal.returns-then-not-is_live
unfolding counted with_cpus
returns-then-not-is_live c cpu new =
    calls_by c.args.m.now cpu new c.refused-then-not-is_live.ensures refl
    (target-absent c.args.kind c.args.id new _ c.if-id-eq0.false (ap not (sym c.is_live.ensures ∙ c.if-not-is_live.true)))

pub returns-then-is_locked_but : goal.returns-then-is_locked_but
unfolding counted with_cpus
returns-then-is_locked_but c cpu new =
    let with = with-sets c.args.m.now cpu _ c.cell_sets-cells.ensures.sets c.cell_sets-cells.ensures.size in
    calls_by c.args.m.now cpu new c.refused-then-is_locked_but.ensures refl
    (target-locked c.args.kind c.args.id new _ c.if-id-eq0.false (ap not (sym c.is_live.ensures ∙ c.if-not-is_live.false))
    (ap₂ (λ (x y : Bool). x && y) (sym c.is_destroy.ensures ∙ c.if-is_destroy.true)
    (sym (c.is_locked_but.ensures _ with.sets.locked) ∙ c.if-is_locked_but.true)))

pub returns : goal.returns
unfolding counted with_cpus
returns c cpu new =
    let with = with-sets c.args.m.now cpu _ c.cell_sets-cells.ensures.sets c.cell_sets-cells.ensures.size in
    calls_by c.args.m.now cpu new c.ask.ensures with
    (target-asks c.args.kind c.args.id new _ c.if-id-eq0.false (ap not (sym c.is_live.ensures ∙ c.if-not-is_live.false))
    (elim c.else-is_destroy.branch [
      | else-is_destroy-via-then-is_destroy+else-is_locked_but w ↦
          ap₂ (λ (x y : Bool). x && y) (sym c.is_destroy.ensures ∙ w.if-is_destroy.true)
          (sym (w.is_locked_but.ensures _ with.sets.locked) ∙ w.if-is_locked_but.false)
      | else-is_destroy-via-else-is_destroy w ↦
          ap (λ (x : Bool). x && other_cell_locked c.args.id (counted call_counter cpu c.args.m.now)) (sym c.is_destroy.ensures ∙ w.if-is_destroy.false)
    ]))
