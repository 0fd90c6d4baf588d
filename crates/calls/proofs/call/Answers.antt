-- `calls::call` meets its contract: row by row. Assumes nothing.
use mathlib.Core.Path.{◌≡◌, sym, ap, subst, ◌∙◌}
use Prim.Native.Nat.{ℕ, ◌<◌, ◌≤◌}
use Rattle.machine_state.specs.CallCodes.{call_number}
use Rattle.rules.specs.Effects.{counted, call_counter}
use Rattle.rules.specs.Calls.{call_by_code}
use Rattle.queries.proofs.Laws.{counted-cell}
use Rattle.calls.specs.Calls.{roots_alone}
use Rattle.calls.proofs.Calls.{calls_by, same-waiting, small, unknown-code, not-root's, by-its-code}
use Rattle.calls.proofs.call.Goals as goal

pub returns-in-Err : goal.returns-in-Err
returns-in-Err c =
    let m = c.args.m.now in
    let big : 7 < c.args.code = (rw c.in-Err.is at c.try_from.ensures).1 in
    calls_by m _ _ c.refused-in-Err.ensures (same-waiting m _) (unknown-code _ _ c.args.a1 c.args.a2 _ _ big)

pub returns-then-caller-is_roots_alone : goal.returns-then-caller-is_roots_alone
returns-then-caller-is_roots_alone c =
    let m = c.args.m.now in
    let known : call_number c.in-Ok.call ≡ c.args.code = rw c.in-Ok.is at c.try_from.ensures in
    let own = counted-cell m c.args.cpu ∙ sym c.owner-caller.ensures in
    calls_by m _ _ c.refused.ensures (same-waiting m _)
    (not-root's _ _ c.args.a1 c.args.a2 _ _ (subst (λ (k : ℕ). k ≤ 7) known (small c.in-Ok.call)) _ own _ (c.is_roots_alone.ensures ∙ ap roots_alone known)
    c.if-caller-is_roots_alone.true)

pub returns-else-caller-is_roots_alone : goal.returns-else-caller-is_roots_alone
returns-else-caller-is_roots_alone c =
    let m = c.args.m.now in
    let known : call_number c.in-Ok.call ≡ c.args.code = rw c.in-Ok.is at c.try_from.ensures in
    let own = counted-cell m c.args.cpu ∙ sym c.owner-caller.ensures in
    let by = c.by_code.ensures in
    record {
      moves = by.moves
          ∙ ap (λ (k : ℕ). call_by_code c.args.cpu k c.args.a1 c.args.a2 c.args.record.now (counted call_counter c.args.cpu m)) known
          ∙ by-its-code _ _ c.args.a1 c.args.a2 _ _ (subst (λ (k : ℕ). k ≤ 7) known (small c.in-Ok.call)) _ own _
          (c.is_roots_alone.ensures ∙ ap roots_alone known) c.if-caller-is_roots_alone.false;
      place = by.place;
    }
