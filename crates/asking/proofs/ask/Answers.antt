-- `asking::ask` meets its contract: by whether a cell is left to ask. Assumes nothing.
use mathlib.Core.Path.{ap, ◌∙◌}
use mathlib.Core.Bool.{Bool}
use Prim.Native.Nat.{ℕ}
use Rattle.rules.specs.State.{some_id}
use Rattle.rules.specs.Asking.{next_to_message}
use Rattle.asking.proofs.Laws.{moves-as, asks-one, asks_none}
use Rattle.asking.proofs.ask.Goals as goal

pub wait_for-requires : goal.wait_for-requires
wait_for-requires c = c.next_cell.ensures.inside _ c.in-Some.is

pub returns-in-Some : goal.returns-in-Some
returns-in-Some c =
    let whom = c.asked.ensures in
    moves-as c.wait_for.ensures (λ m h. tt)
    (λ m new h. asks-one c.args.kind c.args.target new m c.args.after _
    (c.next_cell.ensures.value m h.sets.messageable ∙ ap (λ (p : ℕ → Bool). some_id (next_to_message p c.args.after m)) (λ i id. whom id i))
    _ c.in-Some.is)

pub returns-in-None : goal.returns-in-None
returns-in-None c =
    let whom = c.asked.ensures in
    moves-as c.none_to_ask.ensures (λ m h. h)
    (λ m new h. asks_none c.args.kind c.args.target new m c.args.after _
    (c.next_cell.ensures.value m h.sets.messageable ∙ ap (λ (p : ℕ → Bool). some_id (next_to_message p c.args.after m)) (λ i id. whom id i))
    c.in-None.is)
