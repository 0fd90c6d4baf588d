-- `asking::carry_out` meets its contract: by whether the call tells after its effect. Assumes nothing.
use mathlib.Core.Path.{sym, ◌∙◌}
use Rattle.asking.proofs.Laws.{moves-as, carried-told, carried-ended}
use Rattle.asking.proofs.carry_out.Goals as goal

pub tell_next-requires : goal.tell_next-requires
tell_next-requires c = c.next_cell-next.ensures.inside

pub returns-then-tells : goal.returns-then-tells
returns-then-tells c =
    let told = sym c.tells.ensures ∙ c.if-tells.true in
    moves-as c.tell_next.ensures (λ m h. tt)
    (λ m new h. carried-told c.args.kind c.args.target new m _ told h.size
    (c.next_cell-next.ensures.value m h.sets.messageable))

pub returns-else-tells : goal.returns-else-tells
returns-else-tells c =
    let told = sym c.tells.ensures ∙ c.if-tells.false in
    moves-as c.finish.ensures (λ m h. tt) (λ m new h. carried-ended c.args.kind c.args.target new m told)
