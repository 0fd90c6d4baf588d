-- `polling::unheard` meets its contract: by whether this is the limit's last poll. Where it is not, the count stays below the limit. Assumes nothing.
use mathlib.Core.Path.{refl, sym, ◌∙◌}
use Prim.Native.Nat.{◌+◌, ◌^◌, ◌<◌}
use Rattle.rules.specs.State.{comm_at}
use Rattle.rules.specs.Asking.{with_polls}
use Rattle.asking.specs.Moves.{effect_of}
use Rattle.asking.proofs.Laws.{moves-as}
use Rattle.polling.proofs.Laws.{moves-uncut, poll-as, polled-last, polled-counted, count_fits}
use Rattle.std.proofs.Common.{rules}
use Rattle.polling.proofs.unheard.Goals as goal

pub returns-then-is_last_poll : goal.returns-then-is_last_poll
returns-then-is_last_poll c =
    let m = c.args.m.now in
    let last = sym c.is_last_poll.ensures ∙ c.if-is_last_poll.true in
    poll-as m c.cut_off.ensures (λ new. polled-last c.args.kind c.args.stage new m _ refl c.requires.1 last)

pub overflow_add-next : goal.overflow_add-next
overflow_add-next c =
    let limit = (comm_at c.args.m.now c.args.stage.cell).reply_limit in
    let small : limit < 2 ^ 16 = search rules in
    let fits : c.args.stage.polls + 1 < 2 ^ 16 =
    count_fits limit c.args.stage.polls (sym c.is_last_poll.ensures ∙ c.if-is_last_poll.false) c.requires.2 small
    in
    search (rules, fits)

pub returns : goal.returns
unfolding effect_of with_polls
returns c =
    let m = c.args.m.now in
    moves-uncut m c.uncut.ensures
    (moves-as c.keep_words.ensures (λ m h. tt)
    (λ m new h. polled-counted c.args.kind c.args.stage new m _ h c.requires.1 c.requires.2 (sym c.is_last_poll.ensures ∙ c.if-is_last_poll.false)))
    refl
