-- `polling::poll` meets its contract: by whether a call waits. Assumes nothing.
use mathlib.Core.Path.{refl, sym, ap}
use Rattle.machine_state.specs.Machine.{Waiting}
use Rattle.rules.specs.Asking.{poll}
use Rattle.polling.proofs.Laws.{stays, poll-as}
use Rattle.polling.proofs.poll.Goals as goal

pub poll_cell-requires : goal.poll_cell-requires
poll_cell-requires c = c.in-Some.is

pub returns-in-None : goal.returns-in-None
unfolding poll
returns-in-None c = stays c.args.m.now _ _ _ _ c.uncut.ensures c.stay.ensures refl (λ new. ap (λ (w : Waiting). poll w new c.args.m.now) (sym c.in-None.is))

pub returns-in-Some : goal.returns-in-Some
unfolding poll
returns-in-Some c = poll-as c.args.m.now c.poll_cell.ensures (λ new. ap (λ (w : Waiting). poll w new c.args.m.now) (sym c.in-Some.is))
