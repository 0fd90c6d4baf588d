-- `unobeyed::admit` meets its contract: each arm is its case of the table. Assumes nothing.
use Rattle.unobeyed.proofs.Laws.{admits-at, admits-call, admits-fault, admits-exit}
use Rattle.unobeyed.proofs.admit.Goals as goal

pub returns-in-Call : goal.returns-in-Call
returns-in-Call c = admits-call _ _ _ _ _ _ _ c.in-Call.is c.admit_on.ensures

pub returns-in-Store : goal.returns-in-Store
returns-in-Store c = admits-at _ _ _ _ c.in-Store.is (c.admit_store.ensures _)

pub returns-in-Fault : goal.returns-in-Fault
returns-in-Fault c = admits-fault _ _ _ _ c.in-Fault.is c.admit_on-in-Fault.ensures

pub returns-in-Exit : goal.returns-in-Exit
returns-in-Exit c = admits-exit _ _ _ _ _ c.in-Exit.is c.admit_on-in-Exit.ensures

pub returns-in-Poll : goal.returns-in-Poll
returns-in-Poll c = admits-at _ _ _ _ c.in-Poll.is c.admit_poll.ensures

pub returns-in-Malformed : goal.returns-in-Malformed
returns-in-Malformed c = admits-at _ _ _ _ c.in-Malformed.is c.admit_malformed.ensures
