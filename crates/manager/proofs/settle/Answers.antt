-- `manager::settle` meets its contract: what is stored, part by part, is the decision settled. Assumes nothing.
use Rattle.std.proofs.Common.{refl}
use Rattle.rules.specs.State.{with_cpus, with_comm, with_waiting}
use Rattle.manager.proofs.Laws.{applied}
use Rattle.manager.proofs.settle.Goals as goal

pub returns : goal.returns
unfolding with_cpus with_comm with_waiting
returns c =
    applied c.args.d _ c.args.m.now _ _ _ _ _ c.change_cpu.ensures c.cut_off.ensures c.carry_out.ensures c.change_words.ensures refl
