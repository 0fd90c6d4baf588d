-- `apply::apply_part` meets its contract: what is left after a part is less, and makes the same machine. Assumes nothing.
use Rattle.std.proofs.Common.{refl}
use Rattle.rules.specs.State.{with_comm, with_cpus, with_power}
use Rattle.rules.specs.Effects.{store_word}
use Rattle.cpu_table.proofs.Walk.{walk-less}
use Rattle.comms.specs.Comms.{words_of}
use Rattle.effects.specs.Applying.{IsNext, Uncut, effect_parts}
use Rattle.effects.proofs.Applying.{cpu-applied, cut-applied, off-applied}
use Rattle.apply.proofs.Laws.{as-part, less-cpu, less-cut, less-effect, change-size, change-less, change-applied}
use Rattle.apply.proofs.apply_part.Goals as goal

pub returns-in-Cpu-clause-same : goal.returns-in-Cpu-clause-same
unfolding IsNext with_cpus
returns-in-Cpu-clause-same c =
    let is = as-part _ _ _ _ _ _ c.in-Cpu.is c.requires.1 in
    cpu-applied c.args.m.now c.requires.0 _ _ _ _ _ _ _ _ _ c.without.ensures c.single.ensures is c.change_cpu.ensures

pub returns-in-Cpu-clause-fewer : goal.returns-in-Cpu-clause-fewer
unfolding IsNext
returns-in-Cpu-clause-fewer c =
    let is = as-part _ _ _ _ _ _ c.in-Cpu.is c.requires.1 in
    less-cpu _ _ _ (walk-less _ _ _ _ c.without.ensures c.single.ensures is.0 is.1)

pub returns-in-CutOff-clause-same : goal.returns-in-CutOff-clause-same
unfolding IsNext Uncut with_comm words_of store_word
returns-in-CutOff-clause-same c =
    let is = as-part _ _ _ _ _ _ c.in-CutOff.is c.requires.1 in
    cut-applied c.args.m.now c.requires.0 _ _ _ _ _ is.0 _ _ _ is.1 is.2 tt c.change_words.ensures

pub returns-in-CutOff-clause-fewer : goal.returns-in-CutOff-clause-fewer
unfolding IsNext
returns-in-CutOff-clause-fewer c =
    let is = as-part _ _ _ _ _ _ c.in-CutOff.is c.requires.1 in
    less-cut _ _ _ _ _ _ is.1 is.2

pub returns-in-Change-clause-size : goal.returns-in-Change-clause-size
unfolding IsNext
returns-in-Change-clause-size c =
    let is = as-part _ _ _ _ _ _ c.in-Change.is c.requires.1 in
    change-size _ _ _ c.args.m.now _ is.2 _ c.on_cell.ensures

pub returns-in-Change-clause-same : goal.returns-in-Change-clause-same
unfolding IsNext
returns-in-Change-clause-same c =
    let is = as-part _ _ _ _ _ _ c.in-Change.is c.requires.1 in
    change-applied _ _ _ c.args.m.now _ is.2 _ c.on_cell.ensures _ c.rest_of.ensures c.requires.0 _ _ _ is.0 is.1

pub returns-in-Change-clause-fewer : goal.returns-in-Change-clause-fewer
unfolding IsNext
returns-in-Change-clause-fewer c =
    let is = as-part _ _ _ _ _ _ c.in-Change.is c.requires.1 in
    less-effect _ _ _ _ _ _ _ is.1 (change-less _ _ _ c.args.m.now _ is.2 _ c.on_cell.ensures _ c.rest_of.ensures)

pub returns-in-Off-clause-same : goal.returns-in-Off-clause-same
unfolding IsNext with_power
returns-in-Off-clause-same c =
    let is = as-part _ _ _ _ _ _ c.in-Off.is c.requires.1 in
    off-applied c.args.m.now c.requires.0 _ _ _ _ _ is.0 is.1 _ refl is.2

pub returns-in-Off-clause-fewer : goal.returns-in-Off-clause-fewer
unfolding IsNext effect_parts
returns-in-Off-clause-fewer c =
    let is = as-part _ _ _ _ _ _ c.in-Off.is c.requires.1 in
    less-effect _ _ _ _ _ _ _ is.1 is.2.less
