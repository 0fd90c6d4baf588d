-- A decision applied, store by store, is the decision settled: the CPU first, then the cell that is cut off, the effect, the words and the call that
-- waits. Assumes nothing.
use mathlib.Core.Path.{◌≡◌, ap, ◌∙◌}
use Rattle.cell_record.specs.declared.CellConfig.{CellConfig}
use Rattle.machine_state.specs.declared.Cpu.{Cpu}
use Rattle.machine_state.specs.declared.CommRegion.{CommRegion}
use Rattle.machine_state.specs.declared.Machine.{Machine}
use Rattle.rules.specs.State.{comm_at, cpu_at, with_cpu, with_comm, with_waiting, answered}
use Rattle.cpu_table.specs.CpuTable.{change_of, touched}
use Rattle.comms.specs.Comms.{words_of, words_at}
use Rattle.asking.specs.Moves.{effect_of, moved, cut_off_at}
use Rattle.decide.specs.declared.Decision.{Decision}
use Rattle.decide.specs.Decide.{settled}

pub applied : (d : Decision) (new : CellConfig) (m : Machine) (p : Cpu) (cut next : Machine) (w : CommRegion) (last : Machine)
    → p ≡ change_of d.touch (cpu_at m d.cpu)
    → cut ≡ cut_off_at d.cut (with_cpu d.cpu p m)
    → next ≡ effect_of d.moves.effect new cut
    → w ≡ words_of d.moves.words (comm_at next d.moves.cell)
    → last ≡ with_waiting d.moves.waiting (with_comm d.moves.cell w next)
    → answered d.moves.answer last ≡ settled d new m
unfolding settled moved touched words_at
applied d new m p cut next w last is_cpu is_cut is_next is_words is_last =
    ap (answered d.moves.answer)
    (is_last
    ∙ ap (λ (x : CommRegion). with_waiting d.moves.waiting (with_comm d.moves.cell x next)) is_words
    ∙ ap (λ (x : Machine). with_waiting d.moves.waiting (words_at d.moves.cell d.moves.words x))
    (is_next ∙ ap (effect_of d.moves.effect new) (is_cut ∙ ap (λ (x : Cpu). cut_off_at d.cut (with_cpu d.cpu x m)) is_cpu)))
