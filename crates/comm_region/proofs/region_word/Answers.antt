-- `comm_region::region_word` meets its contract: the test is the definition's, and no cell has an ID from 16 up. Assumes nothing.
use Rattle.std.proofs.Common.{◌≤◌, ◌*◌, Some, false, refl, sym, ap, ◌∙◌, arith}
use Rattle.machine_state.specs.Machine.{past_comm}
use Rattle.machine_state.specs.declared.CommRegion.{CommRegion}
use Rattle.cpu_set.specs.CpuSet.{count}
use Rattle.fields.specs.Fields.{u32}
use Rattle.rules.specs.State.{cell_at}
use Rattle.rules.specs.CommRegion.{layout}
use Rattle.comm_region.proofs.Laws.{not_seen, no_word, a_word}
use Rattle.comm_region.proofs.region_word.Goals as goal

pub returns-in_err-c : goal.returns-in_err-c
returns-in_err-c c =
    let outside = c.in_err-c.ensures.lookup.3 in
    let past : 16 ≤ c.args.id = omega arith in
    c.from_residual.ensures ∙ no_word c.args.m.now c.args.id c.args.word false (sym (not_seen c.args.m.now c.args.id past)) refl

pub returns-then-sees_region-word : goal.returns-then-sees_region-word
returns-then-sees_region-word c =
    let m = c.args.m.now in
    let own = c.in_ok-c.ensures.lookup.3.1 past_comm in
    ap Some
    (c.word_of.ensures ∙ ap (λ (w : CommRegion). u32 (4 * c.args.word) (layout w m.system.timer (count (cell_at m c.args.id).cpus))) own)
    ∙ a_word m c.args.id c.args.word c.sees_region.result (c.sees_region.ensures m refl (sym own)) c.if-sees_region-word.true

pub returns-else-sees_region-word : goal.returns-else-sees_region-word
returns-else-sees_region-word c =
    let m = c.args.m.now in
    let own = c.in_ok-c.ensures.lookup.3.1 past_comm in
    no_word m c.args.id c.args.word c.sees_region.result (c.sees_region.ensures m refl (sym own)) c.if-sees_region-word.false
