-- `queries::cpu_get_info` meets its contract: the boot set's row, then the others, of the caller counted and of the CPU asked about at its place, which
-- may be the caller's own. Assumes nothing.
use mathlib.Core.Path.{refl, sym, ap, ◌∙◌}
use mathlib.Core.Bool.{not}
use Rattle.rules.specs.State.{cpu_at, with_cpus}
use Rattle.rules.specs.Effects.{counted, call_counter}
use Rattle.rules.specs.Queries.{cpu_get_info}
use Rattle.cpu_table.proofs.Laws.{cpu-inside}
use Rattle.queries.proofs.Laws.{answers, in-table, caller-counted, asked-counted, counted-cell}
use Rattle.queries.proofs.cpu_get_info.Goals as goal

pub returns-then-not-contains-clause-code : goal.returns-then-not-contains-clause-code
unfolding cpu_get_info counted with_cpus
returns-then-not-contains-clause-code c = answers _ _ _ _ _ (ap not (sym c.contains.ensures ∙ c.if-not-contains.true)) refl

pub returns-then-asked-caller-clause-code : goal.returns-then-asked-caller-clause-code
unfolding counted with_cpus
returns-then-asked-caller-clause-code c =
    let m = c.args.m.now in
    let t = c.if-asked-caller.true in
    let place = c.cpu_index.ensures.is ∙ cpu-inside _ (in-table _ _ _ c.contains.ensures c.if-not-contains.false) in
    c.cpu_figure.ensures.code _ _ _ (counted-cell m _ ∙ sym c.owner-cell.ensures)
    (ap (cpu_at (counted call_counter _ m)) t ∙ caller-counted m _ _ (ap (cpu_at m) (sym (place ∙ t))) ∙ sym c.change_cpu-own.ensures)
    (sym c.contains.ensures ∙ c.if-not-contains.false)

pub returns-clause-code : goal.returns-clause-code
unfolding counted with_cpus
returns-clause-code c =
    let m = c.args.m.now in
    let place = c.cpu_index.ensures.is ∙ cpu-inside _ (in-table _ _ _ c.contains.ensures c.if-not-contains.false) in
    c.cpu_figure-2.ensures.code _ _ _ (counted-cell m _ ∙ sym c.owner-cell.ensures)
    (asked-counted m _ _ refl _ c.if-asked-caller.false ∙ ap (cpu_at m) (sym place))
    (sym c.contains.ensures ∙ c.if-not-contains.false)
