-- `queries::cpu_figure` meets its contract: each test is a row of the table, in its order. Assumes nothing.
use mathlib.Core.Path.{refl, sym, ap, ◌∙◌}
use mathlib.Core.Bool.{not}
use borrow.Author.Tests.{eq-eqb, ne_eqb}
use Rattle.rules.specs.Queries.{low31, cpu_get_info}
use Rattle.queries.proofs.Laws.{answers, passes, none_left, between, foreign-row, works-row, counter-of}
use Rattle.queries.proofs.cpu_figure.Goals as goal

pub counter-requires : goal.counter-requires
counter-requires c = between 1000 _ 1005 c.if-kind.true

pub returns-then-cell-asked-clause-code : goal.returns-then-cell-asked-clause-code
unfolding cpu_get_info
returns-then-cell-asked-clause-code c m k j p q b = passes _ _ _ _ (ap not b) (answers _ _ _ _ _ (foreign-row _ _ _ _ p q ∙ c.if-cell-asked.true) refl)

pub returns-then-kind-asked-clause-code : goal.returns-then-kind-asked-clause-code
unfolding cpu_get_info
returns-then-kind-asked-clause-code c m k j p q b =
    passes _ _ _ _ (ap not b)
    (passes _ _ _ _ (foreign-row _ _ _ _ p q ∙ c.if-cell-asked.false)
    (answers _ _ _ _ _ (works-row c.args.kind _ _ q ∙ c.if-kind-asked.true) refl))

pub returns-then-kind-eq0-clause-code : goal.returns-then-kind-eq0-clause-code
unfolding cpu_get_info
returns-then-kind-eq0-clause-code c m k j p q b =
    passes _ _ _ _ (ap not b)
    (passes _ _ _ _ (foreign-row _ _ _ _ p q ∙ c.if-cell-asked.false)
    (passes _ _ _ _ (works-row c.args.kind _ _ q ∙ c.if-kind-asked.false)
    (answers _ _ _ _ _ (eq-eqb _ _ c.if-kind-eq0.true) refl)))

pub returns-then-kind-clause-code : goal.returns-then-kind-clause-code
unfolding cpu_get_info
returns-then-kind-clause-code c m k j p q b =
    passes _ _ _ _ (ap not b)
    (passes _ _ _ _ (foreign-row _ _ _ _ p q ∙ c.if-cell-asked.false)
    (passes _ _ _ _ (works-row c.args.kind _ _ q ∙ c.if-kind-asked.false)
    (passes _ _ _ _ (ne_eqb _ _ c.if-kind-eq0.false)
    (answers _ _ _ _ _ c.if-kind.true (c.low31.ensures.same ∙ ap low31 c.counter.ensures ∙ counter-of _ _ _ (sym q))))))

pub returns-clause-code : goal.returns-clause-code
unfolding cpu_get_info
returns-clause-code c m k j p q b =
    passes _ _ _ _ (ap not b)
    (passes _ _ _ _ (foreign-row _ _ _ _ p q ∙ c.if-cell-asked.false)
    (passes _ _ _ _ (works-row c.args.kind _ _ q ∙ c.if-kind-asked.false)
    (passes _ _ _ _ (ne_eqb _ _ c.if-kind-eq0.false)
    (passes _ _ _ _ c.if-kind.false
    (none_left _ _ refl)))))
