-- `queries::get_state` meets its contract: each test is a row of the table, in its order. Assumes nothing.
use mathlib.Core.Path.{refl, sym, ap, ◌∙◌}
use native.Mathlib.Omega.{arith}
use borrow.Author.Tests.{eq-eqb, ne_eqb}
use Rattle.rules.specs.Queries.{get_state}
use Rattle.queries.proofs.Laws.{answers, passes, none_left, live-inside}
use mathlib.Core.Bool.{not}
use Rattle.queries.proofs.get_state.Goals as goal

pub offset_bounds-m-id : goal.offset_bounds-m-id
offset_bounds-m-id c = let inside = live-inside _ _ _ c.is_live.ensures c.if-not-is_live.false in record { fits = omega (arith, inside) }

pub bounds-m-id : goal.bounds-m-id
bounds-m-id c = live-inside _ _ _ c.is_live.ensures c.if-not-is_live.false

pub returns-then-id-eq0-clause-code : goal.returns-then-id-eq0-clause-code
unfolding get_state
returns-then-id-eq0-clause-code c = answers _ _ _ _ _ (eq-eqb _ _ c.if-id-eq0.true) refl

pub returns-then-not-is_live-clause-code : goal.returns-then-not-is_live-clause-code
unfolding get_state
returns-then-not-is_live-clause-code c = passes _ _ _ _ (ne_eqb _ _ c.if-id-eq0.false) (answers _ _ _ _ _ (ap not (sym c.is_live.ensures ∙ c.if-not-is_live.true)) refl)

pub returns-then-state-clause-code : goal.returns-then-state-clause-code
unfolding get_state
returns-then-state-clause-code c =
    passes _ _ _ _ (ne_eqb _ _ c.if-id-eq0.false)
    (passes _ _ _ _ (ap not (sym c.is_live.ensures ∙ c.if-not-is_live.false))
    (answers _ _ _ _ _ c.if-state.true refl))

pub returns-then-state-eq-SHUT_DOWN-clause-code : goal.returns-then-state-eq-SHUT_DOWN-clause-code
unfolding get_state
returns-then-state-eq-SHUT_DOWN-clause-code c =
    passes _ _ _ _ (ne_eqb _ _ c.if-id-eq0.false)
    (passes _ _ _ _ (ap not (sym c.is_live.ensures ∙ c.if-not-is_live.false))
    (passes _ _ _ _ (c.if-state.false)
    (answers _ _ _ _ _ (eq-eqb _ _ c.if-state-eq-SHUT_DOWN.true) refl)))

pub returns-then-state-eq-FAILED-clause-code : goal.returns-then-state-eq-FAILED-clause-code
unfolding get_state
returns-then-state-eq-FAILED-clause-code c =
    passes _ _ _ _ (ne_eqb _ _ c.if-id-eq0.false)
    (passes _ _ _ _ (ap not (sym c.is_live.ensures ∙ c.if-not-is_live.false))
    (passes _ _ _ _ (c.if-state.false)
    (passes _ _ _ _ (ne_eqb _ _ c.if-state-eq-SHUT_DOWN.false)
    (answers _ _ _ _ _ (eq-eqb _ _ c.if-state-eq-FAILED.true) refl))))

pub returns-clause-code : goal.returns-clause-code
unfolding get_state
returns-clause-code c =
    passes _ _ _ _ (ne_eqb _ _ c.if-id-eq0.false)
    (passes _ _ _ _ (ap not (sym c.is_live.ensures ∙ c.if-not-is_live.false))
    (passes _ _ _ _ (c.if-state.false)
    (passes _ _ _ _ (ne_eqb _ _ c.if-state-eq-SHUT_DOWN.false)
    (passes _ _ _ _ (ne_eqb _ _ c.if-state-eq-FAILED.false)
    (none_left _ _ refl)))))
