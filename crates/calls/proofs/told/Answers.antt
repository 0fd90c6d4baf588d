-- `calls::told` meets its contract: a figure goes into the answer as bits, whose number is the figure again. Assumes nothing.
use mathlib.Core.Path.{sym, ap, ◌∙◌}
use lib.IntN.{ℤ}
use mir.Syntax.{w32}
use mir.Facts.{to_z-of_z}
use Rattle.rules.specs.Calls.{ends}
use Rattle.queries.specs.Figures.{figure_code}
use Rattle.asking.proofs.Laws.{moves-as}
use Rattle.calls.proofs.told.Goals as goal

pub returns-in-Ok : goal.returns-in-Ok
returns-in-Ok c =
    moves-as c.stay.ensures (λ x h. h)
    (λ x new h. ap (λ (z : ℤ). ends z x) (to_z-of_z {w = w32} {z = c.low31.result} (record { sfits = c.low31.type_inv }) ∙ c.low31.ensures ∙ sym (ap figure_code c.in-Ok.is)))

pub returns-in-Err : goal.returns-in-Err
returns-in-Err c = moves-as c.refused.ensures (λ x h. h) (λ x new h. ap (λ (z : ℤ). ends z x) (sym (ap figure_code c.in-Err.is)))
