-- `calls::refused` meets its contract: the code goes into the answer as bits, and the number of those bits is the code again. Assumes nothing.
use mathlib.Core.Path.{ap, ◌∙◌}
use lib.IntN.{ℤ}
use mir.Syntax.{w32}
use mir.Facts.{to_z-of_z}
use Rattle.rules.specs.Calls.{ends}
use Rattle.asking.proofs.Laws.{moves-as}
use Rattle.calls.proofs.refused.Goals as goal

pub returns : goal.returns
returns c =
    moves-as c.stay.ensures (λ x h. h)
    (λ x new h. ap (λ (z : ℤ). ends z x) (to_z-of_z {w = w32} {z = c.from.result} (record { sfits = c.from.type_inv }) ∙ c.from.ensures))
