-- `asking::refuse` meets its contract: the code goes into the answer as bits, and the number of those bits is the code again. Assumes nothing.
use mathlib.Core.Path.{ap, ◌∙◌}
use mir.Syntax.{w32}
use mir.Facts.{to_z-of_z}
use lib.IntN.{ℤ}
use Rattle.machine_state.specs.declared.Answer.TheVariants.{Code}
use Rattle.std.specs.Prelude.{None}
use Rattle.rules.specs.State.{with_waiting, answered}
use Rattle.rules.specs.Asking.{finished}
use Rattle.asking.specs.Moves.{effect_of}
use Rattle.asking.proofs.Laws.{moves-as}
use Rattle.asking.proofs.refuse.Goals as goal

pub returns : goal.returns
unfolding finished effect_of
returns c =
    moves-as c.keep_words.ensures (λ m h. tt)
    (λ m new h. ap (λ (z : ℤ). answered (Code z) (with_waiting None m)) (to_z-of_z {w = w32} {z = c.from.result} (record { sfits = c.from.type_inv }) ∙ c.from.ensures))
