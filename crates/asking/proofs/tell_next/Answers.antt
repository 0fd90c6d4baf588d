-- `asking::tell_next` meets its contract: by whether a cell is left to tell. Assumes nothing.
use mathlib.Core.Path.{◌∙◌}
use mir.Syntax.{w32}
use mir.Facts.{to_z-of_z}
use Rattle.asking.proofs.Laws.{moves-as, told-one, told-all}
use Rattle.asking.proofs.tell_next.Goals as goal

pub wait_for-requires : goal.wait_for-requires
wait_for-requires c = c.requires _ c.in-Some.is

pub returns-in-Some : goal.returns-in-Some
returns-in-Some c = moves-as c.wait_for.ensures (λ m h. h) (λ m new h. told-one c.args.kind c.args.target c.args.next _ _ c.in-Some.is)

pub returns-in-None : goal.returns-in-None
returns-in-None c =
    moves-as c.finish.ensures (λ m h. h)
    (λ m new h. told-all c.args.kind c.args.target c.args.next _ c.in-None.is _ (to_z-of_z {w = w32} {z = c.end_code.result} (record { sfits = c.end_code.type_inv }) ∙ c.end_code.ensures))
