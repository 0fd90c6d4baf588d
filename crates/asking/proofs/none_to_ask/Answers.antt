-- `asking::none_to_ask` meets its contract: by whether it is Destroy and another cell is locked. Assumes nothing.
use mathlib.Core.Path.{sym, ap, ap₂, ◌∙◌}
use mathlib.Core.Bool.{Bool, ◌&&◌}
use Rattle.rules.specs.Create.{other_cell_locked}
use Rattle.asking.proofs.Laws.{moves-as, locked, not-locked}
use Rattle.asking.proofs.none_to_ask.Goals.{else-is_destroy-via-then-is_destroy+else-is_locked_but, else-is_destroy-via-else-is_destroy}
use Rattle.asking.proofs.none_to_ask.Goals as goal

pub returns-then-is_locked_but : goal.returns-then-is_locked_but
returns-then-is_locked_but c =
    moves-as c.refuse.ensures (λ m h. tt)
    (λ m new h. locked c.args.kind c.args.target new m
    (ap₂ (λ (x y : Bool). x && y) (sym c.is_destroy.ensures ∙ c.if-is_destroy.true)
    (sym (c.is_locked_but.ensures m h.sets.locked) ∙ c.if-is_locked_but.true)))

pub returns-else-is_destroy : goal.returns-else-is_destroy
returns-else-is_destroy c =
    moves-as c.carry_out.ensures (λ m h. h)
    (λ m new h. not-locked c.args.kind c.args.target new m
    (elim c.else-is_destroy.branch [
      | else-is_destroy-via-then-is_destroy+else-is_locked_but w ↦
          ap₂ (λ (x y : Bool). x && y) (sym c.is_destroy.ensures ∙ w.if-is_destroy.true)
          (sym (w.is_locked_but.ensures m h.sets.locked) ∙ w.if-is_locked_but.false)
      | else-is_destroy-via-else-is_destroy w ↦
          ap (λ (x : Bool). x && other_cell_locked c.args.target m) (sym c.is_destroy.ensures ∙ w.if-is_destroy.false)
    ]))
