-- `comms::next_cell` meets its contract: the iterator's first is the definition's. Assumes nothing.
use Rattle.std.proofs.Common.{Bool, ◌&&◌, ltb, refl, sym, ap, ◌∙◌, arith, rules, tests}
use Rattle.std.proofs.lemmas.Iterator.{YieldsList-from_range}
use Rattle.std.proofs.lemmas.Iterator.Search.{find_from_yields_List}
use Rattle.rules.specs.State.{has_id, some_id}
use Rattle.rules.proofs.SomeIds.{is-some}
use Rattle.rules.specs.Asking.{may_be_messaged, next_to_message}
use Rattle.id_set.proofs.Laws.{found-first, first-alike}
use Rattle.id_set.proofs.Ids.{has-picked}
use Rattle.comms.specs.Comms.{among}
use Rattle.comms.proofs.next_cell.Goals as goal

pub returns : goal.returns
unfolding next_to_message
returns c =
    let after = c.args.after in
    let among_id = among c.args.whom in
    let picked = c.args.messageable in
    let found = found-first (λ id. ltb after id && among_id id && has_id picked id) c.find.result
    (find_from_yields_List (λ id. ltb after id && among_id id && has_id picked id) _ _ c.find.result c.find.ensures.ran (YieldsList-from_range 1 16 15 refl refl)
    (λ x b q k. search (rules, tests))) in
    record {
      value = λ m e. found
          ∙ ap some_id
          (first-alike (λ id. ltb after id && among_id id && has_id picked id) (λ id. ltb after id && among_id id && may_be_messaged m id) 1 15
          (λ id l h. ap (λ (b : Bool). ltb after id && among_id id && b) (has-picked picked id (may_be_messaged m) (has_id picked id) (omega arith) e refl)));
      inside = λ id e. (is-some _ id (sym found ∙ e)).1;
    }
