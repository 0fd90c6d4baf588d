-- `comms::is_locked_but` meets its contract: the iterator goes through the cells' IDs. Assumes nothing.
use Rattle.std.proofs.Common.{◌≡◌, ℕ, Bool, true, false, not, ◌&&◌, eqb, refl, ap, ◌∙◌, arith, rules, tests}
use Rattle.std.proofs.lemmas.Iterator.{YieldsList-from_range}
use Rattle.std.proofs.lemmas.Iterator.Search.{any_from_yields_List}
use Rattle.base.specs.Lists.{from}
use Rattle.machine_state.specs.declared.Machine.{Machine}
use Rattle.rules.specs.State.{has_id, active, state_at, is_locked}
use Rattle.rules.specs.Create.{other_cell_locked}
use Rattle.id_set.proofs.Laws.{any-alike}
use Rattle.id_set.proofs.Ids.{has-picked}
use Rattle.comms.specs.Sets.{has_locked}
use Rattle.comms.proofs.is_locked_but.Goals as goal

-- the tests of one cell, in the definition's order
own : (m : Machine) (id except : ℕ) (here : Bool) → here ≡ has_locked m id
    → (here && not (eqb id except)) ≡ (active m id && not (eqb id except) && is_locked (state_at m id))
unfolding has_locked
own m id except here e = ap (λ (b : Bool). b && not (eqb id except)) e ∙ last (active m id) (is_locked (state_at m id)) (not (eqb id except))
  where
    last : (a b c : Bool) → ((a && b) && c) ≡ (a && c && b)
    last true true true = refl
    last true true false = refl
    last true false true = refl
    last true false false = refl
    last false b c = refl

pub returns : goal.returns
unfolding other_cell_locked from
returns c = λ m e.
    let except = c.args.except in
    let those = c.args.locked in
    any_from_yields_List (λ id. has_id those id && not (eqb id except)) _ _ c.any.result c.any.ensures.ran (YieldsList-from_range 1 16 15 refl refl) (λ x b q k. search (rules, tests))
    ∙ any-alike (λ id. has_id those id && not (eqb id except)) (λ id. active m id && not (eqb id except) && is_locked (state_at m id)) 1 15
    (λ id l h. own m id except (has_id those id) (has-picked those id (has_locked m) (has_id those id) (omega arith) e refl))
