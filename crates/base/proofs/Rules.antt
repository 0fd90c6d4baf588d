-- Laws of a table of refusals: the first rule answers where it holds, and is passed over where it does not. Assumes nothing.
use mathlib.Core.Path.{◌≡◌, refl, subst}
use mathlib.Core.Bool.{Bool, true, false}
use mathlib.Core.List.{List, [], ◌∷◌}
use Rattle.base.specs.Rules.{Refusal, first_rule}

pub rule-holds : {A : Type 0} (r : Refusal A) (rs : List (Refusal A)) (otherwise : A) → r.when ≡ true → r.code ≡ first_rule (r ∷ rs) otherwise
unfolding first_rule
rule-holds r rs otherwise e = rw (e, first_rule)

pub rule-passed : {A : Type 0} (r : Refusal A) (rs : List (Refusal A)) (otherwise : A) → r.when ≡ false → first_rule rs otherwise ≡ first_rule (r ∷ rs) otherwise
unfolding first_rule
rule-passed r rs otherwise e = rw (e, first_rule)

pub no-rule : {A : Type 0} (otherwise : A) → otherwise ≡ first_rule [] otherwise
unfolding first_rule
no-rule otherwise = refl

-- what holds of each row's code where the row applies and none before it does, and of the rest where none does, holds of the table's answer
pub by-rule : {A : Type 0} (P : A → Type 0) (r : Refusal A) (rs : List (Refusal A)) (otherwise : A)
    → (r.when ≡ true → P r.code) → (r.when ≡ false → P (first_rule rs otherwise)) → P (first_rule (r ∷ rs) otherwise)
by-rule P r rs otherwise f g = go r.when refl
  where
    go : (b : Bool) → r.when ≡ b → P (first_rule (r ∷ rs) otherwise)
    go true e = subst P (rule-holds r rs otherwise e) (f e)
    go false e = subst P (rule-passed r rs otherwise e) (g e)

pub by-none : {A : Type 0} (P : A → Type 0) (otherwise : A) → P otherwise → P (first_rule [] otherwise)
by-none P otherwise p = subst P (no-rule otherwise) p
