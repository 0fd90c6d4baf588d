-- `effects::effect_part` meets its contract: Disable's next part is the lowest live cell or none, every other effect's its own cell. Assumes nothing.
use Rattle.std.proofs.Common.{ℕ, sym, ◌∙◌, subst}
use Rattle.id_set.specs.Ids.{Lowest}
use Rattle.effects.specs.Applying.{EffectPart}
use Rattle.effects.proofs.Applying.{own-cell, lowest-cell, none_left}
use Rattle.effects.proofs.effect_part.Goals as goal

pub returns-in-Some : goal.returns-in-Some
unfolding EffectPart
returns-in-Some c =
    lowest-cell _ _ _ _ (sym c.is_disable.ensures ∙ c.if-is_disable.true)
    (subst (λ (n : ℕ). Lowest n c.lowest.result) c.drop_id.ensures c.lowest.ensures) _ c.in-Some.is

pub returns-in-None : goal.returns-in-None
unfolding EffectPart
returns-in-None c =
    none_left _ _ _ _ (sym c.is_disable.ensures ∙ c.if-is_disable.true)
    (subst (λ (n : ℕ). Lowest n c.lowest.result) c.drop_id.ensures c.lowest.ensures) c.in-None.is

pub returns : goal.returns
unfolding EffectPart
returns c = own-cell _ _ _ (sym c.is_disable.ensures ∙ c.if-is_disable.false)
