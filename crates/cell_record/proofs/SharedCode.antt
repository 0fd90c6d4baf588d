-- Which accepted records C-17 refuses: the new rule is one more factor of the regions' test, so of the test of all values, and by the cases of the
-- three tests it changes the answer 0 alone. Assumes nothing.
use mathlib.Core.Path.{◌≡◌, refl, ap, ◌∙◌}
use mathlib.Core.Bool.{Bool, true, false, not, ◌&&◌, ◌||◌, and_comm}
use mathlib.Core.List.{List, [], ◌∷◌}
use lib.IntN.{pos}
use lib.Dec.{ltb}
use lib.ListN.{length}
use Rattle.base.specs.Lists.{all, any, pairwise}
use Rattle.base.specs.Rules.{first_rule, ◌⇒◌, E2BIG, EINVAL}
use Rattle.cpu_set.specs.CpuSet.{is_empty}
use Rattle.fields.specs.Fields.{is_name}
use Rattle.regions.specs.declared.MemRegion.{MemRegion}
use Rattle.regions.specs.Regions.{apart, comm, shared_and_executable}
use Rattle.system_record.specs.declared.SystemConfig.{SystemConfig}
use Rattle.cell_record.specs.declared.CellConfig.{CellConfig}
use Rattle.cell_record.specs.CellRecord.{cell_of, cell_form, cell_region_ok, cell_regions, cell_valid, cell_answer, longest, region_rules, valid_by}
use Rattle.cell_record.specs.SharedCode.{accepts, runs_shared, RefusesSharedCode}

-- every element passes both tests where every one passes the first and none fails the second
all_but : (p q : MemRegion → Bool) (rs : List MemRegion) → all (λ r. p r && not (q r)) rs ≡ (all p rs && not (any q rs))
all_but p q [] = refl
all_but p q (r ∷ rs) = ap (λ (b : Bool). p r && not (q r) && b) (all_but p q rs) ∙ go (p r) (q r) (all p rs) (any q rs)
  where
    go : (a b c d : Bool) → (a && not b && (c && not d)) ≡ (a && c && not (b || d))
    go true true true d = refl
    go true true false d = refl
    go true false c d = refl
    go false b c d = refl

-- a factor among five
factor : (a b c d e x : Bool) → (a && b && (c && x) && d && e) ≡ (a && b && c && d && e && x)
factor false b c d e x = refl
factor true false c d e x = refl
factor true true false d e x = refl
factor true true true d e true = and_comm true (d && e)
factor true true true d e false = and_comm false (d && e)

valid-now : (boot : SystemConfig) (c : CellConfig) → cell_valid boot c ≡ (valid_by (region_rules boot) c && not (any shared_and_executable (cell_regions c)))
unfolding cell_valid cell_region_ok
valid-now boot c =
    ap (λ (b : Bool). is_name c.name && not (is_empty c.cpus) && b && pairwise apart (cell_regions c) && (any comm (cell_regions c) || c.passive))
    (all_but (region_rules boot) shared_and_executable (cell_regions c))
    ∙ factor (is_name c.name) (not (is_empty c.cpus)) (all (region_rules boot) (cell_regions c)) (pairwise apart (cell_regions c))
    (any comm (cell_regions c) || c.passive) (not (any shared_and_executable (cell_regions c)))

-- the table with one rule more, by the cases: too long, of the form, valid before, refused now
table : (long form valid run : Bool)
    → first_rule ((long ⇒ E2BIG) ∷ (not (form && (valid && not run)) ⇒ EINVAL) ∷ []) (pos 0)
    ≡ first_rule ((accepts (first_rule ((long ⇒ E2BIG) ∷ (not (form && valid) ⇒ EINVAL) ∷ []) (pos 0)) && run ⇒ EINVAL) ∷ [])
    (first_rule ((long ⇒ E2BIG) ∷ (not (form && valid) ⇒ EINVAL) ∷ []) (pos 0))
unfolding first_rule accepts
table true form valid run = refl
table false true true true = refl
table false true true false = refl
table false true false run = refl
table false false valid run = refl

pub refuses-shared-code : RefusesSharedCode
unfolding cell_answer
refuses-shared-code boot r =
    ap (λ (b : Bool). first_rule ((ltb longest (length r) ⇒ E2BIG) ∷ (not (cell_form r && b) ⇒ EINVAL) ∷ []) (pos 0)) (valid-now boot (cell_of r))
    ∙ table (ltb longest (length r)) (cell_form r) (valid_by (region_rules boot) (cell_of r)) (runs_shared r)
