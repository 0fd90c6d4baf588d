-- C-17, "State which earlier accepted records are now refused": those with a region that is both shared and executable, and no others.
use Rattle.std.specs.Prelude.{◌≡◌, Bool, true, false, ◌&&◌, List, [], ◌∷◌, ℕ, zero, suc, ℤ, pos, negsuc}
use Rattle.base.specs.Lists.{any}
use Rattle.base.specs.Rules.{first_rule, ◌⇒◌, EINVAL}
use Rattle.regions.specs.Regions.{shared_and_executable}
use Rattle.system_record.specs.declared.SystemConfig.{SystemConfig}
use Rattle.cell_record.specs.CellRecord.{cell_of, cell_regions, region_rules, valid_by, answer_by, cell_answer}

-- what the record made Create answer before C-17: the same rules, but for the one on shared and executable regions
abbrev pub cell_answer_before : SystemConfig → List ℕ → ℤ
cell_answer_before boot r = answer_by (valid_by (region_rules boot)) r

-- the answer of an accepted record
unfoldable pub accepts : ℤ → Bool
accepts (pos zero) = true
accepts (pos (suc n)) = false
accepts (negsuc n) = false

-- some region that the record's count names is both shared and executable
abbrev pub runs_shared : List ℕ → Bool
runs_shared r = any shared_and_executable (cell_regions (cell_of r))

-- an accepted record is refused now where it runs shared memory; every other record gives what it gave before
abbrev pub RefusesSharedCode : Type 0
RefusesSharedCode =
    (boot : SystemConfig) (r : List ℕ)
    → cell_answer boot r ≡ first_rule ((accepts (cell_answer_before boot r) && runs_shared r ⇒ EINVAL) ∷ []) (cell_answer_before boot r)
