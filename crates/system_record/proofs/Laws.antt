-- The regions of a system's values are those that stand in its record, as many as a table holds; and boot's answer to a record with the values `c`,
-- by which of its rules hold: the first that does answers. Assumes nothing.
use mathlib.Core.Path.{◌≡◌, ap, ◌∙◌}
use mathlib.Core.Bool.{Bool, true, false, not, ◌&&◌}
use mathlib.Core.List.{List}
use Prim.Native.Nat.{ℕ, min}
use lib.IntN.{pos}
use Rattle.base.specs.Rules.{EINVAL, ERANGE, ENOMEM}
use Rattle.base.proofs.Tests.{told}
use Rattle.base.proofs.Rules.{rule-holds, rule-passed, no-rule}
use Rattle.fields.specs.Fields.{u16}
use Rattle.region_table.specs.Tables.{max_boot_regions, regions_of}
use Rattle.region_table.proofs.Laws.{table-regions}
use Rattle.system_record.specs.declared.SystemConfig.{SystemConfig}
use Rattle.system_record.specs.SystemRecord.{system_of, system_form, boot_regions, system_valid, out_of_range, overdrawn, boot_answer}

pub record-regions : (r : List ℕ) → boot_regions (system_of r) ≡ regions_of 96 (min (u16 6 r) max_boot_regions) r
unfolding system_of
record-regions r = table-regions 96 r max_boot_regions (u16 6 r)

module _ (r : List ℕ) (c : SystemConfig) (values : c ≡ system_of r) where
  kept : {b : Bool} → (system_form r && system_valid c) ≡ b → not (system_form r && system_valid (system_of r)) ≡ not b
  kept e = told (ap (λ (x : SystemConfig). not (system_form r && system_valid x)) values) (ap not e)

  pub answer_invalid : (system_form r && system_valid c) ≡ false → EINVAL ≡ boot_answer r
  unfolding boot_answer
  answer_invalid e = rule-holds _ _ _ (kept e)

  module _ (valid : (system_form r && system_valid c) ≡ true) where
    pub answer_range : out_of_range c ≡ true → ERANGE ≡ boot_answer r
    unfolding boot_answer
    answer_range e = rule-holds _ _ _ (told (ap out_of_range values) e) ∙ rule-passed _ _ _ (kept valid)

    module _ (inside : out_of_range c ≡ false) where
      pub answer_overdrawn : overdrawn c ≡ true → ENOMEM ≡ boot_answer r
      unfolding boot_answer
      answer_overdrawn e =
          rule-holds _ _ _ (told (ap overdrawn values) e) ∙ rule-passed _ _ _ (told (ap out_of_range values) inside) ∙ rule-passed _ _ _ (kept valid)

      pub answer_accepted : overdrawn c ≡ false → pos 0 ≡ boot_answer r
      unfolding boot_answer
      answer_accepted e =
          no-rule _ ∙ rule-passed _ _ _ (told (ap overdrawn values) e) ∙ rule-passed _ _ _ (told (ap out_of_range values) inside) ∙ rule-passed _ _ _ (kept valid)
