-- What a cell record itself makes Create answer, by which rules hold: the first that does answers. Assumes nothing.
use mathlib.Core.Path.{◌≡◌, ap, ◌∙◌}
use mathlib.Core.Bool.{true, false, not, ◌&&◌}
use mathlib.Core.List.{List}
use Prim.Native.Nat.{ℕ, ◌<◌, ◌≤◌}
use borrow.Author.Tests.{lt-ltb, le-ltb}
use lib.IntN.{pos}
use lib.ListN.{length}
use Rattle.base.specs.Rules.{E2BIG, EINVAL}
use Rattle.base.proofs.Rules.{rule-holds, rule-passed, no-rule}
use Rattle.system_record.specs.declared.SystemConfig.{SystemConfig}
use Rattle.cell_record.specs.CellRecord.{longest, cell_of, cell_form, cell_valid, cell_answer}

module _ (boot : SystemConfig) (r : List ℕ) where
  pub answer_long : longest < length r → E2BIG ≡ cell_answer boot r
  unfolding cell_answer
  answer_long h = rule-holds _ _ _ (lt-ltb longest (length r) h)

  module _ (short : length r ≤ longest) where
    pub answer_invalid : (cell_form r && cell_valid boot (cell_of r)) ≡ false → EINVAL ≡ cell_answer boot r
    unfolding cell_answer
    answer_invalid e = rule-holds _ _ _ (ap not e) ∙ rule-passed _ _ _ (le-ltb longest (length r) short)

    pub answer_accepted : (cell_form r && cell_valid boot (cell_of r)) ≡ true → pos 0 ≡ cell_answer boot r
    unfolding cell_answer
    answer_accepted e = no-rule _ ∙ rule-passed _ _ _ (ap not e) ∙ rule-passed _ _ _ (le-ltb longest (length r) short)
