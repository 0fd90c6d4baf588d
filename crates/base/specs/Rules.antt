-- A table of refusals: rules in the paper's order, each with the code that it answers.
-- "Each refusal is given then and only then": the answer is the code of the first rule that holds.
use Rattle.std.specs.Prelude.{Bool, true, false, List, [], ◌∷◌, ℤ, negsuc}

pub record Refusal (A : Type 0) : Type 0 where
  pub when : Bool
  pub code : A

-- a row of a table: when it applies, and what it gives
infix 4 ◌⇒◌
abbrev pub ◌⇒◌ : {A : Type 0} → Bool → A → Refusal A
when ⇒ code = record { when = when; code = code }

-- the code of the first rule that holds, and `otherwise` where none does
unfoldable pub first_rule : {A : Type 0} → List (Refusal A) → A → A
first_rule [] otherwise = otherwise
first_rule (r ∷ rs) otherwise = elim r.when [ true ↦ r.code | false ↦ first_rule rs otherwise ]

-- the codes, by their names in source documents 000 and 001; -38, which they do not name, is Linux's ENOSYS
abbrev pub EPERM : ℤ
EPERM = negsuc 0

abbrev pub ENOENT : ℤ
ENOENT = negsuc 1

abbrev pub E2BIG : ℤ
E2BIG = negsuc 6

abbrev pub ENOMEM : ℤ
ENOMEM = negsuc 11

abbrev pub EBUSY : ℤ
EBUSY = negsuc 15

abbrev pub EEXIST : ℤ
EEXIST = negsuc 16

abbrev pub EINVAL : ℤ
EINVAL = negsuc 21

abbrev pub ERANGE : ℤ
ERANGE = negsuc 33

abbrev pub ENOSYS : ℤ
ENOSYS = negsuc 37
