-- What a query gives, as the return code that stands for it.
use Rattle.std.specs.Prelude.{ℕ, ℤ, Result, Ok, Err}
use Rattle.base.specs.declared.Errno.{Errno}
use Rattle.base.specs.Codes.{number_of}
use Rattle.rules.specs.Queries.{low31}

-- "queries give the low 31 bits" of a figure; a refusal is its code
abbrev pub figure_code : Result ℕ Errno → ℤ
figure_code (Ok n) = low31 n
figure_code (Err why) = number_of why
