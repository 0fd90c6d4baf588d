-- `lines::hex::hex_digit` meets its contract: a digit up to `9` is one of 0 to 9, any other one of a to f. Assumes nothing.
use Rattle.lines.proofs.PairLaws.{low_digit, high_digit}
use Rattle.lines.proofs.hex.hex_digit.Goals as goal

pub overflow_sub-result : goal.overflow_sub-result
overflow_sub-result c = (low_digit _ c.requires c.if-b-le57.true).0

pub overflow_sub-result-else-b-le57 : goal.overflow_sub-result-else-b-le57
overflow_sub-result-else-b-le57 c = (high_digit _ c.requires c.if-b-le57.false).0

pub returns-then-b-le57 : goal.returns-then-b-le57
returns-then-b-le57 c =
    let d = low_digit _ c.requires c.if-b-le57.true in record { value = d.1; upper_bound = d.2 }

pub returns-else-b-le57 : goal.returns-else-b-le57
returns-else-b-le57 c =
    let d = high_digit _ c.requires c.if-b-le57.false in record { value = d.1; upper_bound = d.2 }
