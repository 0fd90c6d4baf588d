-- `comm_region::word_of` meets its contract: each word is the number that its four bytes say. Assumes nothing.
use mathlib.Core.Path.{◌≡◌, refl}
use mathlib.Core.List.{◌++◌}
use Prim.Native.Nat.{◌^◌, ◌<◌}
use native.Mathlib.Omega.{arith}
use Rattle.cpu_set.specs.CpuSet.{count}
use Rattle.rules.specs.CommRegion.{bytes, layout}
use Rattle.comm_region.proofs.Laws.{number-bytes, number-halves, word-is, count-64}
use Rattle.comm_region.proofs.word_of.Goals as goal

pub returns-in-0 : goal.returns-in-0
unfolding bytes layout
returns-in-0 c = word-is _ (bytes 4 c.args.c.msg_to_cell) c.in-0.is refl (number-bytes 4 c.args.c.msg_to_cell (omega arith))

pub returns-in-1 : goal.returns-in-1
unfolding bytes layout
returns-in-1 c = word-is _ (bytes 4 c.args.c.reply_from_cell) c.in-1.is refl (number-bytes 4 c.args.c.reply_from_cell (omega arith))

pub returns-in-2 : goal.returns-in-2
unfolding bytes layout
returns-in-2 c = word-is _ (bytes 4 c.args.c.cell_state) c.in-2.is refl (number-bytes 4 c.args.c.cell_state (omega arith))

pub returns-in-3 : goal.returns-in-3
unfolding bytes layout
returns-in-3 c = word-is _ (bytes 4 0) c.in-3.is refl (number-bytes 4 0 (omega arith))

pub overflow_mul-result : goal.overflow_mul-result
overflow_mul-result c = omega (arith, count-64 c.args.cpus)

pub overflow_add-result : goal.overflow_add-result
overflow_add-result c = omega (arith, count-64 c.args.cpus)

pub returns-in_default : goal.returns-in_default
unfolding bytes layout
returns-in_default c =
    let four : c.args.word ≡ 4 = omega arith in
    let few : count c.args.cpus < 256 ^ 2 = omega (arith, count-64 c.args.cpus) in
    rw c.count.ensures (word-is _ (bytes 2 c.args.timer ++ bytes 2 (count c.args.cpus)) four refl (number-halves c.args.timer (count c.args.cpus) (omega arith) few))
