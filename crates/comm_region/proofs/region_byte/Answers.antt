-- `comm_region::region_byte` meets its contract: a byte is that of its word. Assumes nothing.
use Rattle.std.proofs.Common.{rules, ◌∙◌}
use Rattle.comm_region.proofs.Laws.{byte-of-word}
use Rattle.comm_region.proofs.region_byte.Goals as goal

pub returns : goal.returns
returns c = search rules ∙ byte-of-word c.args.m.now c.args.id c.args.offset c.region_word.result c.region_word.ensures
