-- `comm_region::byte_of` meets its contract: a shift by 8 bits leaves the next byte. Assumes nothing.
use Rattle.comm_region.proofs.Laws.{byte-shift}
use Rattle.comm_region.proofs.byte_of.Goals as goal

pub returns : goal.returns
returns c = byte-shift c.args.word c.args.k c.requires
