-- What is copied over a part of the buffer is written there. Assumes nothing.
use Rattle.texts.proofs.Laws.{put-copied}
use Rattle.texts.proofs.put.Goals as goal

pub returns : goal.returns
returns c = put-copied c.args.text.now c.args.out.now c.args.at c.copy_from_slice.ensures.after c.requires
