-- `replay_log::answer` meets its contract: the event and the record that were read are the line's. Assumes nothing.
use Rattle.std.proofs.Common.{◌≡◌, ◌∙◌, length, rules}
use Rattle.lines.specs.Lines.{max_record}
use Rattle.replay_log.proofs.Turns.{line-answered}
use Rattle.replay_log.proofs.answer.Goals as goal

pub returns : goal.returns
returns c =
    let size : length c.args.«record».now ≡ max_record = search rules in
    c.answer.ensures ∙ line-answered c.args.line.now c.args.«record».now c.read_line-read.new.«record» c.read_line-read.result c.args.m.now c.read_line-read.ensures size
