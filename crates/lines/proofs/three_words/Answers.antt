-- `lines::three_words` meets its contract: the words are a `create` line where they say its event. Assumes nothing.
use Rattle.std.proofs.Common.{◌∙◌, ap}
use Rattle.lines.specs.Reading.{event_or}
use Rattle.lines.proofs.EventLaws.{told, test-holds, event-is, test-fails, created, created-hex, no-create, no-create-hex}
use Rattle.lines.proofs.three_words.Goals as goal

pub returns-in-Some : goal.returns-in-Some
returns-in-Some c =
    let found = told c.create_words.ensures c.in-Some.is in
    let create = test-holds _ _ _ found in
    record { event = created _ _ _ create (event-is _ _ _ found); hex = created-hex _ _ _ create }

pub returns-in-None : goal.returns-in-None
returns-in-None c =
    let create = test-fails _ _ (told c.create_words.ensures c.in-None.is) in
    record {
      event = no-create _ _ _ create (c.plain.ensures.event ∙ ap event_or c.exit_words.ensures);
      hex = no-create-hex _ _ _ create c.plain.ensures.hex;
    }
