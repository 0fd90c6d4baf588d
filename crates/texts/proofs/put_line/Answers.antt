-- The word, the number and the line feed are written one behind the other, and every line fits. Assumes nothing.
use Rattle.std.proofs.Common.{◌++◌, [], ◌∷◌, arith}
use Rattle.texts.specs.Put.{number_of}
use Rattle.texts.proofs.Laws.{room, line_kept, put_both, line-short, feed-room, fed-line}
use Rattle.texts.proofs.put_line.Goals as goal

pub returns-then-out-lt-MAX_TEXT : goal.returns-then-out-lt-MAX_TEXT
returns-then-out-lt-MAX_TEXT c =
    let e = line_kept ((c.args.word.now ++ number_of c.args.a) ++ (0x0a ∷ [])) _ c.if-out-lt-MAX_TEXT.true in
    record { value = e.0; out_after = e.1 }

pub put_number-end-requires : goal.put_number-end-requires
put_number-end-requires c = room c.args.word.now 21 c.put-at.ensures (omega (arith, c.requires)) c.if-out-lt-MAX_TEXT.false

pub put-requires : goal.put-requires
put-requires c =
    feed-room (c.args.word.now ++ number_of c.args.a) (line-short c.args.word.now c.args.a c.requires) c.if-out-lt-MAX_TEXT.false
    (put_both c.args.word.now (number_of c.args.a) c.put-at.ensures c.put_number-end.ensures)

pub returns : goal.returns
returns c =
    let e =
    fed-line (c.args.word.now ++ number_of c.args.a) (line-short c.args.word.now c.args.a c.requires) c.if-out-lt-MAX_TEXT.false
    (put_both c.args.word.now (number_of c.args.a) c.put-at.ensures c.put_number-end.ensures)
    c.put.ensures
    in record { value = e.0; out_after = e.1 }
