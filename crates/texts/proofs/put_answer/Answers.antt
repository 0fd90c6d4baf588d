-- An answer's text is its word and its number. Assumes nothing.
use Rattle.std.proofs.Common.{ap, ◌∙◌, List, ℕ, [], ◌∷◌, ◌++◌, arith, length}
use Rattle.texts.specs.Texts.{put_line, put_count}
use Rattle.texts.specs.Put.{number_of}
use Rattle.texts.proofs.Laws.{word-short, answer-parts}
use Rattle.texts.proofs.put_answer.Goals as goal

pub put_line-requires : goal.put_line-requires
put_line-requires c = omega (arith, ap length c.word.ensures, word-short c.args.a)

pub returns : goal.returns
returns c =
    let e = ap (λ (w : List ℕ). w ++ number_of c.args.a) c.word.ensures ∙ answer-parts c.args.a in
    record {
      value = c.put_line.ensures.value ∙ ap (λ (t : List ℕ). put_count 32 (t ++ (0x0a ∷ [])) c.args.out.now) e;
      out_after = c.put_line.ensures.out_after ∙ ap (λ (t : List ℕ). put_line 32 (t ++ (0x0a ∷ [])) c.args.out.now) e;
    }
