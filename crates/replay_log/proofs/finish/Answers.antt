-- `replay_log::finish` meets its contract: where bytes of a line are kept, it is the last line, and a run over its line feed answers it. Assumes nothing.
use Rattle.std.proofs.Common.{◌≡◌, sym, ap, subst, List, ℕ, ◌<◌, length, take, arith, rules}
use lib.ListN.{length-take}
use Rattle.texts.specs.Texts.{put_line, put_count}
use Rattle.replay_log.specs.Feed.{going_of, kept_bytes}
use Rattle.replay_log.proofs.Buffers.{put-none}
use Rattle.replay_log.proofs.Laws.{end_none}
use Rattle.replay_log.proofs.End.{put-nowhere, end-written}
use Rattle.replay_log.proofs.finish.Goals as goal

-- bytes of a line are kept, so some stand there
some : (line : List ℕ) (len : ℕ) → length line ≡ kept_bytes → (len ≡ 0 → ⊥) → 0 < length (take len line)
some line len s other = let l = length-take len line in omega arith

pub returns-then-kept-eq0 : goal.returns-then-kept-eq0
unfolding going_of
returns-then-kept-eq0 c =
    let k = c.args.kept in
    let none = ap (λ (n : ℕ). take n k.line) c.if-kept-eq0.true in
    let e =
    subst (λ (t : List ℕ). (0 ≡ put_count 32 t c.args.out.now) × (c.args.out.now ≡ put_line 32 t c.args.out.now))
    (sym (end_none k.machine (take k.len k.line) none)) (put-none c.args.out.now) in
    record { value = e.0; out_after = e.1 }

pub returns-then-out-lt-MAX_TEXT : goal.returns-then-out-lt-MAX_TEXT
returns-then-out-lt-MAX_TEXT c = let e = put-nowhere _ _ c.if-out-lt-MAX_TEXT.true in record { value = e.0; out_after = e.1 }

pub returns : goal.returns
unfolding going_of
returns c =
    let k = c.args.kept in
    let size : length k.line ≡ kept_bytes = search rules in
    let e = end-written k _ _ c.run.result c.run.ensures (search rules) c.if-out-lt-MAX_TEXT.false (some k.line k.len size c.if-kept-eq0.false) in
    record { value = e.0; out_after = e.1 }
