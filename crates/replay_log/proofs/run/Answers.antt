-- `replay_log::run` meets its contract: each turn is a law of `Turns`. Assumes nothing.
use Rattle.std.proofs.Common.{◌≡◌, refl, ap, ◌∙◌, ℕ, ◌+◌, ◌≤◌, length, min, zero-le, arith, rules}
use Rattle.replay_log.specs.Feed.{feed, line_length, kept_bytes}
use Rattle.replay_log.proofs.Turns.{read-on, line-ended, from-place, log-taken, no-room, ran}
use Rattle.replay_log.proofs.run.Goals as goal

pub loop-at-init : goal.loop-at-init
unfolding feed
loop-at-init c =
    let is : c.min-len.result ≡ min c.args.kept.len kept_bytes = search rules in
    record {
      fed = refl;
      taken = zero-le;
      inside = zero-le;
      out_size = refl;
      short = low c.args.kept.len kept_bytes _ is;
      line_size = search rules;
      rest = refl;
    }
  where
    low : (a b n : ℕ) → n ≡ min a b → n ≤ b
    low a b n e = omega arith

pub loop-at-preserved-then-end-log : goal.loop-at-preserved-then-end-log
loop-at-preserved-then-end-log c =
    let is_end = ap (λ (n : ℕ). c.loop-at.at + n) (c.line_length.ensures.value ∙ ap line_length (from-place c.loop-at.at c.args.log.now)) in
    line-ended _ _ _ _ _ _ _ _ _ c.loop-at.invariant _ c.append-len.result c.append-len.new.line is_end (search rules) c.append-len.ensures.line_after
    c.append-len.ensures.line_len_unchanged c.append-len.ensures.upper_bound c.if-end-log.true _ _ _ _ c.put-written.ensures c.answer-answer.ensures

pub loop-at-preserved : goal.loop-at-preserved
loop-at-preserved c =
    let is_end = ap (λ (n : ℕ). c.loop-at.at + n) (c.line_length.ensures.value ∙ ap line_length (from-place c.loop-at.at c.args.log.now)) in
    read-on _ _ _ _ _ _ _ _ _ c.loop-at.invariant _ c.append-len.result c.append-len.new.line is_end (search rules) c.append-len.ensures.line_after
    c.append-len.ensures.line_len_unchanged c.append-len.ensures.upper_bound

pub returns-else-out-written-ge-MAX_TEXT : goal.returns-else-out-written-ge-MAX_TEXT
returns-else-out-written-ge-MAX_TEXT c =
    let size : length c.args.kept.line ≡ kept_bytes = search rules in
    let is : c.min-len.result ≡ min c.args.kept.len kept_bytes = search rules in
    ran _ _ _ _ _ _ _ _ _ _ size is c.loop-at.invariant
    (no-room c.args.log.now c.args.out.now c.loop-at.at c.loop-at.written c.loop-at.out c.loop-at.invariant.out_size c.if-out-written-ge-MAX_TEXT.false)

pub returns-after-loop-at : goal.returns-after-loop-at
returns-after-loop-at c =
    let size : length c.args.kept.line ≡ kept_bytes = search rules in
    let is : c.min-len.result ≡ min c.args.kept.len kept_bytes = search rules in
    ran _ _ _ _ _ _ _ _ _ _ size is c.loop-at.invariant (log-taken c.args.log.now c.args.out.now c.loop-at.at c.loop-at.written c.loop-at-test.false)
