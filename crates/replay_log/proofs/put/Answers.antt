-- `replay_log::put` meets its contract: there is room for the longest line, so the answer's line is put behind what is written. Assumes nothing.
use mathlib.Core.Path.{refl, ap}
use Prim.Native.Nat.{ℕ, ◌+◌}
use lib.ListN.{length}
use Rattle.replay_log.proofs.Buffers.{sum_fits, put_count_lem, put-inside, put-text, put_rest, put-size}
use Rattle.replay_log.proofs.put.Goals as goal

pub overflow_add-result : goal.overflow_add-result
overflow_add-result c =
    let out = c.args.out.now in
    record {
      fits =
          sum_fits c.args.written c.put_answer.result (length out)
          (put-inside c.args.answer out c.put_answer.new.out c.args.written c.put_answer.result c.requires.1 c.put_answer.ensures.value c.put_answer.ensures.out_after _ refl)
          c.well_formed.1.1.0.0;
    }

pub returns : goal.returns
returns c =
    let out = c.args.out.now in
    let after = c.put_answer.new.out in
    record {
      text = put-text c.args.answer out after c.args.written c.put_answer.result c.requires.1 c.put_answer.ensures.value c.put_answer.ensures.out_after _ refl;
      rest = put_rest c.args.answer out after c.args.written c.put_answer.result c.requires.1 c.put_answer.ensures.value c.put_answer.ensures.out_after _ refl;
      ahead = ap (λ (n : ℕ). c.args.written + n) (put_count_lem c.args.answer out after c.args.written c.put_answer.result c.requires.1 c.put_answer.ensures.value c.put_answer.ensures.out_after);
      inside = put-inside c.args.answer out after c.args.written c.put_answer.result c.requires.1 c.put_answer.ensures.value c.put_answer.ensures.out_after _ refl;
      size = put-size c.args.answer out after c.args.written c.put_answer.result c.requires.1 c.put_answer.ensures.value c.put_answer.ensures.out_after _ refl;
    }
