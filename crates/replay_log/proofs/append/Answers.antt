-- `replay_log::append` meets its contract: behind the line's bytes stand those that fit. Assumes nothing.
use Rattle.std.proofs.Common.{◌≡◌, ◌∙◌, sym, ap, length, take, ◌++◌, ◌+◌, ◌-◌, List, ℕ, min, rules}
use Rattle.std.proofs.lemmas.Slice.{take-put_mid}
use lib.Seq.{length-take-le}
use Rattle.replay_log.proofs.Buffers.{min-fits, appended}
use Rattle.replay_log.proofs.append.Goals as goal

pub returns-clause-line_after : goal.returns-clause-line_after
returns-clause-line_after c =
    let line = c.args.line.now in
    let bytes = c.args.bytes.now in
    let n = c.min-n.result in
    let is : n ≡ min (length line - c.args.len) (length bytes) = search rules in
    let fits = min-fits (length line) c.args.len n (length bytes) c.requires is in
    let part = c.copy_from_slice.ensures.after in
    let size = ap length part ∙ length-take-le n bytes fits.1 in
    take-put_mid c.args.len _ line _ (c.args.len + n) (ap (λ (k : ℕ). c.args.len + k) (sym size)) c.requires
    ∙ ap (λ (xs : List ℕ). take c.args.len line ++ xs) part ∙ appended line c.args.len n bytes c.requires is
