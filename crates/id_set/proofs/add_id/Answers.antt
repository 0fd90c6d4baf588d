-- `id_set::add_id` meets its contract: the set operation, kept to 16 bits. Assumes nothing.
use mathlib.Core.Path.{ap, ◌∙◌}
use Prim.Native.Nat.{ℕ, ◌%◌, ◌^◌}
use Rattle.id_set.proofs.Ids.{added}
use Rattle.id_set.proofs.add_id.Goals as goal

pub returns : goal.returns
returns c = ap (λ (n : ℕ). n % 2 ^ 16) c.union.ensures ∙ added c.args.live_ids c.single.result c.args.id c.single.ensures
