-- `id_set::free_id` meets its contract: root's ID aside, the IDs below 16 that are not in the set are the complement's. Assumes nothing.
use mathlib.Core.Bool.{Bool, false, not, ◌||◌}
use mathlib.Core.Path.{◌≡◌, sym, ap, ◌∙◌}
use Prim.Native.Nat.{ℕ, ◌-◌, ◌^◌, ◌<◌, ◌≤◌}
use native.Mathlib.Omega.{arith}
use lib.Bits.{bit_or}
use borrow.Author.Tests.{ne_eqb}
use Rattle.base.specs.Lists.{from, up_to}
use Rattle.machine_state.specs.Machine.{max_cells}
use Rattle.rules.specs.State.{has_id, first, some_id, cell_ids}
use Rattle.rules.specs.Create.{free_id}
use Rattle.id_set.proofs.Ids.{has-bit, free-bit}
use Rattle.id_set.proofs.Laws.{first-alike}
use Rattle.id_set.proofs.free_id.Goals as goal

module _ (ids : ℕ) (fits : ids < 2 ^ 16) where
  abbrev unused : ℕ
  unused = (2 ^ 16 - 1) - bit_or ids 1

  free : (k : ℕ) → 1 ≤ k → k < 16 → has_id unused k ≡ not (has_id ids k)
  free k l h = has-bit unused k h ∙ free-bit ids k fits h ∙ ap (λ (b : Bool). not (b || has_id ids k)) (ne_eqb k 0 (λ e. omega arith))

  not_root : has_id unused 0 ≡ false
  not_root = has-bit unused 0 (omega arith) ∙ free-bit ids 0 fits (omega arith)

  found : first (has_id unused) (up_to max_cells) ≡ first (λ id. not (has_id ids id)) cell_ids
  unfolding first from
  found = rw (not_root, first) (first-alike (has_id unused) (λ id. not (has_id ids id)) 1 15 (λ k l h. free k l (omega arith)))

pub returns : goal.returns
unfolding free_id
returns c = λ m e. c.lowest.ensures.is ∙ ap some_id (found c.args.live_ids c.ranges.live_ids.fits ∙ ap (λ (ids : ℕ). first (λ id. not (has_id ids id)) cell_ids) (sym e))
