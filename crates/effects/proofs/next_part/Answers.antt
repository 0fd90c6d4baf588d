-- `effects::next_part` meets its contract: CPUs first, then the cell that is cut off, then the effect's own next part. Assumes nothing.
use Rattle.std.proofs.Common.{◌≡◌, ℕ, ◌≤◌, Option, Some, None, sym, subst, rules}
use Rattle.machine_state.specs.declared.CallKind.{CallKind}
use Rattle.machine_state.specs.Machine.{max_cells}
use Rattle.asking.specs.Moves.{Effect}
use Rattle.effects.specs.declared.Part.{Part}
use Rattle.effects.specs.Applying.{OneCell, SwitchedOff, EffectPart, Uncut, IsNext}
use Rattle.effects.proofs.next_part.Goals as goal
use Rattle.effects.proofs.next_part.Goals.{in-Some-cut+else-cell-lt-MAX_CELLS, in_default-cut}

-- the effect's next part, where it comes
comes-next : (cpus : ℕ) (cut : Option ℕ) (ids : ℕ) (e : Effect) (kind : CallKind) (id : ℕ) (p : Part) → cpus ≡ 0 → Uncut cut → e ≡ Some (kind, id)
    → EffectPart kind id ids p → IsNext cpus cut e ids (Some p)
unfolding IsNext EffectPart
comes-next cpus cut ids e kind id (Part.Cpu k) none uncut is n = absurd n
comes-next cpus cut ids e kind id (Part.CutOff cell) none uncut is n = absurd n
comes-next cpus cut ids e kind id (Part.Change change cell) none uncut is n = (none, uncut, subst (λ (x : Effect). OneCell x ids change cell) (sym is) n)
comes-next cpus cut ids e kind id Part.Off none uncut is n = (none, uncut, subst (λ (x : Effect). SwitchedOff x ids) (sym is) n)

pub returns-in-Some : goal.returns-in-Some
unfolding IsNext
returns-in-Some c = c.first_cpu.ensures.found _ c.in-Some.is

pub returns-then-cell-lt-MAX_CELLS : goal.returns-then-cell-lt-MAX_CELLS
unfolding IsNext
returns-then-cell-lt-MAX_CELLS c = search rules

-- a number past the table names no cell to be cut off
past-table : (cut : Option ℕ) (cell : ℕ) → cut ≡ Some cell → max_cells ≤ cell → Uncut cut
unfolding Uncut
past-table cut cell is past = subst Uncut (sym is) past

no-cell : (cut : Option ℕ) → cut ≡ None → Uncut cut
unfolding Uncut
no-cell cut is = subst Uncut (sym is) tt

pub returns-in_err-kind : goal.returns-in_err-kind
unfolding IsNext
returns-in_err-kind c =
    let uncut : Uncut c.args.cut = elim c.match-cut.branch [
      | in-Some-cut+else-cell-lt-MAX_CELLS w ↦ past-table c.args.cut _ w.in-Some-cut.is w.if-cell-lt-MAX_CELLS.false
      | in_default-cut w ↦ no-cell c.args.cut w.in_default-cut.is
    ] in
    subst (IsNext c.args.cpus c.args.cut c.args.effect c.args.live_ids) (sym c.from_residual.ensures) ((c.first_cpu.ensures.none c.in_default.is), uncut, c.in_err-kind.was)

pub returns : goal.returns
returns c =
    let uncut : Uncut c.args.cut = elim c.match-cut.branch [
      | in-Some-cut+else-cell-lt-MAX_CELLS w ↦ past-table c.args.cut _ w.in-Some-cut.is w.if-cell-lt-MAX_CELLS.false
      | in_default-cut w ↦ no-cell c.args.cut w.in_default-cut.is
    ] in
    comes-next _ _ _ _ _ _ _ (c.first_cpu.ensures.none c.in_default.is) uncut (c.in_ok-kind.was) c.effect_part.ensures
