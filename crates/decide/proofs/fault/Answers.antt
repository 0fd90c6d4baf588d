-- `decide::fault` meets its contract: the cell fails with its CPU, or nothing more happens. Assumes nothing.
use mathlib.Core.Path.{◌≡◌, sym, ◌∙◌}
use native.Mathlib.Omega.{arith}
use lib.ListN.{length}
use Rattle.decide.proofs.Laws.{settles-at, faults, fails-cell}
use Rattle.decide.proofs.fault.Goals as goal

pub returns-then-cell_fails : goal.returns-then-cell_fails
returns-then-cell_fails c =
    let size : length c.args.m.now.comms ≡ 16 = omega arith in
    λ new. settles-at c.uncut.ensures (fails-cell c.args.m.now new _ c.requires size (sym c.cell_fails.ensures ∙ c.if-cell_fails.true))

pub returns : goal.returns
returns c =
    let size : length c.args.m.now.comms ≡ 16 = omega arith in
    λ new. settles-at c.uncut-2.ensures (faults c.args.m.now new _ c.requires size _ (sym c.cell_fails.ensures ∙ c.if-cell_fails.false) c.stay.ensures)
