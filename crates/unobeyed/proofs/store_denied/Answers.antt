-- `unobeyed::store_denied` meets its contract: past the table's end no words are mapped. Assumes nothing.
use mathlib.Core.Path.{◌≡◌, ap}
use mathlib.Core.Bool.{Bool, true, not, ◌||◌, ◌&&◌}
use native.Mathlib.Omega.{arith}
use lib.Dec.{eqb, ltb}
use lib.ListN.{length}
use Rattle.base.proofs.Tests.{fails}
use Rattle.rules.specs.State.{cpu_at, comm_at}
use Rattle.rules.specs.Unobeyed.{store_denied}
use Rattle.unobeyed.proofs.Laws.{past-denied}
use Rattle.unobeyed.proofs.store_denied.Goals as goal

pub returns-then-cell-ge-MAX_CELLS : goal.returns-then-cell-ge-MAX_CELLS
returns-then-cell-ge-MAX_CELLS c =
    let size : length c.args.m.now.comms ≡ 16 = omega arith in
    record {
      value = past-denied c.args.m.now _ _ size c.if-cell-ge-MAX_CELLS.true;
      in_table = λ q. absurd (fails {b = true} q tt);
    }

pub returns : goal.returns
unfolding store_denied
returns c =
    let cell = (cpu_at c.args.m.now c.args.cpu).cell in
    record {
      value = ap (λ (b : Bool). eqb cell 0 || not (comm_at c.args.m.now cell).mapped || ltb 2 c.args.word || eqb c.args.word 2 && b) c.is_final.ensures;
      in_table = λ q. c.if-cell-ge-MAX_CELLS.false;
    }
