-- `unobeyed::admit_store` meets its contract: the rows of every event on a CPU, then the one of a store. Assumes nothing.
use mathlib.Core.Path.{◌≡◌, sym, ◌∙◌}
use Rattle.machine_state.specs.declared.Answer.TheVariants.{Denied}
use Rattle.std.specs.Prelude.{Err}
use Rattle.std.proofs.Common.{rules}
use Rattle.unobeyed.specs.Admission.{Placed}
use Rattle.unobeyed.proofs.Laws.{not-admitted, store-refused, store-denied, store-allowed}
use Rattle.unobeyed.proofs.admit_store.Goals as goal

pub store_denied-requires : goal.store_denied-requires
store_denied-requires c = c.admit_on.ensures.in_table c.in_ok-admit_on.was

pub returns-then-store_denied : goal.returns-then-store_denied
returns-then-store_denied c value =
    record {
      follows = store-denied c.args.m.now _ _ value _ c.in_ok-admit_on.was c.admit_on.ensures.follows (sym c.store_denied.ensures.value ∙ c.if-store_denied.true);
      placed = λ q. not-admitted Denied q;
    }

pub returns-in_err-admit_on : goal.returns-in_err-admit_on
returns-in_err-admit_on c value =
    let is : c.from_residual.result ≡ Err c.in_err-admit_on.field-0.0 = search rules in
    record {
      follows = rw is (store-refused c.args.m.now _ _ value _ _ c.in_err-admit_on.was c.admit_on.ensures.follows);
      placed = λ q. not-admitted _ (sym is ∙ q);
    }

pub returns : goal.returns
unfolding Placed
returns c value =
    record {
      follows = store-allowed c.args.m.now _ _ value _ c.in_ok-admit_on.was c.admit_on.ensures.follows (sym c.store_denied.ensures.value ∙ c.if-store_denied.false);
      placed = λ q. (c.admit_on.ensures.in_table c.in_ok-admit_on.was, c.store_denied.ensures.in_table c.if-store_denied.false);
    }
