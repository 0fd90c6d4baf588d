-- `cpu_table::all_failed` meets its contract: of each CPU's place the iterator asks what the definition does. Assumes nothing.
use Rattle.std.proofs.Common.{ℕ, ◌<◌, Bool, not, ◌||◌, eqb, length, ap, ◌∙◌, arith, rules, tests}
use Rattle.std.specs.Slice.Iter.{iter_rest}
use Rattle.std.proofs.lemmas.Iterator.{YieldsList-from_slice}
use Rattle.std.proofs.lemmas.Iterator.Consumers.{YieldsList-from_enumerate}
use Rattle.std.proofs.lemmas.Iterator.Search.{all_from_yields_List}
use Rattle.id_set.proofs.Laws.{all-alike}
use Rattle.base.specs.Lists.{all, up_to}
use Rattle.region_table.proofs.Laws.{all-placed}
use Rattle.cpu_set.specs.CpuSet.{member}
use Rattle.machine_state.specs.Machine.{cpu_in, past_cpu}
use Rattle.rules.specs.Effects.{all_failed}
use Rattle.cpu_table.proofs.Laws.{failed-at}
use Rattle.cpu_table.proofs.all_failed.Goals as goal

pub returns : goal.returns
unfolding all_failed
returns c =
    let cpus = c.args.cpus.now in
    all_from_yields_List (λ p. not (member p.0 c.args.set) || (eqb p.0 c.args.also || p.1.failed)) _ _ c.all.result c.all.ensures.ran
    (YieldsList-from_enumerate (YieldsList-from_slice cpus (ap iter_rest c.enumerate.ensures.source ∙ c.iter.ensures.rest)) c.enumerate.ensures.count)
    (λ i b q h. search (rules, tests))
    ∙ all-placed (λ p. not (member p.0 c.args.set) || (eqb p.0 c.args.also || p.1.failed)) past_cpu cpus
    ∙ ap (λ (n : ℕ). all (λ k. not (member k c.args.set) || (eqb k c.args.also || (cpu_in cpus k).failed)) (up_to n)) c.told-cpus
    ∙ all-alike _ _ 0 64
    (λ k l h.
    let inside : k < length cpus = omega (arith, c.told-cpus, h) in
    ap (λ (b : Bool). not (member k c.args.set) || b) (failed-at cpus c.args.also k inside))
