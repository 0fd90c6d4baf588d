-- `cpu_table::change_cpus` meets its contract, by the loop's invariant: a member and then the rest are all. Assumes nothing.
use Rattle.std.proofs.Common.{◌<◌, ℕ, arith, sym, ap, ◌∙◌, length-set}
use Rattle.rules.specs.Effects.{change_cpus}
use Rattle.cpu_table.specs.CpuTable.{change_of}
use Rattle.cpu_table.proofs.Walk.{walk_none, walk_turn, walk-less}
use Rattle.cpu_table.proofs.change_cpus.Goals as goal

pub offset_bounds-cpus-k : goal.offset_bounds-cpus-k
offset_bounds-cpus-k c = let is = c.first_cpu.ensures.found _ c.in-Some.is in let inside : c.in-Some.k < 64 = is.0 in record { fits = omega (arith, inside) }

pub bounds-cpus-k : goal.bounds-cpus-k
bounds-cpus-k c = let is = c.first_cpu.ensures.found _ c.in-Some.is in is.0

pub offset_bounds-cpus-k-in-Some : goal.offset_bounds-cpus-k-in-Some
offset_bounds-cpus-k-in-Some c = let is = c.first_cpu.ensures.found _ c.in-Some.is in let inside : c.in-Some.k < 64 = is.0 in record { fits = omega (arith, inside) }

pub bounds-cpus-k-in-Some : goal.bounds-cpus-k-in-Some
bounds-cpus-k-in-Some c = let is = c.first_cpu.ensures.found _ c.in-Some.is in is.0

pub loop-k-smaller : goal.loop-k-smaller
loop-k-smaller c = let is = c.first_cpu.ensures.found _ c.in-Some.is in walk-less _ _ _ _ c.without-left.ensures c.single.ensures is.0 is.1

pub loop-k-preserved : goal.loop-k-preserved
loop-k-preserved c =
    let is = c.first_cpu.ensures.found _ c.in-Some.is in (
      length-set c.loop-k.cpus c.in-Some.k _ ∙ c.loop-k.invariant.0,
      walk_turn _ _ _ _ c.without-left.ensures c.single.ensures is.0 is.1 (change_of c.args.how) c.loop-k.cpus _ c.loop-k.invariant.0 c.change_cpu.ensures ∙ c.loop-k.invariant.1,
    )

pub returns : goal.returns
returns c =
    let change = change_of c.args.how in
    let empty = c.first_cpu.ensures.none c.in_default.is in
    sym (ap (λ (n : ℕ). change_cpus n change c.loop-k.cpus) empty ∙ walk_none change c.loop-k.cpus c.loop-k.invariant.0) ∙ c.loop-k.invariant.1
