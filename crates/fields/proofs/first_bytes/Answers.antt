-- `fields::first_bytes` meets its contract: by whether so many bytes are there. Assumes nothing.
use lib.ListN.{get_or}
use Rattle.base.proofs.Chains.{made-at}
use Rattle.fields.proofs.Laws.{padded-at, padded-enough}
use Rattle.std.proofs.Common.{rules}
use Rattle.fields.proofs.first_bytes.Goals as goal

pub returns-in-Some : goal.returns-in-Some
returns-in-Some g c = padded-enough _ _ _ c.in-Some.ensures.cases.same c.in-Some.ensures.cases.enough

pub returns-in-None : goal.returns-in-None
returns-in-None g c =
    padded-at g.row.N _ c.from_fn.result c.from_fn.ensures.items.long
    (made-at (λ i. get_or c.args.s.now i 0) g.row.N 0 c.from_fn.result (λ i y q l h. search rules) c.from_fn.ensures.items)
