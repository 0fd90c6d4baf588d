-- `pages::owns` meets its contract: the closure is the definition's test of a region. Assumes nothing.
use Rattle.std.proofs.Common.{not, ◌&&◌, rules}
use Rattle.regions.specs.Regions.{comm, shared}
use Rattle.rules.specs.Pages.{owns, has_phys}
use Rattle.pages.proofs.owns.Goals as goal

pub returns : goal.returns
unfolding owns
returns c = let page = c.args.page in c.has_region.ensures (λ r. has_phys page r && not (shared r) && not (comm r)) (λ r b k. search rules)
