-- `pages::shares` meets its contract: the closure is the definition's test of a region. Assumes nothing.
use Rattle.std.proofs.Common.{◌&&◌, rules}
use Rattle.regions.specs.Regions.{shared}
use Rattle.rules.specs.Pages.{shares, has_phys}
use Rattle.pages.proofs.shares.Goals as goal

pub returns : goal.returns
unfolding shares
returns c = let page = c.args.page in c.has_region.ensures (λ r. has_phys page r && shared r) (λ r b k. search rules)
