-- `setup::skips` meets its contract: one test.
use Rattle.terms.proofs.Common.{◌∙◌}
use Rattle.setup.specs.Frame.{switch_on}
use Rattle.setup.proofs.skips.Goals as goal

pub returns : goal.returns
unfolding switch_on
returns c = c.below.ensures ∙ rw (c.zero.ensures.is, c.switch_of.ensures)
