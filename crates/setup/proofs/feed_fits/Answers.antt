-- `setup::feed_fits` meets its contract: one test.
use Rattle.terms.proofs.Common.{◌∙◌}
use Rattle.setup.specs.Limits.{feed_fits}
use Rattle.setup.proofs.feed_fits.Goals as goal

pub returns : goal.returns
unfolding feed_fits
returns c =
    c.is_between.ensures
    ∙ rw (c.of_count.ensures.is, c.of_count-2.ensures.is, c.feed_of.ensures)
