-- `setup::switch_fits` meets its contract: one test.
use Rattle.terms.proofs.Common.{◌∙◌}
use Rattle.setup.specs.Limits.{switch_fits}
use Rattle.setup.proofs.switch_fits.Goals as goal

pub returns : goal.returns
unfolding switch_fits
returns c =
    c.is_between.ensures
    ∙ rw (c.zero.ensures.is, c.of_count.ensures.is, c.switch_of.ensures)
