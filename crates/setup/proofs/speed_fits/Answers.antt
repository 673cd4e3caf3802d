-- `setup::speed_fits` meets its contract: one test of three of the setup's numbers.
use Rattle.setup.proofs.speed_fits.Goals as goal

pub returns : goal.returns
returns c =
    rw (
      c.is_between.ensures,
      c.lowest_of.ensures,
      c.highest_of.ensures,
      c.speed_of.ensures,
    )
