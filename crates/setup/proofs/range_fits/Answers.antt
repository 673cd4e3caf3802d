-- `setup::range_fits` meets its contract: its three tests are the definition's, in order.
use Rattle.setup.proofs.range_fits.Goals as goal

pub returns : goal.returns
returns c =
    rw (
      c.is_between.ensures,
      c.is_between-2.ensures,
      c.at_most.ensures,
      c.of_count-one.ensures.is,
      c.of_count-most.ensures.is,
      c.lowest_of-lowest.ensures,
      c.highest_of-highest.ensures,
    )
