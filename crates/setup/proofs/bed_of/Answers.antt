-- `setup::bed_of` meets its contract: each part by its own function.
use Rattle.setup.specs.Frame.{offset, bed_of}
use Rattle.setup.proofs.bed_of.Goals as goal

pub returns : goal.returns
unfolding bed_of offset
returns c =
    rw (
      c.point_of.ensures,
      c.travel_of.ensures,
      c.origins_of-origins.ensures,
      c.lowest_of.ensures,
      c.highest_of.ensures,
    )
