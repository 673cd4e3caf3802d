-- `lengths::points::is_inside` meets its contract: its six tests are the definition's.
use Rattle.lengths.specs.Points.{inside}
use Rattle.lengths.proofs.points.is_inside.Goals as goal

pub returns : goal.returns
unfolding inside
returns c =
    rw (
      c.at_most.ensures,
      c.at_most-2.ensures,
      c.at_most-3.ensures,
      c.at_most-4.ensures,
      c.at_most-5.ensures,
      c.at_most-6.ensures,
    )
