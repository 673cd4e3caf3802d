-- `arcs::staying::is_ahead` meets its contract.
use Rattle.arcs.specs.Turning.{dot}
use Rattle.arcs.proofs.staying.is_ahead.Goals as goal

pub returns : goal.returns
unfolding dot
returns c =
    rw (
      c.below.ensures,
      c.zero.ensures.is,
      c.plus-along.ensures.is,
      c.times-2.ensures.is,
      c.times.ensures.is,
    )
