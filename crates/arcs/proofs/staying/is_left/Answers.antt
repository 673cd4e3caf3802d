-- `arcs::staying::is_left` meets its contract.
use Rattle.arcs.specs.Turning.{left, cross}
use Rattle.arcs.proofs.staying.is_left.Goals as goal

pub returns : goal.returns
unfolding left cross
returns c =
    rw (
      c.below.ensures,
      c.zero.ensures.is,
      c.minus-turn.ensures.is,
      c.times-2.ensures.is,
      c.times.ensures.is,
    )
