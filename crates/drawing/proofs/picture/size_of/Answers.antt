-- `drawing::picture::size_of` meets its contract: sums and differences by their contracts.
use Rattle.terms.proofs.Common.{arith}
use Rattle.drawing.specs.Picture.{size_of}
use Rattle.drawing.proofs.picture.size_of.Goals as goal

pub minus-requires-3 : goal.minus-requires-3
minus-requires-3 c =
    omega (arith, c.requires.low.z, c.requires.high.z)

pub plus-requires-2 : goal.plus-requires-2
plus-requires-2 c =
    omega (arith, c.minus-2.ensures.bal, c.minus-3.ensures.bal, c.requires.low.y, c.requires.high.y, c.requires.low.z, c.requires.high.z)

pub plus-requires-3 : goal.plus-requires-3
plus-requires-3 c =
    omega (arith, c.plus-2.ensures.bal, c.minus-2.ensures.bal, c.minus-3.ensures.bal, c.of_count-three.ensures.ups, c.of_count-three.ensures.downs, c.requires.gap, c.requires.low.y, c.requires.high.y, c.requires.low.z, c.requires.high.z)

pub returns : goal.returns
unfolding size_of
returns c =
    rw (c.plus-3.ensures.is, c.plus-2.ensures.is, c.minus-3.ensures.is, c.minus-2.ensures.is, c.plus.ensures.is, c.minus.ensures.is, c.of_count-three.ensures.is, c.of_count-two.ensures.is)
