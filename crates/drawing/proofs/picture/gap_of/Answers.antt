-- `drawing::picture::gap_of` meets its contract: three distances of at most 200,000,000.
use Rattle.terms.proofs.Common.{arith}
use Rattle.drawing.specs.Picture.{gap_of}
use Rattle.drawing.proofs.picture.gap_of.Goals as goal

pub returns : goal.returns
unfolding gap_of
returns c =
    (rw (c.apart.ensures.is, c.apart-2.ensures.is, c.apart-3.ensures.is), omega arith)
