-- `svg::quarters::is_drawable` meets its contract: its six tests.
use Rattle.svg.specs.Turns.{drawable}
use Rattle.svg.proofs.quarters.is_drawable.Goals as goal

pub returns : goal.returns
unfolding drawable
returns c =
    rw (c.is_near.ensures, c.is_near-2.ensures, c.is_near-3.ensures, c.is_near-4.ensures, c.fits_four.ensures, c.fits_four-2.ensures, c.in_plane-start.ensures, c.in_plane-last.ensures)
