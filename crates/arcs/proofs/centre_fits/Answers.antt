-- `arcs::centre_fits` meets its contract.
use Rattle.arcs.proofs.centre_fits.Goals as goal

pub returns : goal.returns
returns c = rw (c.fits_four.ensures, c.fits_four-2.ensures, c.displaced_arc-moved.ensures)
