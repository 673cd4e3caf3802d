-- One name that opens every rule of this layer and of those below it, for a claim that holds by computation.
use Rattle.terms.proofs.Opened.{opened as terms-opened}
use Rattle.codes.proofs.Opened.{opened as codes-opened}
use Rattle.lengths.specs.{Units.halved, Units.fits_four, Units.word_of, Units.signed_of, Units.of_four, Points.moved, Points.moved_back, Points.at_height, Points.flat, Points.inside}

unfoldable pub opened : Unit {0}
unfolding
    terms-opened
    codes-opened
    halved
    fits_four
    word_of
    signed_of
    of_four
    moved
    moved_back
    at_height
    flat
    inside
opened = tt
