-- One name that opens every rule of this layer and of those below it, for a claim that holds by computation.
use Rattle.terms.proofs.Opened.{opened as terms-opened}
use Rattle.lengths.proofs.Opened.{opened as lengths-opened}
use Rattle.codes.proofs.Opened.{opened as codes-opened}
use Rattle.setup.specs.Frame.{offset, start_of, travel_of, bed_of, origin_at, switch_on}
use Rattle.setup.specs.Limits.{axis_fits, travel_fits, axes_within, offsets_fit, feed_fits, speeds_fit, switch_fits, valid_setup}

unfoldable pub opened : Unit {0}
unfolding
    terms-opened
    lengths-opened
    codes-opened
    offset
    start_of
    travel_of
    bed_of
    origin_at
    switch_on
    axis_fits
    travel_fits
    axes_within
    offsets_fit
    feed_fits
    speeds_fit
    switch_fits
    valid_setup
opened = tt
