-- One name that opens every rule of this layer and of those below it, for a claim that holds by computation.
use Rattle.arcs.proofs.Opened.{opened as arcs-opened}
use Rattle.centres.specs.Centres.{radius_holds, across, spare, signed_square, scaled_root, coordinate, centre_by}

unfoldable pub opened : Unit {0}
unfolding
    arcs-opened
    radius_holds
    across
    spare
    signed_square
    scaled_root
    coordinate
    centre_by
opened = tt
