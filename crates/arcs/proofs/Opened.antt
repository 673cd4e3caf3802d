-- One name that opens every rule of this layer and of those below it, for a claim that holds by computation.
use Rattle.terms.proofs.Opened.{opened as terms-opened}
use Rattle.lengths.proofs.Opened.{opened as lengths-opened}
use Rattle.codes.proofs.Opened.{opened as codes-opened}
use Rattle.records.proofs.Opened.{opened as records-opened}
use Rattle.arcs.specs.{Root.next_root, Root.root_below, Turning.direction, Turning.cross, Turning.dot, Turning.left, Turning.on_left_way}
use Rattle.arcs.specs.Arcs.{distance², radius², round_enough, arc_holds, not_above, not_below, coordinate_inside, extreme_inside, extremes_inside, left_way, right_way, arc_stays, path_stays, centre_fits}

unfoldable pub opened : Unit {0}
unfolding
    terms-opened
    lengths-opened
    codes-opened
    records-opened
    distance²
    radius²
    round_enough
    arc_holds
    not_above
    not_below
    coordinate_inside
    extreme_inside
    extremes_inside
    left_way
    right_way
    arc_stays
    path_stays
    centre_fits
    next_root
    root_below
    direction
    cross
    dot
    left
    on_left_way
opened = tt
