-- The rules give the examples' centres, and none where the radius is refused, by computation.
use Rattle.terms.proofs.Common.{◌≡◌, refl, map}
use Rattle.centres.specs.Examples.{rows, centre_of_row}
use Rattle.centres.proofs.Opened.{opened}

pub examples_hold : map centre_of_row rows ≡ map (λ row. row.centre) rows
unfolding opened centre_of_row
examples_hold = refl
