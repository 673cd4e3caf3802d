-- The limits take each setup of the examples' table as the table says, by computation.
use Rattle.terms.proofs.Common.{◌≡◌, refl, map}
use Rattle.setup.specs.{Limits.valid_setup, Examples.rows}
use Rattle.setup.proofs.Opened.{opened}

pub examples_hold : map (λ row. valid_setup row.setup) rows ≡ map (λ row. row.valid) rows
unfolding opened
examples_hold = refl
