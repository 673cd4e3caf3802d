-- The rules give the examples' tables, by computation.
use Rattle.terms.proofs.Common.{◌≡◌, refl, map}
use Rattle.programs.specs.Examples.{rows, table_from, table_of_row}
use Rattle.programs.proofs.Opened.{opened}

pub examples_hold : map table_of_row rows ≡ map (λ row. row.table) rows
unfolding opened table_of_row table_from
examples_hold = refl
