-- The table of "Numbers to try" holds of the rules, row by row, by computation.
use Rattle.terms.proofs.Common.{◌≡◌, refl, map}
use Rattle.blocks.specs.Examples.{rows, state_after, values_in, result_by, result_of}
use Rattle.blocks.proofs.Opened.{opened}

pub table_holds : map result_of rows ≡ map (λ row. row.gives) rows
unfolding opened state_after values_in result_by result_of
table_holds = refl
