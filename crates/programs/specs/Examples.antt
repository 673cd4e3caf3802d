-- Data sets with their openings, and what the rules make of them. The worst fault of the old box is among them: two
-- subprograms that are one number.
use Rattle.std.specs.Prelude.{◌∷◌}
use Rattle.terms.specs.Common.{ℕ, String, List, []}
use Rattle.terms.specs.Terms.{bytes}
use Rattle.refusals.specs.declared.Refusal.{Refusal, TheVariants.BadParameter, TheVariants.DuplicateNumber, TheVariants.FirstBlock}
use Rattle.lines.specs.Blocks.{Block, blocks_of}
use Rattle.programs.specs.{Openings.Table, Openings.table, Openings.refused_at, Openings.programs_from, declared.Program.Program}

pub record Row : Type 0 where
  pub text : String
  pub table : Table

unfoldable pub table_from : List Block → Table
table_from [] = refused_at FirstBlock (record { block = 1; byte = 0 })
table_from (b ∷ bs) = programs_from b bs

unfoldable pub table_of_row : Row → Table
table_of_row row = table_from (blocks_of (bytes row.text))

abbrev program : ℕ → ℕ → ℕ → Program
program number block byte = record { number = number; block = block; byte = byte }

abbrev refuses : Refusal → ℕ → ℕ → Table
refuses refusal block byte = refused_at refusal (record { block = block; byte = byte })

abbrev pub rows : List Row
rows =
    -- two subprograms of one number, and a subprogram of the main's
    record { text = "%\nM30\nO1\nM99\nO0001\nM99\n"; table = refuses DuplicateNumber 5 13 }
    ∷ record { text = "%\nO1\nM30\nO00001 (x)\nM99\n"; table = refuses DuplicateNumber 4 9 }
    -- the main program under an opening in the second block, and without one
    ∷ record { text = "%\nO7\nM30\nO20\nM99\n"; table = table (program 7 3 5) (program 20 5 13 ∷ []) }
    ∷ record { text = "%\r\n\r\nO1\r\nM30"; table = table (program 0 2 3) (program 1 4 9 ∷ []) }
    -- the order per opening, and what stands after the closing percent
    ∷ record { text = "%\nM30\nO2\nM99\nO2\nM99\nO0\nM99\n"; table = refuses DuplicateNumber 5 13 }
    ∷ record { text = "%\nM30\n%\nO1 G00\n"; table = table (program 0 2 2) [] }
    ∷ record { text = "%\nO1 G00\nM30\n"; table = refuses BadParameter 2 2 } ∷ []
