-- Data sets on which the promises are tried.
use Rattle.terms.specs.Common.{ℕ, List}
use Rattle.terms.specs.Terms.{bytes}
use Rattle.lines.specs.Blocks.{Block}

-- two subprograms that are one number, which is written in two ways
abbrev pub two_subprograms : List ℕ
two_subprograms = bytes "%\nM30\nO1\nM99\nO0001\nM99\n"

abbrev pub first_one : Block
first_one = record { number = 3; start = 6; text = bytes "O1"; next = 9 }

abbrev pub second_one : Block
second_one = record { number = 5; start = 13; text = bytes "O0001"; next = 19 }

-- a subprogram with the main's number, and nothing in the data that calls it
abbrev pub main_again : List ℕ
main_again = bytes "%\nO7\nM30\nO20\nM99\nO007(x)\nM99\n"

abbrev pub main_opening : Block
main_opening = record { number = 2; start = 2; text = bytes "O7"; next = 5 }

abbrev pub other_opening : Block
other_opening = record { number = 4; start = 9; text = bytes "O20"; next = 13 }

abbrev pub main_number_again : Block
main_number_again = record { number = 6; start = 17; text = bytes "O007(x)"; next = 25 }

-- a comment, and the same data with all of the comment's bytes replaced, an opening parenthesis among them
abbrev pub commented : List ℕ
commented = bytes "%\nG00 X5.0 (to the edge) Y5.0\nM30\n"

abbrev pub commented_else : List ℕ
commented_else = bytes "%\nG00 X5.0 (M02\t%/(O1Z9) Y5.0\nM30\n"
