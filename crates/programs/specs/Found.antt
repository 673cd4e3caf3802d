-- What the scan of the openings answers, in the types of the code.
use Rattle.std.specs.Prelude.{Result, Ok, Err, ◌≤◌, ◌≡◌, ◌∷◌, ◌++◌}
use Rattle.terms.specs.Common.{ℕ, List, [], length, take}
use Rattle.refusals.specs.declared.Refused.{Refused}
use Rattle.words.specs.Numbers.{digits_after}
use Rattle.programs.specs.declared.{Program.Program, Digits.Digits, table.Programs.Programs}
use Rattle.programs.specs.Openings.{figures_of, Table, table, refused_at}

-- the digits of an opening that has no more of them than it may
pub record IsDigits (text : List ℕ) (d : Digits) : Type 0 where
  pub few : d.count ≤ 8
  pub count : length (figures_of text) ≡ d.count
  pub value : digits_after 0 (figures_of text) ≡ d.value

-- the subprograms that are in use
abbrev pub subs_of : Programs → List Program
subs_of t = take t.count t.subs

unfoldable pub table_of : Result Programs Refused → Table
table_of (Ok t) = table t.main (subs_of t)
table_of (Err r) = refused_at r.refusal r.place

-- the table with one subprogram more
pub record Entered (t : Programs) (p : Program) (r : Programs) : Type 0 where
  pub main : r.main ≡ t.main
  pub subs : subs_of r ≡ subs_of t ++ p ∷ []

-- the table with no subprogram yet
pub record Empty (p : Program) (r : Programs) : Type 0 where
  pub main : r.main ≡ p
  pub subs : subs_of r ≡ []
