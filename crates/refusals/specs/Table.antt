-- Document 01, "The sixteen refusals": its table, row by row.
use Rattle.std.specs.Prelude.{◌∷◌}
use Rattle.terms.specs.Common.{ℕ, String, List, []}
use Rattle.refusals.specs.declared.Refusal.{Refusal}
use Rattle.refusals.specs.declared.Refusal.TheVariants.{BadParameter, AddressUndefined, ParameterUndefined, CannotExecute, NumberNotFound, NestOver, TableOver, DuplicateNumber, LeavesTravel, NoRoom, FirstBlock, BadSetup, DataTooLong, NoEnd, Unreadable, CentreTooFar}

-- a case of the enum, its number, and what document 01 says it means
pub record Row : Type 0 where
  pub refusal : Refusal
  pub number : ℕ
  pub meaning : String

abbrev row : Refusal → ℕ → String → Row
row refusal number meaning = record { refusal = refusal; number = number; meaning = meaning }

abbrev pub rows : List Row
rows =
    row BadParameter 1 "Bad Parameter: value, form, radius, level order, program number"
    ∷ row AddressUndefined 2 "Address Undefined: a word that the block's code does not use"
    ∷ row ParameterUndefined 3 "Parameter Undefined: G04 or M98 without P; an arc with an end but no centre word"
    ∷ row CannotExecute 4 "Code Cannot Execute"
    ∷ row NumberNotFound 5 "Program Number Not Found"
    ∷ row NestOver 6 "Sub-Program Nest Over: a call from the fourth level"
    ∷ row TableOver 7 "Sub-Program Table Over: the eleventh"
    ∷ row DuplicateNumber 8 "Duplicate Sub-Program Number"
    ∷ row LeavesTravel 9 "Path leaves the travel"
    ∷ row NoRoom 10 "The block's records do not all fit the list"
    ∷ row FirstBlock 11 "First block is not `%` alone"
    ∷ row BadSetup 12 "Setup breaks a limit above"
    ∷ row DataTooLong 13 "Data too long"
    ∷ row NoEnd 14 "Program without its end"
    ∷ row Unreadable 15 "Unreadable byte or number"
    ∷ row CentreTooFar 16 "Arc centre does not fit four signed bytes" ∷ []
