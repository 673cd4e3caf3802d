-- The table of the sixteen refusals holds of the definition, row by row, by computation; every refusal has a row in it, at the
-- place of its number.
use Rattle.terms.proofs.Common.{ℕ, ◌-◌, ◌≤◌, ◌≡◌, refl, sym, ◌∙◌, ap, List, map, arith, lit≤, get_or}
use Rattle.refusals.specs.{Numbers.number_of, Table.rows, Answers.report_of}
use Rattle.refusals.specs.declared.{Answer.Answer, Answer.TheVariants.Done, Answer.TheVariants.Unfinished, Answer.TheVariants.Refused, Refusal.Refusal}
use Rattle.refusals.specs.declared.Refusal.TheVariants.{BadParameter, AddressUndefined, ParameterUndefined, CannotExecute, NumberNotFound, NestOver, TableOver, DuplicateNumber, LeavesTravel, NoRoom, FirstBlock, BadSetup, DataTooLong, NoEnd, Unreadable, CentreTooFar}

pub table_holds : map (λ row. number_of row.refusal) rows ≡ map (λ row. row.number) rows
table_holds = refl

abbrev in_order : List Refusal
in_order = map (λ row. row.refusal) rows

-- the row of a refusal
record InTable (r : Refusal) : Type 0 where
  least : 1 ≤ number_of r
  most : number_of r ≤ 16
  back : get_or in_order (number_of r - 1) BadParameter ≡ r

row : (r : Refusal) → InTable r
row BadParameter = record { least = lit≤ tt; most = lit≤ tt; back = refl }
row AddressUndefined = record { least = lit≤ tt; most = lit≤ tt; back = refl }
row ParameterUndefined = record { least = lit≤ tt; most = lit≤ tt; back = refl }
row CannotExecute = record { least = lit≤ tt; most = lit≤ tt; back = refl }
row NumberNotFound = record { least = lit≤ tt; most = lit≤ tt; back = refl }
row NestOver = record { least = lit≤ tt; most = lit≤ tt; back = refl }
row TableOver = record { least = lit≤ tt; most = lit≤ tt; back = refl }
row DuplicateNumber = record { least = lit≤ tt; most = lit≤ tt; back = refl }
row LeavesTravel = record { least = lit≤ tt; most = lit≤ tt; back = refl }
row NoRoom = record { least = lit≤ tt; most = lit≤ tt; back = refl }
row FirstBlock = record { least = lit≤ tt; most = lit≤ tt; back = refl }
row BadSetup = record { least = lit≤ tt; most = lit≤ tt; back = refl }
row DataTooLong = record { least = lit≤ tt; most = lit≤ tt; back = refl }
row NoEnd = record { least = lit≤ tt; most = lit≤ tt; back = refl }
row Unreadable = record { least = lit≤ tt; most = lit≤ tt; back = refl }
row CentreTooFar = record { least = lit≤ tt; most = lit≤ tt; back = refl }

pub one_to_sixteen : (r : Refusal) → (1 ≤ number_of r) × (number_of r ≤ 16)
one_to_sixteen r = ((row r).least, (row r).most)

pub numbered_apart : (r s : Refusal) → number_of r ≡ number_of s → r ≡ s
numbered_apart r s e = sym (row r).back ∙ ap (λ (n : ℕ). get_or in_order (n - 1) BadParameter) e ∙ (row s).back

-- so that a report leaves nothing out: answers of one report are the same
pub reported_apart : (a b : Answer) → report_of a ≡ report_of b → a ≡ b
reported_apart (Done n) (Done m) e = let same : n ≡ m = cc in ap Done same
reported_apart (Done n) (Unfinished m) e = let z : ◌≡◌ {A = ℕ} 0 1 = cc in absurd (omega arith)
reported_apart (Done n) (Refused s q m) e = let z : ◌≡◌ {A = ℕ} 0 1 = cc in absurd (omega arith)
reported_apart (Unfinished n) (Done m) e = let z : ◌≡◌ {A = ℕ} 0 1 = cc in absurd (omega arith)
reported_apart (Unfinished n) (Unfinished m) e = let same : n ≡ m = cc in ap Unfinished same
reported_apart (Unfinished n) (Refused s q m) e = let z : ◌≡◌ {A = ℕ} 0 1 = cc in absurd (omega arith)
reported_apart (Refused r p n) (Done m) e = let z : ◌≡◌ {A = ℕ} 0 1 = cc in absurd (omega arith)
reported_apart (Refused r p n) (Unfinished m) e = let z : ◌≡◌ {A = ℕ} 0 1 = cc in absurd (omega arith)
reported_apart (Refused r p n) (Refused s q m) e =
    let number : number_of r ≡ number_of s = cc in
    let place : p ≡ q = cc in
    let count : n ≡ m = cc in
    rw (numbered_apart r s number, place, count)
