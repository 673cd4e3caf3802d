-- What the code of a block answers and leaves in the list, by the verdict of the rules.
use Rattle.std.specs.Prelude.{◌+◌, ◌≡◌, Result, Ok, Err}
use Rattle.terms.specs.Common.{ℕ, List, [], length, sets}
use Rattle.refusals.specs.declared.Blame.{Blame}
use Rattle.lengths.specs.declared.Point.{Point}
use Rattle.records.specs.{declared.Record.Record, Layout.room_of, Writing.moved_bytes}
use Rattle.blocks.specs.{Exec.Verdict, Exec.refused, Exec.accepted, declared.Done.Done}

unfoldable pub made_of : Verdict → List Record
made_of (refused blame) = []
made_of (accepted s control made) = made

-- the answer, the refusal with what is to blame or the acceptance, where the records go to the place `at` of the list and the next block begins at the byte `after`
unfoldable pub executed : ℕ → ℕ → Verdict → Result Done Blame
executed at after (refused blame) = Err blame
executed at after (accepted s control made) =
    Ok (record { state = s; control = control; next = at + room_of made; count = length made; after = after })

-- a refused block leaves the list as it was, and an accepted one leaves its records at the place and all else as it was
pub record Does (offset : Point) (v : Verdict) (was : List ℕ) (at after : ℕ) (is : List ℕ) (r : Result Done Blame) : Type 0 where
  pub answer : r ≡ executed at after v
  pub bytes : is ≡ sets was at (moved_bytes offset (made_of v))
