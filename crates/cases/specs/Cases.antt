-- A case as it is written. Its first line begins with three words: the count of blocks to run, or no count, as `-1`, for the
-- whole run; the room for records; and the data's length in bytes. Its second line is the setup. Then come the data and a
-- line's end.
use Rattle.std.specs.Prelude.{Result, Ok, Err, ◌+◌, ◌-◌, ◌^◌, ◌&&◌, if◌then◌else◌}
use Rattle.terms.specs.Common.{ℕ, min, Bool, Option, None, Some, List, leb, length, take, drop}
use Rattle.terms.specs.Terms.{byte}
use Rattle.lines.specs.Blocks.{length_from, begins_with}
use Rattle.texts.specs.{Texts.next, Texts.word_at, Figures.digits_in}
use Rattle.setup.specs.declared.Setup.{Setup}
use Rattle.setups.specs.{declared.Misread.Misread, Setups.setup_in}
use Rattle.cases.specs.declared.{Counted.Counted, Case.Case}

-- the next word of a text as a count, and the place after it
unfoldable pub count_at : List ℕ → ℕ → Counted
count_at text at =
    let place = next text at in
    let word = word_at text place in
    record { count = digits_in word; next = place + length word }

-- a word that is no count is more than any room or data has
abbrev pub size_of : Option ℕ → ℕ
size_of (Some n) = n
size_of None = 2 ^ 64 - 1

-- the line that the bytes begin with, its end among it
abbrev pub line_from : List ℕ → List ℕ
line_from bytes = take (length_from bytes) bytes

-- where a setup was read, and what else a case asks for holds: the case
unfoldable pub case_with : Result Setup Misread → Bool → Option ℕ → ℕ → ℕ → ℕ → Option Case
case_with (Ok setup) sound blocks room from end =
    if sound then Some (record { setup = setup; blocks = blocks; room = room; from = from; end = end }) else None
case_with (Err misread) sound blocks room from end = None

-- The case that begins at a place, where one does: its setup is read, its room is not above `most`, and a line's end comes
-- after its data. The data end with the input where it has fewer bytes.
unfoldable pub case_at : List ℕ → ℕ → ℕ → Option Case
case_at input at most =
    let line = at + length_from (drop at input) in
    let from = line + length_from (drop line input) in
    let words = line_from (drop at input) in
    let blocks = count_at words 0 in
    let room = count_at words blocks.next in
    let size = count_at words room.next in
    let end = min (from + size_of size.count) (length input) in
    case_with (setup_in (line_from (drop line input))) (leb (size_of room.count) most && begins_with (byte "\n") (drop end input))
    blocks.count
    (size_of room.count)
    from
    end
