-- The words of a run after `run SETUP DATA`, as the help tells them: "[LIST] [--blocks N] [--room R] [--partial]". "N: only
-- the first N blocks; R: at most R bytes of records, 1048576 where it is not given". Each option may be given once, in any
-- order.
use Rattle.std.specs.Prelude.{◌+◌, ◌&&◌, if◌then◌else◌, is_some, unwrap_or, option_and_then}
use Rattle.terms.specs.Common.{ℕ, Bool, true, false, not, Option, None, Some, List, leb, ltb, take}
use Rattle.terms.specs.Terms.{bytes}
use Rattle.texts.specs.{Texts.same_bytes, Figures.digits_in}
use Rattle.commands.specs.{Words.word_of, declared.options.Options.Options}

-- where none is given: all blocks, the largest room, and nothing of a refused run; words from the number k on may be options
abbrev pub no_options : Bool → ℕ → Options
no_options listed k = record { listed = listed; blocks = None; room = None; partial = false; next = k }

-- how many bytes the records may take
abbrev pub room_of : Options → ℕ
room_of o = unwrap_or o.room 1048576

-- `--blocks N`, where it was not given before; N is a number of 1 to 19 digits
unfoldable pub with_blocks : Options → Option ℕ → Option Options
with_blocks o (Some n) =
    if is_some o.blocks then None
    else Some (record { listed = o.listed; blocks = Some n; room = o.room; partial = o.partial; next = o.next + 2 })
with_blocks o None = None

-- `--room R`, where it was not given before
unfoldable pub with_room : Options → Option ℕ → Option Options
with_room o (Some n) =
    if not (is_some o.room) && leb n 1048576
    then Some (record { listed = o.listed; blocks = o.blocks; room = Some n; partial = o.partial; next = o.next + 2 })
    else None
with_room o None = None

-- `--partial`, where it was not given before
unfoldable pub with_partial : Options → Option Options
with_partial o =
    if o.partial then None
    else Some (record { listed = o.listed; blocks = o.blocks; room = o.room; partial = true; next = o.next + 1 })

-- the option of a name, and the word after it
unfoldable pub with_option : List ℕ → List ℕ → Options → Option Options
with_option name number o =
    if same_bytes name (bytes "--blocks") then with_blocks o (digits_in number)
    else (if same_bytes name (bytes "--room") then with_room o (digits_in number)
    else (if same_bytes name (bytes "--partial") then with_partial o
    else None))

-- the next option, where a word is left
unfoldable pub with_next : List ℕ → ℕ → Options → Option Options
with_next line count o =
    if ltb o.next count then with_option (word_of o.next line) (word_of (o.next + 1) line) o else Some o

-- there are three options, so that no word may be left after the third
unfoldable pub with_no_more : ℕ → Options → Option Options
with_no_more count o = if ltb o.next count then None else Some o

-- LIST is the fourth word, unless an option stands there
unfoldable pub is_listed : List ℕ → ℕ → Bool
is_listed line count = ltb 3 count && not (same_bytes (take 2 (word_of 3 line)) (bytes "--"))

unfoldable pub first_options : Bool → Options
first_options listed = if listed then no_options true 4 else no_options false 3

-- the options of a command of so many words, or none where something is wrong
unfoldable pub options_of : List ℕ → ℕ → Option Options
options_of line count =
    let next = option_and_then (with_next line count) in
    option_and_then (with_no_more count) (next (next (next (Some (first_options (is_listed line count))))))
