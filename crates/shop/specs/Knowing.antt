-- What a setup file's text is worth to a command, and the line of a place in it.
use Rattle.std.specs.Prelude.{Result, Ok, Err, ◌+◌}
use Rattle.terms.specs.Common.{ℕ, Bool, true, false, Option, None, Some, List, take}
use Rattle.lines.specs.Blocks.{is_lf}
use Rattle.words.specs.Numbers.{count}
use Rattle.setup.specs.declared.Setup.{Setup}
use Rattle.setups.specs.declared.Misread.{Misread}

-- the setup that was read, there just where all of the text was there and nothing is wrong with it
unfoldable pub known_by : Bool → Result Setup Misread → Option Setup
known_by true (Ok setup) = Some setup
known_by true (Err misread) = None
known_by false read = None

-- the number of the line that a place lies in: 1, and one more for each LF before the place
unfoldable pub line_of : List ℕ → ℕ → ℕ
line_of text at = 1 + count is_lf (take at text)
