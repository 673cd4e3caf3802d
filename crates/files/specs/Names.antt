-- Which file a name stands for, and what becomes of it where a command wants to write there.
use Rattle.std.specs.Prelude.{◌/◌, ◌%◌, ◌≤◌, ◌≡◌, ◌&&◌, ◌||◌, if◌then◌else◌, Result, Ok, Err}
use Rattle.terms.specs.Common.{ℕ, Bool, false, pos, List, eqb}
use Rattle.files.specs.declared.{Named.Named, Fate.Fate, Filed.Filed, Unfound.Unfound, Unfound.TheVariants.Missing, Unfound.TheVariants.Failed}
use Rattle.files.specs.declared.Fate.TheVariants.{New, Old, Read, Link, Folder, Special, Locked, Unknown}

-- "device and inode": two answers that tell of one file
unfoldable pub same_found : Result Filed Unfound → Result Filed Unfound → Bool
same_found (Ok x) (Ok y) = eqb x.device y.device && eqb x.number y.number
same_found (Ok x) (Err why) = false
same_found (Err why) r = false

-- two names of one file, whatever they are
unfoldable pub same_file : Named → Named → Bool
same_file a b = same_found a.file b.file

-- "only a regular file" is replaced, kind 8; a folder is kind 4, and devices, pipes and sockets are the others
unfoldable pub kind_fate : ℕ → Bool → Fate
kind_fate kind locked =
    if eqb kind 8 then (if locked then Locked else Old)
    else (if eqb kind 4 then Folder
    else Special)

-- The kind is in the four bits of the mode above the twelve of its rights. What is not there is new, unless the system says no
-- more than that it cannot tell.
unfoldable pub found_fate : Result Filed Unfound → Bool → Fate
found_fate (Ok file) locked = kind_fate (file.mode / 4096 % 16) locked
found_fate (Err Missing) locked = New
found_fate (Err (Failed error)) locked = Unknown

unfoldable pub fate_of : Named → Named → Named → Fate
fate_of out first second =
    if same_file out first || same_file out second then Read
    else (if out.link then Link
    else found_fate out.file out.locked)

-- what the system said of a file, told of its name
unfoldable pub named_of : Result Filed Unfound → Bool → Bool → Named
named_of file link locked = record { file = file; link = link; locked = locked }

-- a name of 4,096 bytes and more, which the system is not asked about: error 36, and so it is not told to be missing
abbrev pub too_long : Named
too_long = record { file = Err (Failed (pos 36)); link = false; locked = false }

-- what is told of a name of so many bytes; what the system says of it is not modelled
pub record NamedBy (bytes : ℕ) (named : Named) : Type 0 where
  pub long : 4_096 ≤ bytes → named ≡ too_long

-- a name as the system is handed it, as text: all of its bytes
pub record Spelt (name text : List ℕ) : Type 0 where
  pub whole : text ≡ name
