-- A setup file. Its words are 35 numbers in the order of the setup, and nothing else; or the same with a name before the
-- first number of each group. A file is named where its first word begins with a small letter, and then every name stands.
use Rattle.std.specs.Prelude.{Result, Ok, Err, ◌+◌, ◌-◌, ◌/◌, ◌%◌, ◌∷◌, ◌++◌, if◌then◌else◌}
use Rattle.terms.specs.Common.{ℕ, String, Bool, true, false, Option, None, Some, List, [], map, leb, eqb, ℤ, pos, length, get_or}
use Rattle.terms.specs.Terms.{bytes}
use Rattle.lengths.specs.{declared.Len.Len, Units.len}
use Rattle.setup.specs.declared.{Axes.Axes, Setup.Setup}
use Rattle.texts.specs.{Texts.next, Texts.word_at, Texts.same_bytes, Texts.is_lettered, Figures.worth_of, declared.Wrong.Wrong}
use Rattle.texts.specs.declared.Wrong.TheVariants.{OtherName, TooFew, TooMuch}
use Rattle.setups.specs.declared.{Entry.Entry, Misread.Misread}

-- ---- the order of the numbers

-- the name of a group of three stands before its first number
abbrev three : String → List (List ℕ)
three name = bytes name ∷ [] ∷ [] ∷ []

-- the name before each of the 35 numbers, or none
abbrev pub names : List (List ℕ)
names =
    three "low" ++ three "high" ++ three "start" ++ three "exofs"
    ++ three "g54" ++ three "g55" ++ three "g56" ++ three "g57" ++ three "g58" ++ three "g59"
    ++ bytes "feed" ∷ bytes "lowest" ∷ bytes "highest" ∷ bytes "speed" ∷ bytes "switch" ∷ []

-- which of the fifteen names stands before a number, where one does
unfoldable pub name_of : ℕ → Option ℕ
name_of k = if leb 30 k then Some (k - 20) else (if eqb (k % 3) 0 then Some (k / 3) else None)

abbrev pub plan : Bool → List (List ℕ)
plan true = names
plan false = map (λ name. []) names

-- whether the file's first word is a name
unfoldable pub is_named : List ℕ → Bool
is_named text = is_lettered (word_at text (next text 0))

-- ---- a number, and the name before it

abbrev pub misread : Wrong → ℕ → Misread
misread wrong place = record { wrong = wrong; at = place }

-- what is wrong with a word, or that there is none
unfoldable pub wrong_in : Wrong → List ℕ → Wrong
wrong_in wrong [] = TooFew
wrong_in wrong (b ∷ bs) = wrong

-- the place after the name, where one is expected
unfoldable pub name_at : List ℕ → List ℕ → ℕ → Result ℕ Misread
name_at [] text at = Ok at
name_at (c ∷ cs) text at =
    let place = next text at in
    let word = word_at text place in
    if same_bytes word (c ∷ cs) then Ok (place + length word) else Err (misread (wrong_in OtherName word) place)

unfoldable pub placed : ℕ → List ℕ → Result Len Wrong → Result Entry Misread
placed place word (Ok z) = Ok (record { value = z; after = place + length word })
placed place word (Err wrong) = Err (misread (wrong_in wrong word) place)

-- the next number, and the place after it
unfoldable pub number_at : List ℕ → ℕ → Result Entry Misread
number_at text at = let place = next text at in placed place (word_at text place) (worth_of (word_at text place))

unfoldable pub number_by : List ℕ → Result ℕ Misread → Result Entry Misread
number_by text (Ok at) = number_at text at
number_by text (Err misread) = Err misread

abbrev pub entry_at : List ℕ → List ℕ → ℕ → Result Entry Misread
entry_at name text at = number_by text (name_at name text at)

-- ---- all of them

-- the numbers of a file, or what is wrong with it and where
abbrev pub Numbers : Type 0
Numbers = Result (List Len) Misread

unfoldable pub prepend : List Len → Numbers → Numbers
prepend zs (Ok more) = Ok (zs ++ more)
prepend zs (Err misread) = Err misread

unfoldable pub entry_then : Result Entry Misread → (ℕ → Numbers) → Numbers
entry_then (Ok entry) rest = prepend (entry.value ∷ []) (rest entry.after)
entry_then (Err misread) rest = Err misread

-- nothing stands after the last number
unfoldable pub ended : List ℕ → ℕ → List Len → Numbers
ended text at zs = if leb (length text) (next text at) then Ok zs else Err (misread TooMuch (next text at))

-- a number for each place of the plan, and no more
unfoldable pub numbers_from : List (List ℕ) → List ℕ → ℕ → Numbers
numbers_from [] text at = ended text at []
numbers_from (name ∷ left) text at = entry_then (entry_at name text at) (numbers_from left text)

-- ---- the setup

abbrev pub figure_at : List Len → ℕ → ℤ
figure_at zs k = (get_or zs k (len (pos 0))).v

unfoldable pub axes_of : List Len → ℕ → Axes
axes_of zs k = record { x = figure_at zs k; y = figure_at zs (k + 1); z = figure_at zs (k + 2) }

-- 35 numbers as a setup; one that is missing is 0
unfoldable pub setup_of : List Len → Setup
setup_of zs =
    record {
      low = axes_of zs 0;
      high = axes_of zs 3;
      start = axes_of zs 6;
      exofs = axes_of zs 9;
      origins = axes_of zs 12 ∷ axes_of zs 15 ∷ axes_of zs 18 ∷ axes_of zs 21 ∷ axes_of zs 24 ∷ axes_of zs 27 ∷ [];
      feed = figure_at zs 30;
      lowest = figure_at zs 31;
      highest = figure_at zs 32;
      speed = figure_at zs 33;
      skip = figure_at zs 34;
    }

unfoldable pub answered : Numbers → Result Setup Misread
answered (Ok zs) = Ok (setup_of zs)
answered (Err misread) = Err misread

unfoldable pub setup_in : List ℕ → Result Setup Misread
setup_in text = answered (numbers_from (plan (is_named text)) text 0)
