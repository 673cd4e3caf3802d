-- The openings of the data, and two of them with one number: the worst fault of the old box, that it ran one of two
-- subprograms of one number.
use Rattle.std.specs.Prelude.{◌+◌, ◌≤◌, ◌≡◌, ◌&&◌, ◌∷◌, ◌++◌, if◌then◌else◌}
use Rattle.terms.specs.Common.{ℕ, Bool, true, false, Some, not, List, [], map, eqb, length, drop}
use Rattle.terms.specs.Terms.{any}
use Rattle.refusals.specs.{declared.Place.Place, Answers.refused_with, Answers.report_of}
use Rattle.lines.specs.Blocks.{Block, blocks_of, closes, opens}
use Rattle.programs.specs.{Openings.opening_of, Openings.place_of, Openings.most}
use Rattle.setup.specs.declared.Setup.{Setup}
use Rattle.runs.specs.{Walk.nowhere, Run.answer_of, Run.records_of, declared.Budget.Budget}

-- A block in front of openings: "A later `%` alone ends the data; nothing after it is read.", and an opening is one more.
unfoldable pub with_block : Bool → Bool → Block → List Block → List Block
with_block true isOpening b os = []
with_block false true b os = b ∷ os
with_block false false b os = os

-- the openings among blocks, up to the closing `%`
unfoldable pub openings_in : List Block → List Block
openings_in [] = []
openings_in (b ∷ bs) = with_block (closes b) (opens b) b (openings_in bs)

-- the openings of the data, which come after its first block; the main's is among them
unfoldable pub openings_of : List ℕ → List Block
openings_of bytes = openings_in (drop 1 (blocks_of bytes))

-- "The first block is `%` alone."
unfoldable pub percent_begins : List Block → Bool
percent_begins [] = false
percent_begins (b ∷ bs) = closes b

-- "under the first `O` where that is the second block, are the main program": the second block opens the main program
unfoldable pub main_opens : List Block → Bool
main_opens [] = false
main_opens (b ∷ []) = false
main_opens (b ∷ c ∷ bs) = opens c

-- "All others are subprograms, ten at most.": so many openings may stand, the main's beside ten subprograms
unfoldable pub most_openings : Bool → ℕ
most_openings ofMain = if ofMain then most + 1 else most

-- Among openings, the last of which is b, b has the number of one before it. "Numbers compare by value": however they are
-- written.
pub record Twice (os : List Block) (b : Block) : Type 0 where
  pub before : List Block
  pub first : Block
  pub between : List Block
  pub number : ℕ
  pub are : os ≡ before ++ first ∷ between ++ b ∷ []
  pub one : opening_of first ≡ Some number
  pub other : opening_of b ≡ Some number

-- the openings before the second of the two
abbrev pub earlier : {os : List Block} {b : Block} → Twice os b → List Block
earlier t = t.before ++ t.first ∷ t.between

-- A refusal that comes before any block is executed, by its number: "13, 12, 11; then per opening 1, 8, 7", of one of the
-- openings given. "12, 13: block 0, byte 0. 11: block 1, byte 0."
pub data Early (os : List Block) : ℕ → Place → Type 0 where
  too_long : Early os 13 nowhere
  bad_setup : Early os 12 nowhere
  first_block : Early os 11 (record { block = 1; byte = 0 })
  opening :
      {number : ℕ} (before : List Block) (b : Block) (after : List Block) → os ≡ before ++ b ∷ after
      → any (eqb number) (1 ∷ 8 ∷ 7 ∷ []) ≡ true → Early os number (place_of b)

-- the run gets the refusal of a number, and no record is made
pub record NoList (s : Setup) (bytes : List ℕ) (room : ℕ) (budget : Budget) (number : ℕ) (place : Place) : Type 0 where
  pub answer : report_of (answer_of s bytes room budget) ≡ refused_with number place 0
  pub records : records_of s bytes room budget ≡ []

-- the same at one of the openings given, or before any of them
pub record RefusedEarly (s : Setup) (bytes : List ℕ) (room : ℕ) (budget : Budget) (os : List Block) : Type 0 where
  pub number : ℕ
  pub place : Place
  pub early : Early os number place
  pub no_list : NoList s bytes room budget number place

unfoldable pub all_different : List ℕ → Bool
all_different [] = true
all_different (n ∷ ns) = not (any (λ k. eqb k n) ns) && all_different ns

-- Openings of which none is refused: each has a number, no two the same, and they are not too many.
pub record InOrder (os : List Block) (numbers : List ℕ) (limit : ℕ) : Type 0 where
  pub good : map opening_of os ≡ map Some numbers
  pub different : all_different numbers ≡ true
  pub few : length os ≤ limit
