-- Document 02, #102: a plate of holes, written short and in full. Where a word stands in the data counts only for the byte that a
-- refusal names, and is left out here: every word stands at byte 0.
use Rattle.std.specs.Prelude.{◌-◌, ◌∷◌, ◌++◌}
use Rattle.terms.specs.Common.{ℕ, Option, None, Some, List, []}
use Rattle.terms.specs.Terms.{byte}
use Rattle.refusals.specs.declared.Refusal.{Refusal}
use Rattle.words.specs.{declared.Number.Number, declared.Word.Word, Words.these}
use Rattle.records.specs.{declared.Record.Record, Layout.room_of}
use Rattle.settings.specs.declared.State.{State}
use Rattle.blocks.specs.{Machine.Machine, Exec.Calls, Exec.Verdict, Exec.refused, Exec.accepted, Exec.exec_words}

abbrev pub word : ℕ → Number → Word
word letter n = record { at = 0; number = n; letter = letter }

-- the numbers that name a cycle with its Z and R, and those of a hole's place
pub record Naming : Type 0 where
  pub g : Number
  pub z : Number
  pub r : Number

pub record Spot : Type 0 where
  pub x : Number
  pub y : Number

-- "forty lines of X and Y": a block `X.. Y..`
abbrev pub placed : Spot → List Word
placed p = word (byte "X") p.x ∷ word (byte "Y") p.y ∷ []

-- a block that names all of it, `G81 X.. Y.. Z.. R..`
abbrev pub in_full : Naming → Spot → List Word
in_full n p =
    word (byte "G") n.g ∷ word (byte "X") p.x ∷ word (byte "Y") p.y ∷ word (byte "Z") n.z ∷ word (byte "R") n.r ∷ []

-- what blocks come to, one after the other: the records of those before the first that is refused, and what that is refused with
pub record Came : Type 0 where
  pub made : List Record
  pub refusal : Option Refusal

unfoldable pub came_by : Verdict → ℕ → (ℕ → State → Came) → Came
came_by (refused blame) room rest = record { made = []; refusal = Some blame.refusal }
came_by (accepted s control made) room rest =
    let more = rest (room - room_of made) s in record { made = made ++ more.made; refusal = more.refusal }

unfoldable pub came_to : Machine → Calls → ℕ → State → List (List Word) → Came
came_to machine calls room s [] = record { made = []; refusal = None }
came_to machine calls room s (ws ∷ rest) =
    came_by (exec_words machine calls room s 0 (these ws)) room (λ left next. came_to machine calls left next rest)
