-- Document 01, "Numbers to try": the table of numbers. A row is a block as it is written there, read as any block is, and
-- what it gives.
use Rattle.std.specs.Prelude.{◌∷◌}
use Rattle.terms.specs.Common.{ℕ, String, true, List, [], pos, Some}
use Rattle.terms.specs.Terms.{byte, bytes}
use Rattle.refusals.specs.Numbers.{number_of}
use Rattle.lengths.specs.{Units.len, declared.Point.Point}
use Rattle.words.specs.{declared.Values.Values, Values.no_values, Words.Words, Words.these, Words.bad_at, Words.words_of}
use Rattle.settings.specs.{declared.State.State, Settings.first_state}
use Rattle.letters.specs.Letters.{with_value}
use Rattle.blocks.specs.{Machine.Machine, Exec.Verdict, Exec.refused, Exec.accepted, Exec.said_by, Exec.calls_in, Exec.exec}

-- what a block gives: the values of its words, or the number of its refusal and the byte that this names
pub data Result : Type 0 where
  says : Values → Result
  refuses : ℕ → ℕ → Result

-- a block, the one before it, whose codes hold on, and what it gives
pub record Row : Type 0 where
  pub before : String
  pub text : String
  pub gives : Result

abbrev home : Point
home = record { x = len (pos 0); y = len (pos 0); z = len (pos 0) }

-- "X10000.0 is 1,000,000,000", which lies outside the travel of every setup: the machine of the table has no travel, so that
-- only the words of a block can be refused
abbrev limitless : Machine
limitless =
    record {
      origin = λ place. home;
      speeds = record { lowest = len (pos 3_000); highest = len (pos 8_000) };
      fits = λ r. true;
      stays = λ from r. true;
    }

abbrev start : State
start = first_state home (len (pos 30_000_000)) (len (pos 5_000))

-- the verdict of the rules on a block of the main program, its text as bytes from byte 0
abbrev verdict_on : State → String → Verdict
verdict_on s text = exec limitless (calls_in [] 4) 4_096 s 0 0 (bytes text)

unfoldable pub state_after : State → Verdict → State
state_after s (refused blame) = s
state_after s (accepted next control made) = next

-- what the rules make of the block's words
unfoldable pub values_in : State → Words → Values
values_in s (these ws) = (said_by limitless s.modes ws).values
values_in s (bad_at at) = no_values

unfoldable pub result_by : Values → Verdict → Result
result_by values (refused blame) = refuses (number_of blame.refusal) blame.byte
result_by values (accepted next control made) = says values

unfoldable pub result_of : Row → Result
result_of row =
    let s = state_after start (verdict_on start row.before) in
    result_by (values_in s (words_of 0 (bytes row.text))) (verdict_on s row.text)

-- a block after G00, the code that uses the X; and one where G20 is on too
abbrev row : String → Result → Row
row text gives = record { before = "G00"; text = text; gives = gives }

abbrev in_inch : String → Result → Row
in_inch text gives = record { before = "G20 G00"; text = text; gives = gives }

-- one word has a value, and no other
abbrev only : ℕ → ℕ → Result
only letter n = says (with_value no_values letter (Some (len (pos n))))

abbrev x : ℕ → Result
x n = only (byte "X") n

abbrev p : ℕ → Result
p n = only (byte "P") n

abbrev pub rows : List Row
rows =
    -- "(1) G21 X1000 is 100,000; (2) X1.0 likewise"
    row "G21 X1000" (x 100_000) ∷ row "X1.0" (x 100_000)
    -- "(3) G20 X1000 is 254,000; (4) G20 X1.0005 is 2,541,270"
    ∷ row "G20 X1000" (x 254_000) ∷ row "G20 X1.0005" (x 2_541_270)
    -- "(5) G21 X1.0005 is refused"
    ∷ row "G21 X1.0005" (refuses 1 4)
    -- "(6) X10000.0 is 1,000,000,000 and X10000.001 is refused"
    ∷ row "X10000.0" (x 1_000_000_000) ∷ row "X10000.001" (refuses 1 0)
    -- "(7) G20 X393.7007 is 999,999,778 and X393.7008 is refused"
    ∷ row "G20 X393.7007" (x 999_999_778) ∷ in_inch "X393.7008" (refuses 1 0)
    -- "(8) P1000 and P1.0 are both 1,000 ms"; G04 is the code that uses the P
    ∷ row "G04 P1000" (p 1_000) ∷ row "G04 P1.0" (p 1_000)
    -- "(9) P3600001 is refused"
    ∷ row "G04 P3600001" (refuses 1 4) ∷ []
