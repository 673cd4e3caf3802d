-- A number of a setup file: a sign or none and one to nineteen digits, of a value that fits 64 bits with a sign.
use Rattle.std.specs.Prelude.{Result, Ok, Err, ◌-◌, ◌^◌, ◌&&◌, if◌then◌else◌}
use Rattle.terms.specs.Common.{ℕ, Option, None, Some, List, leb, length, drop}
use Rattle.terms.specs.Terms.{all, from_to}
use Rattle.lengths.specs.{declared.Len.Len, Units.len}
use Rattle.words.specs.{Numbers.is_digit, Numbers.sign_of, Numbers.sign_length, Numbers.digits_after, Values.signed, declared.Sign.Sign}
use Rattle.words.specs.declared.Sign.TheVariants.{Plain, Plus, Minus}
use Rattle.texts.specs.declared.{Wrong.Wrong, Wrong.TheVariants.NoNumber, Wrong.TheVariants.TooLarge}

-- one to nineteen digits and nothing else, as one whole number
unfoldable pub digits_in : List ℕ → Option ℕ
digits_in figures = if from_to 1 19 (length figures) && all is_digit figures then Some (digits_after 0 figures) else None

-- the farthest from 0 that 64 bits with a sign reach
unfoldable pub largest : Sign → ℕ
largest Plain = 2 ^ 63 - 1
largest Plus = 2 ^ 63 - 1
largest Minus = 2 ^ 63

unfoldable pub fitted : Sign → ℕ → Result Len Wrong
fitted sign n = if leb n (largest sign) then Ok (len (signed sign n)) else Err TooLarge

unfoldable pub worth_by : Sign → Option ℕ → Result Len Wrong
worth_by sign (Some n) = fitted sign n
worth_by sign None = Err NoNumber

-- what a whole word is worth as a number
unfoldable pub worth_of : List ℕ → Result Len Wrong
worth_of word = worth_by (sign_of word) (digits_in (drop (sign_length (sign_of word)) word))
