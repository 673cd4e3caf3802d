-- Document 01, "Data set and blocks": a number as it is written.
-- "a number: a sign or none, digits with at most one point, one to nine digits in all."
use Rattle.std.specs.Prelude.{◌+◌, ◌-◌, ◌*◌, ◌&&◌, ◌||◌, ◌∷◌, if◌then◌else◌}
use Rattle.terms.specs.Common.{ℕ, Bool, Option, None, Some, List, [], leb, eqb, length, drop}
use Rattle.terms.specs.Terms.{byte, from_to}
use Rattle.words.specs.declared.Sign.{Sign, TheVariants.Plain, TheVariants.Plus, TheVariants.Minus}
use Rattle.words.specs.declared.Numeral.{Numeral}

abbrev pub is_digit : ℕ → Bool
is_digit b = from_to (byte "0") (byte "9") b

abbrev pub is_point : ℕ → Bool
is_point b = eqb b (byte ".")

abbrev pub is_figure : ℕ → Bool
is_figure b = is_digit b || is_point b

-- the sign that the bytes begin with, and how many bytes it takes
unfoldable pub sign_of : List ℕ → Sign
sign_of [] = Plain
sign_of (b ∷ bs) = if eqb b (byte "+") then Plus else (if eqb b (byte "-") then Minus else Plain)

unfoldable pub sign_length : Sign → ℕ
sign_length Plain = 0
sign_length Plus = 1
sign_length Minus = 1

-- the longest beginning of the bytes that a test takes
unfoldable pub run : (ℕ → Bool) → List ℕ → List ℕ
run test [] = []
run test (b ∷ bs) = if test b then b ∷ run test bs else []

unfoldable pub count : (ℕ → Bool) → List ℕ → ℕ
count test [] = 0
count test (b ∷ bs) = (if test b then 1 else 0) + count test bs

-- the digits as one whole number, n being that of the digits before; a point adds nothing
unfoldable pub digits_after : ℕ → List ℕ → ℕ
digits_after n [] = n
digits_after n (b ∷ bs) = digits_after (if is_digit b then n * 10 + (b - byte "0") else n) bs

-- how many digits stand after the point
unfoldable pub decimals_of : List ℕ → ℕ
decimals_of [] = 0
decimals_of (b ∷ bs) = if is_point b then count is_digit bs else decimals_of bs

unfoldable pub is_numeral : List ℕ → Bool
is_numeral figures = from_to 1 9 (count is_digit figures) && leb (count is_point figures) 1

unfoldable pub number_by : Sign → List ℕ → Option Numeral
number_by sign figures =
    if is_numeral figures
    then
    Some
    (record {
      number =
          record {
            sign = sign;
            point = eqb (count is_point figures) 1;
            digits = digits_after 0 figures;
            decimals = decimals_of figures;
          };
      length = sign_length sign + length figures;
    })
    else None

-- the number that the bytes begin with. "no digit, a tenth digit or a second point is 15."
unfoldable pub number_in : List ℕ → Option Numeral
number_in bs = number_by (sign_of bs) (run is_figure (drop (sign_length (sign_of bs)) bs))
