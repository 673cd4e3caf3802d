-- Document 01: what a written number is worth, by what its letter means in the block.
use Rattle.std.specs.Prelude.{◌-◌, ◌*◌, ◌^◌, ◌&&◌, if◌then◌else◌, unwrap_or}
use Rattle.terms.specs.Common.{ℕ, min, Bool, true, false, not, Option, None, Some, leb, ℤ, pos, neg_ℤ, lt_z}
use Rattle.terms.specs.Terms.{between, within}
use Rattle.lengths.specs.{declared.Len.Len, Units.len}
use Rattle.codes.specs.declared.Unit.{Unit, TheVariants.Inch, TheVariants.Millimetre}
use Rattle.words.specs.declared.{Sign.Sign, Sign.TheVariants.Plain, Sign.TheVariants.Plus, Sign.TheVariants.Minus, Number.Number, Use.Use, Values.Values}
use Rattle.words.specs.declared.Use.TheVariants.{Nothing, Codes, Label, Program, Length, Feed, Speed, Dwell, Count}

unfoldable pub unsigned : Sign → Bool
unsigned Plain = true
unsigned Plus = false
unsigned Minus = false

-- "take neither sign nor point"
unfoldable pub is_plain : Number → Bool
is_plain n = unsigned n.sign && not n.point

unfoldable pub signed : Sign → ℕ → ℤ
signed Plain n = pos n
signed Plus n = pos n
signed Minus n = neg_ℤ (pos n)

-- "with a point, millimetres or inches; without, 0.001 mm or 0.0001 inch. At most three decimals written in mm, four
-- in inch (H)." The number of least steps, of which `places` decimals make one whole; seconds and milliseconds likewise.
unfoldable pub decimals_fit : ℕ → Number → Bool
decimals_fit places n = leb n.decimals places

unfoldable pub steps_of : ℕ → Number → ℕ
steps_of places n = if n.point then n.digits * 10 ^ (places - n.decimals) else n.digits

unfoldable pub places_of : Unit → ℕ
places_of Millimetre = 3
places_of Inch = 4

-- "0.001 mm is 100 units and 0.0001 inch is 254, both exact."
unfoldable pub units_of : Unit → ℕ
units_of Millimetre = 100
units_of Inch = 254

unfoldable pub length_of : Unit → Number → ℤ
length_of u n = signed n.sign (steps_of (places_of u) n * units_of u)

-- "Magnitude at most 1,000,000,000 units (H, in place of Range 1)."
abbrev pub longest : ℕ
longest = 1_000_000_000

unfoldable pub is_length : Unit → Number → Bool
is_length u n = decimals_fit (places_of u) n && within longest (length_of u n)

-- "P as dwell: milliseconds, or seconds with a point and at most three decimals; 0 to 3,600,000 ms."
unfoldable pub dwell_of : Number → ℤ
dwell_of n = signed n.sign (steps_of 3 n)

unfoldable pub is_dwell : Number → Bool
is_dwell n = decimals_fit 3 n && between (pos 0) (pos 3_600_000) (dwell_of n)

-- "K: missing 1, negative 0, above 9,999 is 9,999."
unfoldable pub count_of : Number → ℕ
count_of n = if lt_z (signed n.sign n.digits) (pos 0) then 0 else min n.digits 9_999

-- a value that is refused where its test fails
unfoldable pub checked : Bool → ℤ → Option Len
checked true z = Some (len z)
checked false z = None

-- The value of a number, with the unit of its block and the setup's lowest and highest spindle speed.
unfoldable pub value_of : Unit → ℤ → ℤ → Use → Number → Option Len
-- a G or an M is tested as a code, and a word without a use is refused as such
value_of u lowest highest Nothing n = Some (len (pos 0))
value_of u lowest highest Codes n = Some (len (pos 0))
-- "G, M, N, O, P of M98 and S take neither sign nor point"
value_of u lowest highest Label n = checked (is_plain n) (pos n.digits)
value_of u lowest highest Program n = checked (is_plain n) (pos n.digits)
-- "S outside the setup's speeds is 1"
value_of u lowest highest Speed n = checked (is_plain n && between lowest highest (pos n.digits)) (pos n.digits)
-- "K as a count takes a sign but no point"
value_of u lowest highest Count n = checked (not n.point) (pos (count_of n))
value_of u lowest highest Dwell n = checked (is_dwell n) (dwell_of n)
value_of u lowest highest Length n = checked (is_length u n) (length_of u n)
-- "F is above 0."
value_of u lowest highest Feed n = checked (is_length u n && lt_z (pos 0) (length_of u n)) (length_of u n)

-- what a word is worth: 0 units where it does not stand
abbrev pub worth : Option Len → Len
worth g = unwrap_or g (len (pos 0))

abbrev pub no_values : Values
no_values =
    record {
      x = None;
      y = None;
      z = None;
      i = None;
      j = None;
      k = None;
      r = None;
      p = None;
      f = None;
      s = None;
    }
