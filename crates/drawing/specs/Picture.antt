-- The whole picture of a list under a setup, as SVG text, and what the library answers.
use Rattle.std.specs.Prelude.{◌+◌, ◌*◌, ◌/◌, ◌≤◌, ◌≡◌, ◌-ℤ◌, if◌then◌else◌, Result, Ok, Err}
use Rattle.terms.specs.Common.{ℕ, true, false, List, ltb, pos, neg_ℤ, nat_abs, length, sets}
use Rattle.terms.specs.Terms.{bytes}
use Rattle.lengths.specs.{Units.len, Units.◌⊕◌, Units.◌⊖◌, declared.Point.Point, declared.Flat.Flat, Near.Near}
use Rattle.setup.specs.{declared.Setup.Setup, Frame.point_of, Limits.valid_setup}
use Rattle.records.specs.declared.{Record.Record, Listed.Listed, Listed.TheVariants.Next, Listed.TheVariants.End, Listed.TheVariants.Faulty as faulty}
use Rattle.svg.specs.{declared.View.View, declared.View.TheVariants.Above, declared.View.TheVariants.Side, Text.◌⧺◌, Text.filled, Lines.seen_from}
use Rattle.drawing.specs.{declared.Sheet.Sheet, declared.Undrawn.Undrawn, Shapes.path, Walks.records_from, Walks.end_from}
use Rattle.drawing.specs.declared.Undrawn.TheVariants.{NoRoom, Faulty, BadSetup}

-- a fortieth of the travel's three sides together, at least 4 units, so that the picture looks alike whatever the machine's size
unfoldable pub gap_of : Point → Point → ℕ
gap_of low high =
    (nat_abs (high.x.v -ℤ low.x.v) + nat_abs (high.y.v -ℤ low.y.v) + nat_abs (high.z.v -ℤ low.z.v)) / 40 + 4

-- the travel and the start of a setup, in machine units, and the gap around and between the views
unfoldable pub sheet_of : Setup → Sheet
sheet_of s =
    record {
      low = point_of s.low;
      high = point_of s.high;
      start = point_of s.start;
      gap = gap_of (point_of s.low) (point_of s.high);
    }

-- the travel of a valid setup is near enough for the sums below
pub record Fair (sh : Sheet) : Type 0 where
  pub low : Near 100_000_000 sh.low
  pub high : Near 100_000_000 sh.high
  pub gap : sh.gap ≤ 20_000_000

-- "the travel as a frame", and "the start marked"; then the group of the rapids is opened
unfoldable pub marks : View → Sheet → List ℕ
marks view sh =
    let start = seen_from view sh.start in
    filled (bytes "<path class=\"f\" d=\"M_ _H_V_H_z\"/>\n") (seen_from view sh.low) (seen_from view sh.high)
    ⧺ filled (bytes "<path class=\"s\" d=\"M_ _h0\"/>\n<g class=\"r\">\n") start start

-- One view, with these marks, "rapids and cuts told apart": a group for each, and the cuts over the rapids, since a tool often
-- leaves by the way it came. It stands in a group that is turned so that its second axis is up; that group and the one of the
-- cuts are closed after it.
unfoldable pub view_of : View → Sheet → List Record → List ℕ
view_of view sh rs =
    marks view sh
    ⧺ path view true sh.start rs
    ⧺ bytes "</g>\n<g class=\"c\">\n"
    ⧺ path view false sh.start rs

-- the part of the plane that is shown: both views, one above the other, at one scale
unfoldable pub corner_of : Sheet → Flat
corner_of sh =
    record {
      first = sh.low.x ⊖ len (pos sh.gap);
      second = len (neg_ℤ (sh.high.y ⊕ len (pos sh.gap)).v);
    }

unfoldable pub size_of : Sheet → Flat
size_of sh =
    record {
      first = sh.high.x ⊖ sh.low.x ⊕ len (pos (2 * sh.gap));
      second = sh.high.y ⊖ sh.low.y ⊕ (sh.high.z ⊖ sh.low.z) ⊕ len (pos (3 * sh.gap));
    }

-- where the side view stands: straight below
unfoldable pub down_of : Sheet → Flat
down_of sh = record { first = len (pos 0); second = sh.high.z ⊖ sh.low.y ⊕ len (pos sh.gap) }

-- The beginning of the text, which says what part of the plane is shown, and thin lines at any scale. Where a viewer does not
-- know how to keep a line's width, the widths are parts of the sheet.
unfoldable pub opening : Sheet → List ℕ
opening sh =
    filled
    (bytes
    "<svg xmlns=\"http://www.w3.org/2000/svg\" viewBox=\"_ _ _ _\">\n<style>svg{background:#fff}path{fill:none}.f{stroke:#999;stroke-width:.1%}.s{stroke:#6c6;stroke-width:1.2%;stroke-linecap:round}.r{stroke:#c60;stroke-width:.1%;stroke-dasharray:.4% .3%}.c{stroke:#036;stroke-width:.2%}.p{stroke-width:.6%;stroke-linecap:round}@supports(vector-effect:non-scaling-stroke){path{vector-effect:non-scaling-stroke}.f{stroke-width:1px}.s{stroke-width:14px}.r{stroke-width:1px;stroke-dasharray:4px 3px}.c{stroke-width:2px}.p{stroke-width:6px}}</style>\n<g transform=\"scale(1 -1)\">\n")
    (corner_of sh)
    (size_of sh)

-- A matrix, since one browser shortens a long translation.
unfoldable pub shift : Sheet → List ℕ
shift sh = filled (bytes "</g>\n</g>\n<g transform=\"matrix(1 0 0 -1 _ _)\">\n") (down_of sh) (down_of sh)

unfoldable pub picture_of : Sheet → List Record → List ℕ
picture_of sh rs = opening sh ⧺ view_of Above sh rs ⧺ shift sh ⧺ view_of Side sh rs ⧺ bytes "</g>\n</g>\n</svg>\n"

-- what is answered of a text and a room, and what becomes of the buffer: the text has to leave at least one byte
unfoldable pub fitting : List ℕ → ℕ → Result ℕ Undrawn
fitting text room = if ltb (length text) room then Ok (length text) else Err NoRoom

unfoldable pub answer_for : Listed → Result ℕ Undrawn → Result ℕ Undrawn
answer_for (Next r next) drawn = drawn
answer_for End drawn = drawn
answer_for (faulty fault place) drawn = Err (Faulty place)

unfoldable pub bytes_for : Listed → List ℕ → List ℕ → List ℕ
bytes_for (Next r next) was is = is
bytes_for End was is = is
bytes_for (faulty fault place) was is = was

-- The picture of a list under a setup, over a buffer. Where there is no room, the buffer holds the picture's first bytes.
pub record Draws (l : List ℕ) (s : Setup) (was is : List ℕ) (r : Result ℕ Undrawn) : Type 0 where
  pub answer :
      r
      ≡ (if valid_setup s then answer_for (end_from l 0) (fitting (picture_of (sheet_of s) (records_from l 0)) (length was)) else Err BadSetup)
  pub bytes :
      is
      ≡ (if valid_setup s then bytes_for (end_from l 0) was (sets was 0 (picture_of (sheet_of s) (records_from l 0))) else was)
