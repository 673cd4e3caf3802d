-- What a record looks like: rapids, cuts and arcs as SVG text, in units, seen from above or from the side.
use Rattle.std.specs.Prelude.{◌&&◌, ◌∷◌, ◌-ℤ◌, if◌then◌else◌}
use Rattle.terms.specs.Common.{ℕ, Bool, true, false, List, [], eqb, nat_abs}
use Rattle.terms.specs.Terms.{bytes}
use Rattle.lengths.specs.declared.{Point.Point, Flat.Flat}
use Rattle.records.specs.{declared.Record.Record, Path.path_of, Path.path_end}
use Rattle.records.specs.declared.Record.TheVariants.{RP, LN, AR, AL, DW, SP, SO, PA, EN}
use Rattle.svg.specs.{declared.View.View, Text.◌⧺◌, Text.filled, Lines.seen_from, Lines.line, ArcText.arc}

-- a cut along the line of sight, as a hole is from above, is seen as a dot
unfoldable pub same : Flat → Flat → Bool
same a b = eqb (nat_abs (a.first.v -ℤ b.first.v)) 0 && eqb (nat_abs (a.second.v -ℤ b.second.v)) 0

unfoldable pub cut : Flat → Flat → List ℕ
cut from to = if same from to then filled (bytes "<path class=\"p\" d=\"M_ _h0\"/>\n") to to else line from to

-- "rapids and cuts told apart": what a record that begins at a point draws in a layer of rapids, and in one of cuts
unfoldable pub as_rapid : View → Point → Record → List ℕ
as_rapid view from (RP p) = line (seen_from view from) (seen_from view p)
as_rapid view from (LN p feed) = []
as_rapid view from (AR a) = []
as_rapid view from (AL a) = []
as_rapid view from (DW ms) = []
as_rapid view from (SP speed) = []
as_rapid view from SO = []
as_rapid view from PA = []
as_rapid view from EN = []

-- "`AR` (clockwise), `AL`"
unfoldable pub as_cut : View → Point → Record → List ℕ
as_cut view from (RP p) = []
as_cut view from (LN p feed) = cut (seen_from view from) (seen_from view p)
as_cut view from (AR a) = arc view from a false
as_cut view from (AL a) = arc view from a true
as_cut view from (DW ms) = []
as_cut view from (SP speed) = []
as_cut view from SO = []
as_cut view from PA = []
as_cut view from EN = []

unfoldable pub drawn : View → Bool → Point → Record → List ℕ
drawn view rapids from r = if rapids then as_rapid view from r else as_cut view from r

-- the rapids, or all but the rapids, of records from a point on
unfoldable pub path : View → Bool → Point → List Record → List ℕ
path view rapids from [] = []
path view rapids from (r ∷ rs) = drawn view rapids from r ⧺ path view rapids (path_end from (path_of r)) rs
