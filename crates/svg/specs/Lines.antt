-- Points seen from above or from the side, and lines as SVG text, in units.
use Rattle.terms.specs.Common.{ℕ, List}
use Rattle.terms.specs.Terms.{bytes}
use Rattle.lengths.specs.declared.{Point.Point, Flat.Flat}
use Rattle.svg.specs.{declared.View.View, declared.View.TheVariants.Above, declared.View.TheVariants.Side, Text.filled}

-- "the path seen from above and from the side": X to the right, and Y or Z up
unfoldable pub seen_from : View → Point → Flat
seen_from Above p = record { first = p.x; second = p.y }
seen_from Side p = record { first = p.x; second = p.z }

abbrev pub line : Flat → Flat → List ℕ
line from to = filled (bytes "<path d=\"M_ _L_ _\"/>\n") from to
