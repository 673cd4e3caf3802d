-- One worked pair of setups for each half of demand 3. Under setup T a full turn from workpiece X0 Y0 reaches Y 1,500,000 at its
-- highest. Displaced by 13,500,000 it touches the travel's end, Y 15,000,000. Displaced by one unit more it leaves the travel,
-- though its start and its end, both at Y 14,500,001, are inside.
use Rattle.std.specs.Prelude.{◌∷◌}
use Rattle.terms.specs.Common.{ℕ, List, [], ℤ, pos}
use Rattle.terms.specs.Terms.{bytes}
use Rattle.lengths.specs.{Units.len, declared.Point.Point}
use Rattle.codes.specs.declared.Plane.TheVariants.{G17}
use Rattle.setup.specs.declared.Axes.{Axes}
use Rattle.records.specs.declared.Record.{Record, TheVariants.RP, TheVariants.AL, TheVariants.EN}

abbrev pub turn : List ℕ
turn = bytes "%\nG00 X0 Y0\nG03 I-5.0\nM30\n"

abbrev pub up_to : ℤ → Axes
up_to y = record { x = pos 0; y = y; z = pos 0 }

abbrev pub touching : Axes
touching = up_to (pos 13_500_000)

abbrev pub leaving : Axes
leaving = up_to (pos 13_500_001)

-- the records of the turn at a height Y
abbrev corner : ℤ → Point
corner y = record { x = len (pos 1_000_000); y = len y; z = len (pos 0) }

abbrev pub rapid : ℤ → Record
rapid y = RP (corner y)

abbrev pub turn_records : ℤ → List Record
turn_records y =
    rapid y
    ∷ AL
    (record { plane = G17; end = corner y; first = len (pos 500_000); second = len y; feed = len (pos 30_000_000) })
    ∷ EN ∷ []
