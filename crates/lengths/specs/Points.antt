-- Points, the axes of a plane, and the travel.
use Rattle.std.specs.Prelude.{◌&&◌}
use Rattle.terms.specs.Common.{Bool}
use Rattle.terms.specs.Terms.{between}
use Rattle.codes.specs.declared.Plane.{Plane, TheVariants.G17, TheVariants.G18, TheVariants.G19}
use Rattle.lengths.specs.{declared.Len.Len, Units.◌⊕◌, Units.◌⊖◌, declared.Point.Point, declared.Flat.Flat, declared.Travel.Travel}

-- a point displaced by the numbers of another, and back
unfoldable pub moved : Point → Point → Point
moved by p = record { x = p.x ⊕ by.x; y = p.y ⊕ by.y; z = p.z ⊕ by.z }

unfoldable pub moved_back : Point → Point → Point
moved_back by p = record { x = p.x ⊖ by.x; y = p.y ⊖ by.y; z = p.z ⊖ by.z }

unfoldable pub at_height : Point → Len → Point
at_height p level = record { x = p.x; y = p.y; z = level }

-- A plane's two axes in order: X Y in G17, "G18 as Z then X", Y Z in G19.
unfoldable pub flat : Plane → Point → Flat
flat G17 p = record { first = p.x; second = p.y }
flat G18 p = record { first = p.z; second = p.x }
flat G19 p = record { first = p.y; second = p.z }

-- inside the travel, its ends counted
unfoldable pub inside : Travel → Point → Bool
inside t p =
    between t.low.x.v t.high.x.v p.x.v
    && between t.low.y.v t.high.y.v p.y.v
    && between t.low.z.v t.high.z.v p.z.v
