-- Directions in a plane, and which of them lie on the way of an arc.
use Rattle.std.specs.Prelude.{◌&&◌, ◌+ℤ◌, ◌-ℤ◌, ◌*ℤ◌, if◌then◌else◌}
use Rattle.terms.specs.Common.{Bool, true, not, ℤ, pos, lt_z}
use Rattle.lengths.specs.{Units.◌⊖◌, declared.Flat.Flat}

-- the direction from one point to another
unfoldable pub direction : Flat → Flat → Flat
direction a b = record { first = b.first ⊖ a.first; second = b.second ⊖ a.second }

unfoldable pub cross : Flat → Flat → ℤ
cross a b = a.first.v *ℤ b.second.v -ℤ a.second.v *ℤ b.first.v

unfoldable pub dot : Flat → Flat → ℤ
dot a b = a.first.v *ℤ b.first.v +ℤ a.second.v *ℤ b.second.v

-- b lies to the left of a: less than half a turn on, from the first axis to the second
unfoldable pub left : Flat → Flat → Bool
left a b = lt_z (pos 0) (cross a b)

-- Whether the direction d lies on the way from u to w that turns left, "ends counted, equal directions mean a full turn".
-- Where w lies to the left of u, d is to the right of neither end's way; where u lies to the left of w, d is not
-- within the way back; on one line, w is u's direction or its opposite.
unfoldable pub on_left_way : Flat → Flat → Flat → Bool
on_left_way u w d =
    if left u w then not (left d u) && not (left w d)
    else (if left w u then not (left w d && left d u)
    else (if lt_z (pos 0) (dot u w) then true
    else not (left d u)))
