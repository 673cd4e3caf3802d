-- The table of origins, turned into points. Assumes nothing.
use Rattle.std.proofs.lemmas.List.{same_lists}
use Rattle.terms.proofs.Common.{ℕ, ◌<◌, ◌≡◌, sym, ◌∙◌, List, map, arith, length, get_or, length-map, List·getD-map}
use Rattle.lengths.specs.declared.Point.{Point}
use Rattle.setup.specs.{declared.Axes.Axes, Frame.point_of}

-- the numbers that make a point
abbrev numbers_of : Point → Axes
numbers_of p = record { x = p.x.v; y = p.y.v; z = p.z.v }

-- points that are each that of an origin are those of the origins
pub all_turned :
    (origins : List Axes) (points : List Point) → length points ≡ length origins
    → ((k : ℕ) (d : Axes) (p : Point) → k < length origins → get_or points k p ≡ point_of (get_or origins k d))
    → points ≡ map point_of origins
all_turned origins points e each =
    same_lists points (map point_of origins) (e ∙ sym (length-map origins point_of))
    (λ k p h. each k (numbers_of p) p (omega arith) ∙ sym (List·getD-map point_of origins k (numbers_of p)))
