-- How near the place is that a word leads to. Assumes nothing.
use Rattle.std.specs.Bool.{then_some}
use Rattle.terms.proofs.Common.{ℕ, ◌+◌, Bool, true, false, Option, None, Some, arith}
use Rattle.lengths.{specs.declared.Len.Len, specs.Units.◌⊕◌, specs.View.Within, specs.declared.Point.Point, specs.Near.Near, proofs.Laws.sum_bal}
use Rattle.codes.specs.declared.Distance.{Distance, TheVariants.Absolute, TheVariants.Incremental}
use Rattle.words.specs.{declared.Values.Values, Values.worth}
use Rattle.settings.specs.{Settings.or_else, Target.base, Target.aimed, Target.target, Bounds.Aims}

module _ {m : ℕ} (origin from : Len) (h : Within m origin.v) (k : Within m from.v) where
  pub base_near : (d : Distance) → Within m (base d origin from).v
  unfolding base
  base_near Absolute = h
  base_near Incremental = k

  -- a word adds its value to what it counts from
  pub aimed_near : {n : ℕ} (d : Distance) (g : Option Len) → Within n (worth g).v → Within (m + n) (aimed d origin from g).v
  unfolding aimed
  aimed_near d (Some v) w = omega (arith, base_near d, sum_bal (base d origin from).v v.v)
  aimed_near d None w = omega arith

pub target_near : (d : Distance) (origin from : Point) (v : Values) → Aims origin from v → Near 2_100_000_000 (target d origin from v)
unfolding target
target_near d origin from v h =
    record {
      x = aimed_near {m = 1_100_000_000} origin.x from.x (omega arith) (omega arith) d v.x h.x;
      y = aimed_near {m = 1_100_000_000} origin.y from.y (omega arith) (omega arith) d v.y h.y;
      z = aimed_near {m = 1_100_000_000} origin.z from.z (omega arith) (omega arith) d v.z h.z;
    }

-- a value that stands, or else one that held before
pub or_else_near : (n : ℕ) (g : Option Len) (other : Len) → Within n (worth g).v → Within n other.v → Within n (or_else g other).v
unfolding or_else
or_else_near n (Some v) other h k = h
or_else_near n None other h k = k

-- a word that is kept, or none
pub then_near : {n : ℕ} (t : Bool) (z : Len) → Within n z.v → Within n (worth (then_some t z)).v
then_near true z h = h
then_near false z h = omega arith
