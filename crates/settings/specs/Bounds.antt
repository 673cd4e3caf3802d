-- The bounds that a run keeps in the frame of the common offset, under which every sum of this layer fits 64 bits, and what the
-- functions on them answer.
use Rattle.std.specs.Prelude.{◌≡◌}
use Rattle.terms.specs.Common.{Option}
use Rattle.lengths.specs.{declared.Len.Len, View.Within, declared.Point.Point, Near.Near}
use Rattle.codes.specs.declared.Distance.{Distance}
use Rattle.words.specs.{declared.Values.Values, Values.worth}
use Rattle.settings.specs.{declared.Kept.Kept, Target.target}

-- an axis' origin, the place that a word may count from, which is a point of the tool or a level that a word led to, and the word
pub record Sized (o a : Len) (g : Option Len) : Type 0 where
  pub origin : Within 1_000_000_000 o.v
  pub from : Within 2_100_000_000 a.v
  pub word : Within 1_000_000_000 (worth g).v

-- what the words of a straight move lead from: a run's origins, and a point that the tool can be at
pub record Aims (o p : Point) (v : Values) : Type 0 where
  pub origin : Near 1_000_000_000 o
  pub from : Near 1_100_000_000 p
  pub x : Within 1_000_000_000 (worth v.x).v
  pub y : Within 1_000_000_000 (worth v.y).v
  pub z : Within 1_000_000_000 (worth v.z).v

-- where they lead: the value, and how near it is whether inside the travel or not
pub record Aimed (d : Distance) (origin from : Point) (v : Values) (r : Point) : Type 0 where
  pub is : r ≡ target d origin from v
  pub near : Near 2_100_000_000 r

-- what is kept of a cycle
pub record KeptNear (k : Kept) : Type 0 where
  pub initial : Within 1_100_000_000 k.initial.v
  pub z : Within 1_000_000_000 k.z.v
  pub r : Within 1_000_000_000 k.r.v
  pub dwell : Within 3_600_000 k.dwell.v
