-- Bounds of points, and what the functions that move a point answer: the value as a definition, and the balance of each axis
-- (specs/View.antt), from which a caller's bounds follow by linear arithmetic.
use Rattle.std.specs.Prelude.{◌≡◌}
use Rattle.terms.specs.Common.{ℕ}
use Rattle.lengths.specs.{View.Within, Serving.Sum, Serving.Difference, declared.Point.Point, declared.Flat.Flat, Points.moved, Points.moved_back}

-- each coordinate is at most n away from 0
pub record Near (n : ℕ) (p : Point) : Type 0 where
  pub x : Within n p.x.v
  pub y : Within n p.y.v
  pub z : Within n p.z.v

-- and each of the two in a plane
pub record FlatNear (n : ℕ) (f : Flat) : Type 0 where
  pub first : Within n f.first.v
  pub second : Within n f.second.v

pub record Moved (by p r : Point) : Type 0 where
  pub is : r ≡ moved by p
  pub x : Sum p.x by.x r.x
  pub y : Sum p.y by.y r.y
  pub z : Sum p.z by.z r.z

pub record MovedBack (by p r : Point) : Type 0 where
  pub is : r ≡ moved_back by p
  pub x : Difference p.x by.x r.x
  pub y : Difference p.y by.y r.y
  pub z : Difference p.z by.z r.z
