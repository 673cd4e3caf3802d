-- The bounds under which every number of the centre's computation fits, as linear facts of naturals (specs/View.antt of `lengths`).
use Rattle.std.specs.Prelude.{◌+◌, ◌*◌, ◌/◌, ◌%◌, ◌≤◌, ◌<◌, ◌≡◌}
use Rattle.terms.specs.Common.{ℕ, true, ℤ}
use Rattle.lengths.specs.{declared.Len.Len, Units.len, Units.sq, View.Within, declared.Flat.Flat, Near.FlatNear}
use Rattle.wide.specs.declared.Division.{Division}
use Rattle.centres.specs.Centres.{radius_holds, scaled_root}

-- What a run keeps: an R word is within 1,000,000,000, the tool within 1,100,000,000 in the frame of the common offset, and where
-- its words lead within 2,100,000,000, inside the travel or not.
pub record Chord (r : ℤ) (s e : Flat) : Type 0 where
  pub radius : Within 1_000_000_000 r
  pub start : FlatNear 1_100_000_000 s
  pub end : FlatNear 2_100_000_000 e

-- an arc whose radius has been accepted
pub record Spanned (r : ℤ) (s e : Flat) : Type 0 where
  pub chord : Chord r s e
  pub holds : radius_holds r s e ≡ true

-- The chord's square d is at most 4 R², so n = 4 R² − d and d are at most 4,000,000,000,000,000,000; the square of q is a part of d.
pub record Divisible (q : ℤ) (n d : ℕ) : Type 0 where
  pub some : 0 < d
  pub part : sq q ≤ d
  pub most : d ≤ 4_000_000_000_000_000_000
  pub spare : n ≤ 4_000_000_000_000_000_000
  pub near : Within 2_000_000_000 q

-- ---- what the functions of the code ask of each other and answer

-- what q has of n: the square of q times n, divided by d
pub record Shares (q : ℤ) (n d : ℕ) (share : Division) : Type 0 where
  pub some : 0 < d
  pub whole : share.quotient ≡ sq q * n / d
  pub left : share.rest ≡ sq q * n % d

-- a division by d of a part of n · d
pub record Part (n d : ℕ) (share : Division) : Type 0 where
  pub part : share.quotient * d + share.rest ≤ n * d
  pub below : share.rest < d

-- the division by d of what is left of n · d
pub record Parted (n d : ℕ) (share other : Division) : Type 0 where
  pub all : (share.quotient + other.quotient) * d + (share.rest + other.rest) ≡ n * d
  pub below : other.rest < d

-- q times the root of n / d, rounded down, whatever n and d the share came from
pub record Scaled (q : ℤ) (share : Division) (r : Len) : Type 0 where
  pub near : Within 2_000_000_001 r.v
  pub is : (n d : ℕ) → Shares q n d share → r ≡ len (scaled_root q n d)

pub record Coordinates (from to : Len) (share : Division) : Type 0 where
  pub start : Within 1_100_000_000 from.v
  pub end : Within 2_100_000_000 to.v
  pub most : share.quotient ≤ 4_000_000_000_000_000_000
