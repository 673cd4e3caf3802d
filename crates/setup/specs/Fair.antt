-- The bounds that every valid setup keeps, as linear facts, in the frame of the common offset.
use Rattle.std.specs.Prelude.{◌≡◌}
use Rattle.terms.specs.Common.{ℕ, length}
use Rattle.lengths.specs.{View.Within, Points.moved, Near.Near}
use Rattle.setup.specs.{declared.Bed.Bed, Frame.origin_at}

pub record Fair (b : Bed) : Type 0 where
  pub offset : Near 1_000_000_000 b.offset
  -- the travel's ends in machine units
  pub low : Near 100_000_000 (moved b.offset b.travel.low)
  pub high : Near 100_000_000 (moved b.offset b.travel.high)
  pub places : length b.origins ≡ 6
  pub origins : (k : ℕ) → Near 1_000_000_000 (origin_at b k)
  pub lowest : Within 99_999 b.lowest.v
  pub highest : Within 99_999 b.highest.v
