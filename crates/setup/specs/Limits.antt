-- Document 01, "Lengths and the setup": the limits that a setup keeps, or is refused with 12.
use Rattle.std.specs.Prelude.{◌&&◌}
use Rattle.terms.specs.Common.{ℕ, Bool, ℤ, pos, le_z}
use Rattle.terms.specs.Terms.{all, between, within}
use Rattle.setup.specs.declared.{Axes.Axes, Setup.Setup}

-- "a low and high travel, low not above high, both within ±100,000,000; a start point inside the travel", of one axis
abbrev pub travel_limit : ℕ
travel_limit = 100_000_000

unfoldable pub axis_fits : ℤ → ℤ → ℤ → Bool
axis_fits low high start = le_z low high && within travel_limit low && within travel_limit high && between low high start

-- "per axis X, Y, Z"
unfoldable pub travel_fits : Setup → Bool
travel_fits s =
    axis_fits s.low.x s.high.x s.start.x
    && axis_fits s.low.y s.high.y s.start.y
    && axis_fits s.low.z s.high.z s.start.z

-- "the common offset (EXOFS), and a table of six workpiece origins by three axes, every offset and origin within
-- ±1,000,000,000"
abbrev pub offset_limit : ℕ
offset_limit = 1_000_000_000

unfoldable pub axes_within : ℕ → Axes → Bool
axes_within n a = within n a.x && within n a.y && within n a.z

unfoldable pub offsets_fit : Setup → Bool
offsets_fit s = axes_within offset_limit s.exofs && all (axes_within offset_limit) s.origins

-- "a feed from 1 to 1,000,000,000 units/min"
unfoldable pub feed_fits : Setup → Bool
feed_fits s = between (pos 1) (pos 1_000_000_000) s.feed

-- "lowest and highest spindle speed (1 to 99,999, lowest not above highest)"
abbrev pub range_fits : Setup → Bool
range_fits s =
    between (pos 1) (pos 99_999) s.lowest
    && between (pos 1) (pos 99_999) s.highest
    && le_z s.lowest s.highest

-- "a speed between them"
abbrev pub speed_fits : Setup → Bool
speed_fits s = between s.lowest s.highest s.speed

unfoldable pub speeds_fit : Setup → Bool
speeds_fit s = range_fits s && speed_fits s

-- "and the block-skip switch": 0 is off and 1 is on
unfoldable pub switch_fits : Setup → Bool
switch_fits s = between (pos 0) (pos 1) s.skip

unfoldable pub valid_setup : Setup → Bool
valid_setup s = travel_fits s && offsets_fit s && (feed_fits s && speeds_fit s && switch_fits s)
