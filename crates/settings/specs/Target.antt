-- Document 01, "G00, G01": where a word leads. "a missing axis stays. G91 adds to the current point." In the frame of the
-- common offset a point is the selected origin plus the workpiece coordinate.
use Rattle.terms.specs.Common.{Option, None, Some}
use Rattle.lengths.specs.{declared.Len.Len, Units.◌⊕◌, declared.Point.Point}
use Rattle.codes.specs.declared.Distance.{Distance, TheVariants.Absolute, TheVariants.Incremental}
use Rattle.words.specs.declared.Values.{Values}

-- what a word counts from: its axis' origin in G90, where the axis is in G91
unfoldable pub base : Distance → Len → Len → Len
base Absolute origin now = origin
base Incremental origin now = now

-- one axis: its origin, where it is, and the word
unfoldable pub aimed : Distance → Len → Len → Option Len → Len
aimed d origin now (Some v) = base d origin now ⊕ v
aimed d origin now None = now

unfoldable pub target : Distance → Point → Point → Values → Point
target d origin now v =
    record {
      x = aimed d origin.x now.x v.x;
      y = aimed d origin.y now.y v.y;
      z = aimed d origin.z now.z v.z;
    }
