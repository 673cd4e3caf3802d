-- What displacing a record asks: each of its places leaves room for a sum in 64 bits.
use Rattle.std.specs.Prelude.{◌^◌}
use Rattle.lengths.specs.{View.Within, Near.Near}
use Rattle.records.specs.{declared.Arc.Arc, Path.Path, Path.straight, Path.clockwise, Path.counter, Path.still}

pub record LooseArc (a : Arc) : Type 0 where
  pub end : Near (2 ^ 61) a.end
  pub first : Within (2 ^ 61) a.first.v
  pub second : Within (2 ^ 61) a.second.v

abbrev pub Loose : Path → Type 0
Loose (straight p) = Near (2 ^ 61) p
Loose (clockwise a) = LooseArc a
Loose (counter a) = LooseArc a
Loose still = Unit
