-- How large the values of a block's words can be, none of them being refused.
use Rattle.std.specs.Prelude.{◌≡◌}
use Rattle.lengths.specs.View.{Within}
use Rattle.codes.specs.declared.{Cycle.Cycle, Motion.Motion, Motion.TheVariants.Drilling}
use Rattle.words.specs.{declared.Values.Values, Values.worth}
use Rattle.letters.specs.declared.BlockCode.{BlockCode, TheVariants.Dwelling, TheVariants.Moving}

pub record Sizes (code : BlockCode) (v : Values) : Type 0 where
  pub x : Within 1_000_000_000 (worth v.x).v
  pub y : Within 1_000_000_000 (worth v.y).v
  pub z : Within 1_000_000_000 (worth v.z).v
  pub i : Within 1_000_000_000 (worth v.i).v
  pub j : Within 1_000_000_000 (worth v.j).v
  pub k : Within 1_000_000_000 (worth v.k).v
  pub r : Within 1_000_000_000 (worth v.r).v
  pub f : Within 1_000_000_000 (worth v.f).v
  pub s : Within 99_999 (worth v.s).v
  -- P is a dwell wherever it is not the number of a program, and K is a count in a cycle
  pub dwell : code ≡ Dwelling → Within 3_600_000 (worth v.p).v
  pub moving : (motion : Motion) → code ≡ Moving motion → Within 3_600_000 (worth v.p).v
  pub count : (cycle : Cycle) → code ≡ Moving (Drilling cycle) → Within 9_999 (worth v.k).v
