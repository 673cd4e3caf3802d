-- The states that a run can reach, and what the words of a block can say in them. Every block keeps this, as it is proved in
-- proofs/.
use Rattle.std.specs.Prelude.{◌<◌, ◌≡◌}
use Rattle.terms.specs.Common.{true}
use Rattle.lengths.specs.{View.Within, Points.inside}
use Rattle.setup.specs.{declared.Bed.Bed, Fair.Fair}
use Rattle.letters.specs.Sizes.{Sizes}
use Rattle.settings.specs.{declared.State.State, Bounds.KeptNear}
use Rattle.blocks.specs.declared.Said.{Said}

pub record Reachable (bed : Bed) (s : State) : Type 0 where
  pub at : inside bed.travel s.at ≡ true
  pub origin : s.modes.origin < 6
  pub feed : Within 1_000_000_000 s.feed.v
  pub speed : Within 99_999 s.speed.v
  pub kept : KeptNear s.kept

-- none of the block's values is refused
pub record Meant (b : Said) : Type 0 where
  pub sizes : Sizes b.code b.values
  pub origin : b.modes.origin < 6

-- all that the motion of a block counts on
pub record Steady (bed : Bed) (s : State) (b : Said) : Type 0 where
  pub fair : Fair bed
  pub state : Reachable bed s
  pub said : Meant b
