-- Where a run starts, displaced. Assumes nothing.
use Rattle.terms.proofs.Common.{◌≡◌, refl}
use Rattle.lengths.specs.{declared.Len.Len, declared.Point.Point, Points.moved}
use Rattle.settings.specs.{Settings.none_kept, Settings.first_state, Settings.kept_moved, Settings.state_moved}

-- the settings at a displaced start are the settings at the start, displaced
pub first_moved : (by start : Point) (feed speed : Len) → first_state (moved by start) feed speed ≡ state_moved by (first_state start feed speed)
unfolding first_state state_moved kept_moved none_kept moved
first_moved by start feed speed = refl
