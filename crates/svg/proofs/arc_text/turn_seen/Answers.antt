-- `svg::arc_text::turn_seen` meets its contract: view by view.
use Rattle.svg.specs.ArcText.{turn_seen}
use Rattle.svg.proofs.arc_text.turn_seen.Goals as goal

pub returns-in-Above : goal.returns-in-Above
unfolding turn_seen
returns-in-Above c =
    rw c.in-Above.is

pub returns-in-Side : goal.returns-in-Side
unfolding turn_seen
returns-in-Side c =
    rw c.in-Side.is
