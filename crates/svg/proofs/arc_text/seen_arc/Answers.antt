-- `svg::arc_text::seen_arc` meets its contract: each part as its call gives it.
use Rattle.terms.proofs.Common.{arith}
use Rattle.svg.specs.ArcText.{seen_arc}
use Rattle.svg.proofs.arc_text.seen_arc.Goals as goal

pub returns : goal.returns
unfolding seen_arc
returns c = (
  rw (c.of_count.ensures.is, c.radius_of.ensures.0, c.from_centre-2.ensures.is, c.from_centre.ensures.is),
  record {
    drawable = c.requires;
    start = c.from_centre.ensures.small;
    end = c.from_centre-2.ensures.small;
    radius = record { hi = omega arith; lo = omega arith };
  },
)
