-- `svg::views::seen` meets its contract: view by view.
use Rattle.svg.specs.Lines.{seen_from}
use Rattle.svg.proofs.views.seen.Goals as goal

pub returns-in-Above : goal.returns-in-Above
unfolding seen_from
returns-in-Above c =
    rw c.in-Above.is

pub returns-in-Side : goal.returns-in-Side
unfolding seen_from
returns-in-Side c =
    rw c.in-Side.is
