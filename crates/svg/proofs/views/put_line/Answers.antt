-- `svg::views::put_line` meets its contract: between the points as they are seen.
use Rattle.svg.proofs.views.put_line.Goals as goal

pub returns : goal.returns
returns c = rw (← c.seen-start.ensures, ← c.seen-end.ensures) c.put_form.ensures
