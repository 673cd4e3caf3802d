-- `svg::arc_text::put_bend` meets its contract: round, or from the edge.
use Rattle.terms.proofs.Common.{sym, ◌∙◌}
use Rattle.svg.specs.ArcText.{bend}
use Rattle.svg.proofs.{Filled.fills_then}
use Rattle.svg.proofs.arc_text.put_bend.Goals as goal

pub returns-then-is_round : goal.returns-then-is_round
unfolding bend
returns-then-is_round c =
    rw (sym c.is_round.ensures ∙ c.if-is_round.true, ← c.seen-end.ensures)
    (fills_then c.put_quarters-turned.ensures c.put_piece.ensures)

pub returns : goal.returns
unfolding bend
returns c =
    rw (sym c.is_round.ensures ∙ c.if-is_round.false, ← c.seen-end.ensures)
    (fills_then c.put_extremes-reached.ensures c.put_form.ensures)
