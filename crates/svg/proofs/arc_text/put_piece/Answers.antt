-- `svg::arc_text::put_piece` meets its contract: by the turn as it is seen.
use Rattle.terms.proofs.Common.{sym, ◌∙◌}
use Rattle.svg.specs.ArcText.{piece}
use Rattle.svg.proofs.arc_text.put_piece.Goals as goal

pub returns-then-turn_seen : goal.returns-then-turn_seen
unfolding piece
returns-then-turn_seen c = rw (sym c.turn_seen.ensures ∙ c.if-turn_seen.true) c.put_form.ensures

pub returns : goal.returns
unfolding piece
returns c = rw (sym c.turn_seen.ensures ∙ c.if-turn_seen.false) c.put_form-2.ensures
