-- `svg::arc_text::put_arc` meets its contract: as it is seen, or far.
use Rattle.terms.proofs.Common.{sym, ◌∙◌}
use Rattle.svg.specs.ArcText.{arc}
use Rattle.svg.proofs.{Filled.fills_then, Turned.drawable_facts}
use Rattle.svg.proofs.arc_text.put_arc.Goals as goal

pub returns-then-not-is_drawable : goal.returns-then-not-is_drawable
unfolding arc
returns-then-not-is_drawable c = rw (sym c.is_drawable.ensures ∙ c.if-not-is_drawable.true) c.put_line.ensures

pub seen_arc-requires : goal.seen_arc-requires
seen_arc-requires c =
    let x = c.args in drawable_facts x.from x.a (sym c.is_drawable.ensures ∙ c.if-not-is_drawable.false)

pub returns : goal.returns
unfolding arc
returns c =
    rw (sym c.is_drawable.ensures ∙ c.if-not-is_drawable.false, ← c.seen-start.ensures, ← c.seen_arc.ensures.0)
    (fills_then c.put_form-begun.ensures (fills_then c.put_bend-last.ensures c.put_text.ensures))
