-- `drawing::layers::put_cut` meets its contract: a dot or a line.
use Rattle.terms.proofs.Common.{sym, ◌∙◌}
use Rattle.drawing.specs.Shapes.{cut}
use Rattle.drawing.proofs.layers.put_cut.Goals as goal

pub returns-then-is_same : goal.returns-then-is_same
unfolding cut
returns-then-is_same c =
    rw (← c.seen-end.ensures, ← c.seen.ensures, sym c.is_same.ensures ∙ c.if-is_same.true) c.put_form.ensures

pub returns : goal.returns
unfolding cut
returns c =
    let no = sym c.is_same.ensures ∙ c.if-is_same.false in
    rw (rw (c.seen-end.ensures, c.seen.ensures) at no) c.put_line.ensures
