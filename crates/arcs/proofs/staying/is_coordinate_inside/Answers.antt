-- `arcs::staying::is_coordinate_inside` meets its contract, by the definition's three cases.
use Rattle.terms.proofs.Common.{sym, ◌∙◌}
use Rattle.arcs.specs.Arcs.{coordinate_inside}
use Rattle.arcs.proofs.staying.is_coordinate_inside.Goals as goal

pub returns-then-below : goal.returns-then-below
unfolding coordinate_inside
returns-then-below c =
    let none = c.zero-none.ensures.is in
    let e = sym (rw none at c.below.ensures) ∙ c.if-below.true in
    rw (c.root_reaches.ensures, c.root_stays_below.ensures, e)

pub returns-then-below-2 : goal.returns-then-below-2
unfolding coordinate_inside
returns-then-below-2 c =
    let none = c.zero-none.ensures.is in
    let e = sym (rw none at c.below.ensures) ∙ c.if-below.false in
    let f = sym (rw none at c.below-2.ensures) ∙ c.if-below-2.true in
    rw (c.root_stays_below-then-below-2.ensures, c.root_reaches-then-below-2.ensures, e, f)

pub returns : goal.returns
unfolding coordinate_inside
returns c =
    let none = c.zero-none.ensures.is in
    let e = sym (rw none at c.below.ensures) ∙ c.if-below.false in
    let f = sym (rw none at c.below-2.ensures) ∙ c.if-below-2.false in
    rw (c.at_most.ensures, c.at_most-2.ensures, e, f)
