-- `texts::space_of` meets its contract: the definition's tests in order.
use Rattle.terms.proofs.Common.{◌∙◌, sym, ne_eqb}
use Rattle.texts.specs.Texts.{space_of}
use Rattle.texts.proofs.space_of.Goals as goal

pub returns-then-inside : goal.returns-then-inside
unfolding space_of
returns-then-inside c = rw c.if-inside.true

pub returns-then-b-eq35 : goal.returns-then-b-eq35
unfolding space_of
returns-then-b-eq35 c = rw (c.if-inside.false, c.if-b-eq35.true)

pub returns-then-is_blank : goal.returns-then-is_blank
unfolding space_of
returns-then-is_blank c =
    let h = c.if-b-eq35.false in
    rw (c.if-inside.false, ne_eqb _ 35 h, sym c.is_blank.ensures ∙ c.if-is_blank.true)

pub returns : goal.returns
unfolding space_of
returns c =
    let h = c.if-b-eq35.false in
    rw (c.if-inside.false, ne_eqb _ 35 h, sym c.is_blank.ensures ∙ c.if-is_blank.false)
