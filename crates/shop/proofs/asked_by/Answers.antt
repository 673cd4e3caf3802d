-- `shop::asked_by` meets its contract: the words are tried one after the other.
use Rattle.terms.proofs.Common.{sym, ◌∙◌}
use Rattle.shop.specs.Asking.{asked_by}
use Rattle.shop.proofs.asked_by.Goals as goal

pub returns-then-is : goal.returns-then-is
unfolding asked_by
returns-then-is c = rw (sym c.is.ensures ∙ c.if-is.true)

pub returns-then-is-2 : goal.returns-then-is-2
unfolding asked_by
returns-then-is-2 c =
    rw (sym c.is.ensures ∙ c.if-is.false, sym c.is-2.ensures ∙ c.if-is-2.true)

pub returns-then-is-3 : goal.returns-then-is-3
unfolding asked_by
returns-then-is-3 c =
    rw
    (sym c.is.ensures ∙ c.if-is.false, sym c.is-2.ensures ∙ c.if-is-2.false, sym c.is-3.ensures ∙ c.if-is-3.true)

pub returns-then-is-4 : goal.returns-then-is-4
unfolding asked_by
returns-then-is-4 c =
    rw
    (sym c.is.ensures ∙ c.if-is.false, sym c.is-2.ensures ∙ c.if-is-2.false, sym c.is-3.ensures ∙ c.if-is-3.false, sym c.is-4.ensures ∙ c.if-is-4.true)

pub returns : goal.returns
unfolding asked_by
returns c =
    rw
    (sym c.is.ensures ∙ c.if-is.false, sym c.is-2.ensures ∙ c.if-is-2.false, sym c.is-3.ensures ∙ c.if-is-3.false, sym c.is-4.ensures ∙ c.if-is-4.false)
