use Rattle.terms.proofs.Common.{sym, ◌∙◌}
use Rattle.letters.specs.Letters.{code_in}
use Rattle.reading.proofs.code_in.Goals as goal

pub returns-then-is_plain : goal.returns-then-is_plain
unfolding code_in
returns-then-is_plain c = rw (sym c.is_plain.ensures ∙ c.if-is_plain.true) c.code_of.ensures

pub returns-else-is_plain : goal.returns-else-is_plain
unfolding code_in
returns-else-is_plain c = rw (sym c.is_plain.ensures ∙ c.if-is_plain.false)
