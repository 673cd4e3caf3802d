use Rattle.terms.proofs.Common.{sym, ◌∙◌}
use Rattle.letters.specs.Letters.{misc_in}
use Rattle.reading.proofs.misc_in.Goals as goal

pub returns-then-is_plain : goal.returns-then-is_plain
unfolding misc_in
returns-then-is_plain c = rw (sym c.is_plain.ensures ∙ c.if-is_plain.true) c.misc_of.ensures

pub returns-else-is_plain : goal.returns-else-is_plain
unfolding misc_in
returns-else-is_plain c = rw (sym c.is_plain.ensures ∙ c.if-is_plain.false)
