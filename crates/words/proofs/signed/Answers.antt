-- `words::signed` meets its contract, sign by sign.
use Rattle.terms.proofs.Common.{⊎_elim}
use Rattle.words.specs.Values.{signed}
use Rattle.words.proofs.signed.Goals as goal

pub returns-in-Plain : goal.returns-in-Plain
unfolding signed
returns-in-Plain c = rw c.of_count-z.ensures.is (⊎_elim (λ e. rw e) (λ e. rw e) c.in-Plain.is)

pub returns-in-Minus : goal.returns-in-Minus
unfolding signed
returns-in-Minus c = rw (c.in-Minus.is, c.negated.ensures.is, c.of_count-z.ensures.is)
