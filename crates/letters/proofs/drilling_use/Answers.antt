-- `letters::drilling_use` meets its contract, cycle by cycle.
use Rattle.terms.proofs.Common.{⊎_elim}
use Rattle.letters.specs.Letters.{drilling_letters}
use Rattle.letters.proofs.drilling_use.Goals as goal

pub returns-in-G81 : goal.returns-in-G81
unfolding drilling_letters
returns-in-G81 c = rw c.cycle_use.ensures (⊎_elim (λ e. rw e) (λ e. rw e) c.in-G81.is)

pub returns-in-G82 : goal.returns-in-G82
unfolding drilling_letters
returns-in-G82 c = rw c.dwelling_cycle_use.ensures (⊎_elim (λ e. rw e) (λ e. rw e) c.in-G82.is)
