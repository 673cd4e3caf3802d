-- `letters::motion_use` meets its contract, motion by motion.
use Rattle.terms.proofs.Common.{⊎_elim}
use Rattle.terms.specs.Terms.{lookup}
use Rattle.letters.specs.Letters.{motion_letters}
use Rattle.letters.proofs.motion_use.Goals as goal

pub returns-in-Off : goal.returns-in-Off
unfolding motion_letters lookup
returns-in-Off c = rw c.in-Off.is

pub returns-in-G00 : goal.returns-in-G00
unfolding motion_letters lookup
returns-in-G00 c = rw c.straight_use.ensures (⊎_elim (λ e. rw e) (λ e. rw e) c.in-G00.is)

pub returns-in-G02 : goal.returns-in-G02
unfolding motion_letters lookup
returns-in-G02 c = rw c.arc_use.ensures (⊎_elim (λ e. rw e) (λ e. rw e) c.in-G02.is)

pub returns-in-Drilling : goal.returns-in-Drilling
unfolding motion_letters lookup
returns-in-Drilling c = rw c.in-Drilling.is c.drilling_use.ensures
