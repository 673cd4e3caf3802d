-- `settings::switched` meets its contract, group by group.
use Rattle.terms.proofs.Common.{⊎_elim}
use Rattle.settings.specs.Settings.{switched}
use Rattle.settings.proofs.switched.Goals as goal

pub returns-in-GroupA : goal.returns-in-GroupA
unfolding switched
returns-in-GroupA c = rw c.in-GroupA.is

pub returns-in-GroupB : goal.returns-in-GroupB
unfolding switched
returns-in-GroupB c = rw c.in-GroupB.is

pub returns-in-GroupC : goal.returns-in-GroupC
unfolding switched
returns-in-GroupC c = rw c.in-GroupC.is

pub returns-in-GroupD : goal.returns-in-GroupD
unfolding switched
returns-in-GroupD c = rw c.in-GroupD.is

pub returns-in-GroupE : goal.returns-in-GroupE
unfolding switched
returns-in-GroupE c = rw c.in-GroupE.is

pub returns-in-GroupF : goal.returns-in-GroupF
unfolding switched
returns-in-GroupF c = rw c.in-GroupF.is

pub returns-in-G04 : goal.returns-in-G04
unfolding switched
returns-in-G04 c = ⊎_elim (λ e. rw e) (λ e. rw e) c.in-G04.is
