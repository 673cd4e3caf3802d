-- `cycles::up_count` meets its contract: by the code that is on, and for G85 and G89 by the level to return to.
use Rattle.terms.proofs.Common.{⊎_elim}
use Rattle.cycles.proofs.{Rows.length_81, Rows.length_82, Rows.length_initial, Rows.length_r}
use Rattle.cycles.proofs.up_count.Goals as goal

pub returns-in-G81 : goal.returns-in-G81
returns-in-G81 c = ⊎_elim length_81 length_82 c.in-G81.is

pub returns-in-ToInitial : goal.returns-in-ToInitial
returns-in-ToInitial c = length_initial c.in_default.in_default-own.keys2 c.in-ToInitial.is

pub returns-in-ToR : goal.returns-in-ToR
returns-in-ToR c = length_r c.in_default.in_default-own.keys2 c.in-ToR.is
