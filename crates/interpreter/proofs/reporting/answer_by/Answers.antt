-- `interpreter::reporting::answer_by` meets its contract, ending by ending.
use Rattle.terms.proofs.Common.{ℕ, ◌≡◌, sym, ap, rules}
use Rattle.refusals.specs.declared.Place.{Place}
use Rattle.runs.specs.{Walk.Going, Run.answer_by}
use Rattle.interpreter.specs.{Progressing.how_by, declared.How.How}
use Rattle.interpreter.proofs.reporting.answer_by.Goals as goal

-- the answer by an ending that is known
by : (place : Place) (count : ℕ) (g : Going) {how told : How} → how ≡ told → answer_by (how_by told place g) count ≡ answer_by (how_by how place g) count
by place count g e = sym (ap (λ (how : How). answer_by (how_by how place g) count) e)

pub enum_told-1 : goal.enum_told-1
unfolding answer_by how_by
enum_told-1 c = search rules

pub enum_told-in-Returned : goal.enum_told-in-Returned
unfolding answer_by how_by
enum_told-in-Returned c = search rules

pub enum_told-in-Unfinished : goal.enum_told-in-Unfinished
unfolding answer_by how_by
enum_told-in-Unfinished c = search rules

pub enum_known-how : goal.enum_known-how
unfolding answer_by how_by
enum_known-how c = search rules

pub returns-in-Ended : goal.returns-in-Ended
unfolding answer_by how_by
returns-in-Ended c g = by _ _ g c.in-Ended.is

pub returns-in-Returned : goal.returns-in-Returned
unfolding answer_by how_by
returns-in-Returned c g = by _ _ g c.in-Returned.is

pub returns-in-Unfinished : goal.returns-in-Unfinished
unfolding answer_by how_by
returns-in-Unfinished c g = by _ _ g c.in-Unfinished.is

pub returns-in-Refused : goal.returns-in-Refused
unfolding answer_by how_by
returns-in-Refused c g = by _ _ g c.in-Refused.is
