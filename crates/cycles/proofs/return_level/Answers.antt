-- `cycles::return_level` meets its contract, code by code.
use Rattle.terms.proofs.Common.{sym, ap}
use Rattle.codes.specs.declared.Return.{Return}
use Rattle.cycles.specs.Cycles.{level_for, return_level}
use Rattle.cycles.proofs.return_level.Goals as goal

pub returns-in-ToInitial : goal.returns-in-ToInitial
unfolding level_for return_level
returns-in-ToInitial c = sym (ap (λ (b : Return). level_for b c.args.h) c.in-ToInitial.is)

pub returns-in-ToR : goal.returns-in-ToR
unfolding level_for return_level
returns-in-ToR c = sym (ap (λ (b : Return). level_for b c.args.h) c.in-ToR.is)
