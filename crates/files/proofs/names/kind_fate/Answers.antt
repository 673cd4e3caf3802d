-- `files::names::kind_fate` meets its contract.
use Rattle.terms.proofs.Common.{rules}
use Rattle.files.proofs.{Fates.kind_locked, Fates.kind_old, Fates.kind_folder, Fates.kind_special}
use Rattle.files.proofs.names.kind_fate.Goals as goal

pub returns-in-8 : goal.returns-in-8
returns-in-8 c = kind_locked _ _ c.in-8.is c.if-locked.true

pub returns-in-8-2 : goal.returns-in-8-2
returns-in-8-2 c = kind_old _ _ c.in-8.is c.if-locked.false

pub returns-in-4 : goal.returns-in-4
returns-in-4 c = kind_folder _ _ (search rules) c.in-4.is

pub returns-in_default : goal.returns-in_default
returns-in_default c = kind_special c.args.kind c.args.locked (search rules) (search rules)
