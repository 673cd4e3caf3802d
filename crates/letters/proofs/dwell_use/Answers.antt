-- `letters::dwell_use` meets its contract: the letters of the table, and every other.
use Rattle.terms.proofs.Common.{[], refl}
use Rattle.terms.specs.Terms.{byte, bytes, any, all, lookup}
use Rattle.letters.specs.Letters.{dwell_letters}
use Rattle.letters.proofs.{Uses.used_at, Uses.used_past}
use Rattle.letters.proofs.dwell_use.Goals as goal

pub returns-in-80 : goal.returns-in-80
unfolding lookup any all
returns-in-80 c = used_at dwell_letters (byte "P") c.in-80.is

pub returns-in-70 : goal.returns-in-70
unfolding lookup any all
returns-in-70 c = used_at dwell_letters (byte "F") c.in-70.is

pub returns-in-83 : goal.returns-in-83
unfolding lookup any all
returns-in-83 c = used_at dwell_letters (byte "S") c.in-83.is

pub returns-in_default : goal.returns-in_default
unfolding lookup any all
returns-in_default c = used_past (bytes "SFP") dwell_letters [] c.args.letter c.in_default.in_default-own.rest refl refl
