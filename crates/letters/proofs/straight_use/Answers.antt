-- `letters::straight_use` meets its contract: the letters of the table, and every other.
use Rattle.terms.proofs.Common.{[], refl}
use Rattle.terms.specs.Terms.{byte, bytes, any, all, lookup}
use Rattle.letters.specs.Letters.{straight_letters}
use Rattle.letters.proofs.{Uses.used_at, Uses.used_past}
use Rattle.letters.proofs.straight_use.Goals as goal

pub returns-in-88 : goal.returns-in-88
unfolding lookup any all
returns-in-88 c = used_at straight_letters (byte "X") c.in-88.is

pub returns-in-89 : goal.returns-in-89
unfolding lookup any all
returns-in-89 c = used_at straight_letters (byte "Y") c.in-89.is

pub returns-in-90 : goal.returns-in-90
unfolding lookup any all
returns-in-90 c = used_at straight_letters (byte "Z") c.in-90.is

pub returns-in_default : goal.returns-in_default
unfolding lookup any all
returns-in_default c = used_past (bytes "ZYX") straight_letters [] c.args.letter c.in_default.in_default-own.rest refl refl
