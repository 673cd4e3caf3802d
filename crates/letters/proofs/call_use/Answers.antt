-- `letters::call_use` meets its contract: the letter of the table, and every other.
use Rattle.terms.proofs.Common.{[], refl}
use Rattle.terms.specs.Terms.{byte, bytes, any, all, lookup}
use Rattle.letters.specs.Letters.{call_letters}
use Rattle.letters.proofs.{Uses.used_at, Uses.used_past}
use Rattle.letters.proofs.call_use.Goals as goal

pub returns-in-80 : goal.returns-in-80
unfolding lookup any all
returns-in-80 c = used_at call_letters (byte "P") c.in-80.is

pub returns-in_default : goal.returns-in_default
unfolding lookup any all
returns-in_default c = used_past (bytes "P") call_letters [] c.args.letter c.in_default.in_default-own.rest refl refl
