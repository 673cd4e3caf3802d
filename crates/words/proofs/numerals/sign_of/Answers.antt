-- `words::numerals::sign_of` meets its contract, byte by byte.
use Rattle.terms.proofs.Common.{ne_eqb}
use Rattle.terms.specs.Terms.{byte}
use Rattle.words.specs.Numbers.{sign_of}
use Rattle.words.proofs.numerals.sign_of.Goals as goal

pub returns-in-43 : goal.returns-in-43
unfolding sign_of
returns-in-43 c = rw c.in-43.is

pub returns-in-45 : goal.returns-in-45
unfolding sign_of
returns-in-45 c = rw c.in-45.is

pub returns-in_default : goal.returns-in_default
unfolding sign_of
returns-in_default c = let other = c.in_default.in_default-own.rest in rw (ne_eqb _ (byte "+") other.0.1, ne_eqb _ (byte "-") other.1)
