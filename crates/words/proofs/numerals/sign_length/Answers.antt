-- `words::numerals::sign_length` meets its contract, sign by sign.
use Rattle.terms.proofs.Common.{inl, inr}
use Rattle.words.specs.Numbers.{sign_length}
use Rattle.words.proofs.numerals.sign_length.Goals as goal

pub returns-in-Plain : goal.returns-in-Plain
unfolding sign_length
returns-in-Plain c = rw c.in-Plain.is

pub returns-in-Plus : goal.returns-in-Plus
unfolding sign_length
returns-in-Plus c = elim c.in-Plus.is [ inl e ↦ rw e | inr e ↦ rw e ]
