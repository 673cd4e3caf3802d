-- `words::sign_number` meets its contract, sign by sign.
use Rattle.words.specs.Packed.{sign_number}
use Rattle.words.proofs.sign_number.Goals as goal

pub returns-in-Plain : goal.returns-in-Plain
unfolding sign_number
returns-in-Plain c = rw c.in-Plain.is

pub returns-in-Plus : goal.returns-in-Plus
unfolding sign_number
returns-in-Plus c = rw c.in-Plus.is

pub returns-in-Minus : goal.returns-in-Minus
unfolding sign_number
returns-in-Minus c = rw c.in-Minus.is
