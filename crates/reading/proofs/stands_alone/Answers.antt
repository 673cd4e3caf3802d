-- `reading::stands_alone` meets its contract: M98 and M99, and no other.
use Rattle.terms.proofs.Common.{inl, inr}
use Rattle.codes.specs.{Codes.misc_number, Codes.is_m, declared.Misc.TheVariants.M98, declared.Misc.TheVariants.M99}
use Rattle.letters.specs.Letters.{stands_alone}
use Rattle.reading.proofs.Letters.{is_no}
use Rattle.reading.proofs.stands_alone.Goals as goal

pub returns-in-M98 : goal.returns-in-M98
unfolding stands_alone is_m misc_number
returns-in-M98 c = elim c.in-M98.is [ inl e ↦ rw e | inr e ↦ rw e ]

pub returns-in_default : goal.returns-in_default
unfolding stands_alone misc_number
returns-in_default c = rw (is_no M98 c.args.m c.in_default.not-M98, is_no M99 c.args.m c.in_default.not-M99)
