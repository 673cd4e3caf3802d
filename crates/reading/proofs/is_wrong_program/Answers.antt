-- `reading::is_wrong_program` meets its contract: M99 in the main program, M02 and M30 in a subprogram, and no other.
use Rattle.terms.proofs.Common.{◌∙◌, inl, inr}
use Rattle.codes.specs.{Codes.misc_number, Codes.is_m, declared.Misc.TheVariants.M02, declared.Misc.TheVariants.M30}
use Rattle.letters.specs.Letters.{wrong_program}
use Rattle.reading.proofs.Letters.{is_no, same_m99}
use Rattle.reading.proofs.is_wrong_program.Goals as goal

pub returns-then-main : goal.returns-then-main
unfolding wrong_program
returns-then-main c = rw c.if-main.true (c.eq.ensures ∙ same_m99 c.args.m)

pub returns-in-M02 : goal.returns-in-M02
unfolding wrong_program is_m misc_number
returns-in-M02 c = elim c.in-M02.is [ inl e ↦ rw (c.if-main.false, e) | inr e ↦ rw (c.if-main.false, e) ]

pub returns-in_default : goal.returns-in_default
unfolding wrong_program misc_number
returns-in_default c = rw (c.if-main.false, is_no M02 c.args.m c.in_default.not-M02, is_no M30 c.args.m c.in_default.not-M30)
