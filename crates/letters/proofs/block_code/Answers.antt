-- `letters::block_code` meets its contract: M98 and M99 first, and of the other codes neither has its number.
use Rattle.terms.proofs.Common.{◌≡◌, refl, false}
use Rattle.codes.specs.{declared.Misc.Misc, declared.Misc.TheVariants.M00, declared.Misc.TheVariants.M02, declared.Misc.TheVariants.M03, declared.Misc.TheVariants.M05, declared.Misc.TheVariants.M30, declared.Misc.TheVariants.M98, declared.Misc.TheVariants.M99, declared.Misc.TheVariants.Other, Codes.is_m, Codes.misc_number}
use Rattle.letters.specs.Letters.{code_under}
use Rattle.letters.proofs.block_code.Goals as goal

no_call : (m : Misc) → (m ≡ M98 → ⊥) → (m ≡ M99 → ⊥) → (is_m 98 m ≡ false) × (is_m 99 m ≡ false)
unfolding is_m misc_number
no_call M00 h k = (refl, refl)
no_call M02 h k = (refl, refl)
no_call M03 h k = (refl, refl)
no_call M05 h k = (refl, refl)
no_call M30 h k = (refl, refl)
no_call M98 h k = absurd (h refl)
no_call M99 h k = absurd (k refl)
no_call Other h k = (refl, refl)

pub returns-in-M98 : goal.returns-in-M98
unfolding code_under is_m misc_number
returns-in-M98 c = rw c.in-M98.is

pub returns-in-M99 : goal.returns-in-M99
unfolding code_under is_m misc_number
returns-in-M99 c = rw c.in-M99.is

pub returns-in_default : goal.returns-in_default
unfolding code_under
returns-in_default c = let no = no_call c.args.misc c.in_default.not-M98 c.in_default.not-M99 in rw (no.0, no.1, c.if-dwells.true)

pub returns-in_default-2 : goal.returns-in_default-2
unfolding code_under
returns-in_default-2 c = let no = no_call c.args.misc c.in_default.not-M98 c.in_default.not-M99 in rw (no.0, no.1, c.if-dwells.false)
