-- `letters::dwelling_cycle_use` meets its contract: the dwell, and the letters of any cycle after it.
use Rattle.terms.proofs.Common.{[], rules, refl, ◌∷◌}
use Rattle.terms.specs.Terms.{byte, bytes, any, all, lookup}
use Rattle.words.specs.declared.Use.TheVariants.{Dwell}
use Rattle.letters.specs.Letters.{cycle_letters, dwelling_cycle_letters}
use Rattle.letters.proofs.{Uses.used_at, Uses.used_past}
use Rattle.letters.proofs.dwelling_cycle_use.Goals as goal

pub returns-in_default : goal.returns-in_default
unfolding any all
returns-in_default c =
    used_past (bytes "P") ((byte "P", Dwell) ∷ []) cycle_letters c.args.letter c.in_default.in_default-own.rest refl
    c.cycle_use.ensures

pub cycle_use-requires : goal.cycle_use-requires
unfolding lookup
cycle_use-requires c = search rules

pub returns-in-80 : goal.returns-in-80
unfolding lookup
returns-in-80 c = used_at dwelling_cycle_letters (byte "P") c.in-80.is
