-- `letters::cycle_use` meets its contract: the count, and the letters after it in the table.
use Rattle.terms.proofs.Common.{[], rules, refl, ◌∷◌}
use Rattle.terms.specs.Terms.{byte, bytes, any, all, lookup}
use Rattle.words.specs.declared.Use.TheVariants.{Length, Count}
use Rattle.letters.specs.Letters.{each, cycle_letters}
use Rattle.letters.proofs.{Uses.used_at, Uses.used_past}
use Rattle.letters.proofs.cycle_use.Goals as goal

pub returns-in_default : goal.returns-in_default
unfolding any all
returns-in_default c =
    used_past (bytes "K") ((byte "K", Count) ∷ []) (each (bytes "XYZR") Length) c.args.letter c.in_default.in_default-own.rest refl
    c.length_among.ensures

pub length_among-requires : goal.length_among-requires
unfolding lookup
length_among-requires c = search rules

pub returns-in-75 : goal.returns-in-75
unfolding lookup
returns-in-75 c = used_at cycle_letters (byte "K") c.in-75.is
