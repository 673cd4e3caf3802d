-- `letters::arc_use` meets its contract: the radius, and the letters after it in the table.
use Rattle.terms.proofs.Common.{[], rules, refl, ◌∷◌, ◌++◌}
use Rattle.terms.specs.Terms.{byte, bytes, any, all, lookup}
use Rattle.words.specs.declared.Use.TheVariants.{Length}
use Rattle.letters.specs.Letters.{each, end_letters, centre_letters, arc_letters}
use Rattle.letters.proofs.{Uses.used_at, Uses.used_past}
use Rattle.letters.proofs.arc_use.Goals as goal

pub returns-in_default : goal.returns-in_default
unfolding any all arc_letters
returns-in_default c =
    let plane = c.args.plane in
    used_past (bytes "R") ((byte "R", Length) ∷ []) (each (end_letters plane ++ centre_letters plane) Length) c.args.letter c.in_default.in_default-own.rest refl
    c.plane_use.ensures

pub plane_use-requires : goal.plane_use-requires
unfolding lookup arc_letters
plane_use-requires c = search rules

pub returns-in-82 : goal.returns-in-82
unfolding lookup arc_letters
returns-in-82 c = used_at (arc_letters c.args.plane) (byte "R") c.in-82.is
