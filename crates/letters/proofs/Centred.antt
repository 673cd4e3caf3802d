-- Whether a block is an arc with a centre word. Assumes nothing.
use Rattle.terms.proofs.Common.{ℕ, ◌≡◌, refl, sym, Bool, true, false, ◌||◌, List, [], ◌∷◌, eqb}
use denote.Enum.Declared.{tag_of}
use types.Run.{OneOf, miss}
use Rattle.terms.specs.Terms.{any}
use Rattle.codes.{specs.declared.Motion.Motion, specs.contracts.Motion.the_type as motion-type}
use Rattle.codes.specs.declared.Motion.TheVariants.{Off, G00, G01, G02, G03, Drilling}
use Rattle.words.specs.declared.Word.{Word}
use Rattle.letters.specs.{declared.BlockCode.BlockCode, Letters.turns, Letters.is_arc}
use Rattle.letters.specs.declared.BlockCode.TheVariants.{Calling, Returning, Dwelling, Moving}
use Rattle.letters.specs.contracts.BlockCode.{the_type as code-type}

-- one of two letters stands among a block's words where the one or the other does
one_of_two :
    (a b : ℕ) (ws : List Word)
    → any (λ (w : Word). any (eqb w.letter) (a ∷ b ∷ [])) ws
    ≡ (any (λ (w : Word). eqb w.letter a) ws || any (λ (w : Word). eqb w.letter b) ws)
unfolding any
one_of_two a b [] = refl
one_of_two a b (w ∷ ws) =
    go (eqb w.letter a) (eqb w.letter b) (any (λ (w : Word). eqb w.letter a) ws) (any (λ (w : Word). eqb w.letter b) ws)
    (any (λ (w : Word). any (eqb w.letter) (a ∷ b ∷ [])) ws) (one_of_two a b ws)
  where
    go : (t u s v rest : Bool) → rest ≡ (s || v) → (t || (u || false) || rest) ≡ (t || s || (u || v))
    go true u s v rest e = refl
    go false true true v rest e = refl
    go false true false v rest e = refl
    go false false s v rest e = e

-- by what is told of each of the two
pub two_seen :
    (a b : ℕ) (ws : List Word) {p q : Bool}
    → p ≡ any (λ (w : Word). eqb w.letter a) ws → q ≡ any (λ (w : Word). eqb w.letter b) ws
    → (p || q) ≡ any (λ (w : Word). any (eqb w.letter) (a ∷ b ∷ [])) ws
two_seen a b ws e f = rw (e, f) (sym (one_of_two a b ws))

-- ---- motions and codes that have no arm of their own

pub other_motions : (m : Motion) → OneOf (0 ∷ 1 ∷ 2 ∷ 5 ∷ []) (tag_of motion-type m) → turns m ≡ false
unfolding turns
other_motions Off h = refl
other_motions G00 h = refl
other_motions G01 h = refl
other_motions G02 h = absurd (miss (0 ∷ 1 ∷ 2 ∷ 5 ∷ []) 3 tt h)
other_motions G03 h = absurd (miss (0 ∷ 1 ∷ 2 ∷ 5 ∷ []) 4 tt h)
other_motions (Drilling cycle) h = refl

pub other_codes : (code : BlockCode) → OneOf (0 ∷ 1 ∷ 2 ∷ []) (tag_of code-type code) → is_arc code ≡ false
unfolding is_arc
other_codes Calling h = refl
other_codes Returning h = refl
other_codes Dwelling h = refl
other_codes (Moving motion) h = absurd (miss (0 ∷ 1 ∷ 2 ∷ []) 3 tt h)
