-- What a letter means by a table of letters: a letter that the table has, and one that its first rows do not have. Assumes
-- nothing.
use Rattle.terms.proofs.Common.{ℕ, ◌≡◌, refl, sym, ap, ◌∙◌, true, false, List, [], ◌∷◌, ◌++◌}
use denote.Enum.Declared.{tag_of}
use types.Run.{OneOf, miss}
use Rattle.terms.specs.Terms.{byte, bytes, any, all}
use Rattle.codes.{specs.declared.Plane.Plane, proofs.Tables.Others, proofs.Tables.among, proofs.Tables.passes, proofs.Tables.others_past}
use Rattle.words.{specs.declared.Use.Use, specs.contracts.Use.the_type}
use Rattle.words.specs.declared.Use.TheVariants.{Nothing, Codes, Label, Program, Length, Feed, Speed, Dwell, Count}
use Rattle.letters.specs.{Letters.used_in, Letters.letters_of, Letters.use_of, Letters.is_nothing, declared.BlockCode.BlockCode}

pub used_at : (rows : List (ℕ × Use)) (k : ℕ) {n : ℕ} → n ≡ k → used_in rows k ≡ used_in rows n
used_at rows k e = ap (used_in rows) (sym e)

-- `ks` are the letters of a `match`, the last arm's first
pub used_past :
    (ks : List ℕ) (rows back : List (ℕ × Use)) (n : ℕ) {r : Use} → Others n ks → passes (among ks) rows ≡ true
    → r ≡ used_in back n → r ≡ used_in (rows ++ back) n
used_past ks rows back n h t e = e ∙ sym (others_past n ks rows back Nothing h t)

module _ (code : BlockCode) (plane : Plane) where
  pub use_at : (k : ℕ) {n : ℕ} → n ≡ k → use_of code plane k ≡ use_of code plane n
  use_at k e = ap (use_of code plane) (sym e)

  pub use_past :
      (n : ℕ) {r : Use} → Others n (bytes "MGN") → r ≡ used_in (letters_of code plane) n → r ≡ use_of code plane n
  unfolding use_of any all
  use_past n h e =
      used_past (bytes "MGN") ((byte "N", Label) ∷ (byte "G", Codes) ∷ (byte "M", Codes) ∷ []) (letters_of code plane) n h refl e

-- every use but the first
pub other_uses : (u : Use) → OneOf (1 ∷ 2 ∷ 3 ∷ 4 ∷ 5 ∷ 6 ∷ 7 ∷ 8 ∷ []) (tag_of the_type u) → is_nothing u ≡ false
unfolding is_nothing
other_uses Nothing h = absurd (miss (1 ∷ 2 ∷ 3 ∷ 4 ∷ 5 ∷ 6 ∷ 7 ∷ 8 ∷ []) 0 tt h)
other_uses Codes h = refl
other_uses Label h = refl
other_uses Program h = refl
other_uses Length h = refl
other_uses Feed h = refl
other_uses Speed h = refl
other_uses Dwell h = refl
other_uses Count h = refl
