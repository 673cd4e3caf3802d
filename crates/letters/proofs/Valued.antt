-- A block's G and M words change nothing in the judgement of its words: their use is to be codes, which is never refused here
-- and is no value. Assumes nothing.
use Rattle.lengths.specs.declared.Len.{Len}
use Rattle.std.specs.Prelude.{if◌then◌else◌}
use Rattle.terms.proofs.Common.{ℕ, ◌≡◌, refl, Bool, true, false, ◌||◌, and-false, Some, List, [], ◌∷◌, eqb, eqb-true, Option}
use Rattle.terms.specs.Terms.{byte, first, lookup}
use Rattle.codes.specs.declared.Plane.{Plane}
use Rattle.words.specs.{declared.Word.Word, declared.Use.TheVariants.Codes, declared.Values.Values, Values.value_of, Values.no_values}
use Rattle.settings.specs.declared.Modes.{Modes}
use Rattle.letters.specs.{declared.Speeds.Speeds, declared.BlockCode.BlockCode, Judging.judged_by, Judging.valued}
use Rattle.letters.specs.Letters.{is_g, is_misc, use_of, is_nothing, is_unused, first_unused, word_value, is_bad, first_bad_value, with_value, values_after, values_of}

-- what holds of the letters G and M holds of a word that is one of the two
code_word :
    (P : ℕ → Type 0) (w : Word) → P (byte "G") → P (byte "M") → is_g w || is_misc w ≡ true → P w.letter
code_word P w g m e = go (is_g w) refl e
  where
    go : (t : Bool) → is_g w ≡ t → t || is_misc w ≡ true → P w.letter
    go true f h = rw (eqb-true w.letter (byte "G") f) g
    go false f h = rw (eqb-true w.letter (byte "M") h) m

-- a search through a block that passes every G and M word
first_valued :
    (test : Word → Bool) → ((w : Word) → is_g w || is_misc w ≡ true → test w ≡ false)
    → (ws : List Word) → first test (valued ws) ≡ first test ws
unfolding first valued
first_valued test passes [] = refl
first_valued test passes (w ∷ ws) = go (is_g w || is_misc w) refl (first_valued test passes ws)
  where
    go :
        (t : Bool) → is_g w || is_misc w ≡ t → first test (valued ws) ≡ first test ws
        → first test (if t then valued ws else w ∷ valued ws) ≡ (if test w then Some w else first test ws)
    go true e rest = rw (passes w e) rest
    go false e rest = rw rest

module _ (code : BlockCode) (plane : Plane) where
  code_use : (w : Word) → is_g w || is_misc w ≡ true → use_of code plane w.letter ≡ Codes
  unfolding use_of lookup
  code_use w e = code_word (λ n. use_of code plane n ≡ Codes) w refl refl e

  -- nor is a G or an M the radius
  no_radius : (w : Word) → is_g w || is_misc w ≡ true → eqb w.letter (byte "R") ≡ false
  no_radius w e = code_word (λ n. eqb n (byte "R") ≡ false) w refl refl e

  pub unused_valued :
      (centred : Bool) (ws : List Word) → first_unused code plane centred (valued ws) ≡ first_unused code plane centred ws
  unfolding first_unused is_unused is_nothing
  unused_valued centred ws =
      first_valued (is_unused code plane centred) (λ w e. rw (code_use w e, no_radius w e, and-false centred)) ws

module _ (speeds : Speeds) (m : Modes) (code : BlockCode) where
  pub bad_valued : (ws : List Word) → first_bad_value speeds m code (valued ws) ≡ first_bad_value speeds m code ws
  unfolding first_bad_value word_value value_of is_bad
  bad_valued ws =
      first_valued (λ w. is_bad (word_value speeds m code w)) (λ w e. rw (code_use code m.plane w e)) ws

  code_value : (v : Values) (g : Option Len) (w : Word) → is_g w || is_misc w ≡ true → with_value v w.letter g ≡ v
  unfolding with_value
  code_value v g w e = code_word (λ n. with_value v n g ≡ v) w refl refl e

  after_valued :
      (ws : List Word) (v : Values) → values_after v speeds m code (valued ws) ≡ values_after v speeds m code ws
  unfolding valued values_after
  after_valued [] v = refl
  after_valued (w ∷ ws) v = go (is_g w || is_misc w) refl (after_valued ws)
    where
      g : Option Len
      g = word_value speeds m code w

      go :
          (t : Bool) → is_g w || is_misc w ≡ t
          → ((u : Values) → values_after u speeds m code (valued ws) ≡ values_after u speeds m code ws)
          → values_after v speeds m code (if t then valued ws else w ∷ valued ws)
          ≡ values_after (with_value v w.letter g) speeds m code ws
      go true e rest = rw (code_value v g w e) (rest v)
      go false e rest = rest (with_value v w.letter g)

  pub values_valued : (ws : List Word) → values_of speeds m code (valued ws) ≡ values_of speeds m code ws
  values_valued ws = after_valued ws no_values

  pub judged_valued :
      (centred : Bool) (ws : List Word) → judged_by speeds m code centred (valued ws) ≡ judged_by speeds m code centred ws
  unfolding judged_by
  judged_valued centred ws = rw (unused_valued code m.plane centred ws, bad_valued ws, values_valued ws)
