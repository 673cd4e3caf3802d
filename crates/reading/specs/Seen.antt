-- What the reader keeps of the words before a word, and that it is enough to tell whether the word may stand.
use Rattle.std.specs.Prelude.{◌+◌, ◌-◌, ◌<◌, ◌≡◌, ◌&&◌, ◌||◌}
use Rattle.terms.specs.Common.{ℕ, Bool, true, false, List, eqb, length, get_or}
use Rattle.terms.specs.Terms.{byte, any}
use Rattle.codes.specs.{declared.Misc.Misc, declared.Code.Code, Codes.group_of, Codes.clash, Codes.is_no_m}
use Rattle.words.specs.declared.Word.{Word}
use Rattle.settings.specs.declared.Modes.{Modes}
use Rattle.letters.specs.Letters.{is_g, is_misc, code_in, misc_in, stands_alone, wrong_program, may_not_stand, misc_of_block, modes_in}
use Rattle.reading.specs.declared.{Seen.Seen, Role.Role}
use Rattle.reading.specs.declared.Role.TheVariants as role

-- the place of a capital letter in the alphabet
abbrev pub letter_place : ℕ → ℕ
letter_place letter = letter - byte "A"

-- of a group, whether a word of it stands in a list; of a letter likewise
abbrev pub has_letter : ℕ → Word → Bool
has_letter letter e = eqb e.letter letter

abbrev pub has_group : ℕ → Word → Bool
has_group g e = is_g e && eqb (group_of (code_in e)) g

abbrev pub is_alone : Word → Bool
is_alone e = is_misc e && stands_alone (misc_in e)

-- what is kept of the codes among the words `done`
pub record Coded (done : List Word) (groups : List Bool) (misc : Misc) : Type 0 where
  pub kinds : length groups ≡ 8
  pub each : (g : ℕ) → g < 8 → get_or groups g false ≡ any (has_group g) done
  pub alone : any is_alone done ≡ stands_alone misc

-- what is kept of the words `done`, that began with the modes m
pub record Sums (m : Modes) (done : List Word) (seen : Seen) : Type 0 where
  pub places : length seen.letters ≡ 26
  pub letters : (k : ℕ) → k < 26 → get_or seen.letters k false ≡ any (has_letter (byte "A" + k)) done
  pub coded : Coded done seen.groups seen.misc
  pub misc : seen.misc ≡ misc_of_block done
  pub modes : seen.modes ≡ modes_in m done

-- what a role says of its word, after the words `done`
abbrev pub Plays : Bool → List Word → Word → Role → Type 0
Plays main done w role.MayNot = may_not_stand main done w ≡ true
Plays main done w (role.Code c) = (may_not_stand main done w ≡ false) × (is_g w ≡ true) × (c ≡ code_in w)
Plays main done w (role.Misc m) = (may_not_stand main done w ≡ false) × (is_misc w ≡ true) × (m ≡ misc_in w)
Plays main done w role.Value = (may_not_stand main done w ≡ false) × ((is_g w || is_misc w) ≡ false)

-- the role is the rule's, whatever the words were of which this much is kept
pub record Tells (main stood after : Bool) (groups : List Bool) (misc : Misc) (w : Word) (r : Role) : Type 0 where
  pub is :
      (done : List Word) → Coded done groups misc → stood ≡ any (has_letter w.letter) done → after ≡ any is_g done
      → Plays main done w r

pub record TellsG (groups : List Bool) (misc : Misc) (c : Code) (r : Bool) : Type 0 where
  pub is :
      (done : List Word) → Coded done groups misc
      → r ≡ (eqb (group_of c) 0 || any (λ e. is_g e && clash (code_in e) c) done || any is_alone done)

abbrev pub bad_misc : Bool → Bool → Misc → Bool
bad_misc main afterG m = is_no_m m || wrong_program main m || stands_alone m && afterG
