-- The judgement of a block's words by the refusals 2 and then 1, and how it is made word by word.
use Rattle.std.specs.Prelude.{◌≤◌, ◌<◌, ◌≡◌, ◌||◌, ◌∷◌, if◌then◌else◌, Result, Ok, Err}
use Rattle.terms.specs.Common.{ℕ, Bool, Option, None, Some, List, [], eqb, length, get_or}
use Rattle.terms.specs.Terms.{byte, any}
use Rattle.words.specs.{declared.Word.Word, declared.Values.Values, Serving.Written}
use Rattle.settings.specs.declared.Modes.{Modes}
use Rattle.letters.specs.declared.{Speeds.Speeds, BlockCode.BlockCode, Unfit.Unfit, Unfit.TheVariants.Unused, Unfit.TheVariants.Bad}
use Rattle.letters.specs.Letters.{is_g, is_misc, word_value, first_unused, first_bad_value, with_value, values_of}
use Rattle.lengths.specs.declared.Len.{Len}

-- "2 leftmost; 1 leftmost by value": the word at fault, or else what is left to say
unfoldable pub unused_or : Option Word → Result Values Unfit → Result Values Unfit
unused_or None other = other
unused_or (Some w) other = Err (Unused w.at)

unfoldable pub bad_or : Option Word → Values → Result Values Unfit
bad_or None v = Ok v
bad_or (Some w) v = Err (Bad w.at)

-- `centred` tells that the block is an arc with a centre word
unfoldable pub judged_by : Speeds → Modes → BlockCode → Bool → List Word → Result Values Unfit
judged_by speeds m code centred ws =
    unused_or (first_unused code m.plane centred ws) (bad_or (first_bad_value speeds m code ws) (values_of speeds m code ws))

-- whether the letters of centre words stand among a block's words
pub record CentreSeen (ws : List Word) (i j k : Bool) : Type 0 where
  pub has_i : i ≡ any (λ w. eqb w.letter (byte "I")) ws
  pub has_j : j ≡ any (λ w. eqb w.letter (byte "J")) ws
  pub has_k : k ≡ any (λ w. eqb w.letter (byte "K")) ws

-- a block without its G and M words, which are kept as codes and not as words
unfoldable pub valued : List Word → List Word
valued [] = []
valued (w ∷ ws) = if is_g w || is_misc w then valued ws else w ∷ valued ws

-- ---- the same word by word

-- one word more, by its value alone: what is no longer fine stays as it is, so that the first bad value is named
unfoldable pub value_next : Values → Word → Option Len → Result Values Unfit
value_next v w (Some x) = Ok (with_value v w.letter (Some x))
value_next v w None = Err (Bad w.at)

unfoldable pub judged_next : Speeds → Modes → BlockCode → Result Values Unfit → Word → Result Values Unfit
judged_next speeds m code (Ok v) w = value_next v w (word_value speeds m code w)
judged_next speeds m code (Err e) w = Err e

unfoldable pub judged_all : Speeds → Modes → BlockCode → Result Values Unfit → List Word → Result Values Unfit
judged_all speeds m code passed [] = passed
judged_all speeds m code passed (w ∷ ws) = judged_all speeds m code (judged_next speeds m code passed w) ws

-- what the words that are left make of the judgement so far: one without a use is named whatever its value
unfoldable pub judged_after : Speeds → Modes → BlockCode → Bool → Result Values Unfit → List Word → Result Values Unfit
judged_after speeds m code centred passed ws =
    unused_or (first_unused code m.plane centred ws) (judged_all speeds m code passed ws)

-- the first `count` of an array's words are a block's: each has a number that was read
pub record Stored (words : List Word) (count : ℕ) : Type 0 where
  pub few : count ≤ 13
  pub there : count ≤ length words
  pub written : (i : ℕ) (d : Word) → i < count → Written (get_or words i d).number
