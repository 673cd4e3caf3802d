-- A word of the reader comes out of its number again, and so do the words of two lists. Assumes nothing.
use Rattle.terms.proofs.Common.{ℕ, zero, suc, ◌+◌, ◌*◌, ◌/◌, ◌%◌, ◌<◌, ◌≡◌, refl, ap, ◌∙◌, Bool, true, false, List, [], ◌∷◌, arith, eqb, length, get_or, set}
use mir.Val.{bool_byte}
use Rattle.words.specs.declared.Sign.{Sign, TheVariants.Plain, TheVariants.Plus, TheVariants.Minus}
use Rattle.words.specs.{declared.Word.Word, Serving.Written, Packed.sign_number, Packed.sign_at, Packed.packed, Packed.unpacked, Packed.words_in}

pub sign_small : (sign : Sign) → sign_number sign < 4
unfolding sign_number
sign_small Plain = omega arith
sign_small Plus = omega arith
sign_small Minus = omega arith

sign_back : (sign : Sign) → sign_at (sign_number sign) ≡ sign
unfolding sign_number sign_at
sign_back Plain = refl
sign_back Plus = refl
sign_back Minus = refl

pub point_small : (point : Bool) → bool_byte point < 2
point_small false = omega arith
point_small true = omega arith

point_back : (point : Bool) → eqb (bool_byte point) 1 ≡ point
point_back false = refl
point_back true = refl

-- the parts of a sum again
module _ (d c s p l : ℕ) (h : c < 16) (g : s < 4) (f : p < 2) (e : l < 256) where
  abbrev sum : ℕ
  sum = d * 32768 + c * 2048 + s * 512 + p * 256 + l

  digits_back : sum / 32768 ≡ d
  digits_back = omega arith

  decimals_back : sum / 2048 % 16 ≡ c
  decimals_back = omega arith

  sign_part : sum / 512 % 4 ≡ s
  sign_part = omega arith

  point_part : sum / 256 % 2 ≡ p
  point_part = omega arith

  letter_back : sum % 256 ≡ l
  letter_back = omega arith

pub unpack_packed : (w : Word) → Written w.number → w.letter < 256 → unpacked (packed w) w.at ≡ w
unfolding packed unpacked
unpack_packed w n small =
    let d = w.number.digits in
    let c = w.number.decimals in
    let s = sign_number w.number.sign in
    let p = bool_byte w.number.point in
    let l = w.letter in
    let h : c < 16 = omega (arith, n.decimals) in
    let g = sign_small w.number.sign in
    let f = point_small w.number.point in
    rw (digits_back d c s p l h g f small, decimals_back d c s p l h g f small, sign_part d c s p l h g f small, point_part d c s p l h g f small, letter_back d c s p l h g f small, sign_back, point_back)

-- ---- the words of two lists

pub words_length : (ns places : List ℕ) → length ns ≡ length places → length (words_in ns places) ≡ length ns
unfolding words_in
words_length [] places e = refl
words_length (n ∷ ns) [] e = absurd (omega arith)
words_length (n ∷ ns) (at ∷ places) e = ap suc (words_length ns places (omega arith))

pub word_at :
    (ns places : List ℕ) (i : ℕ) (w : Word) → i < length (words_in ns places)
    → get_or (words_in ns places) i w ≡ unpacked (get_or ns i 0) (get_or places i 0)
unfolding words_in
word_at [] places i w h = absurd (omega arith)
word_at (n ∷ ns) [] i w h = absurd (omega arith)
word_at (n ∷ ns) (at ∷ places) zero w h = refl
word_at (n ∷ ns) (at ∷ places) (suc i) w h = word_at ns places i w (omega arith)

words_set :
    (ns places : List ℕ) (i n at : ℕ) → words_in (set ns i n) (set places i at) ≡ set (words_in ns places) i (unpacked n at)
unfolding words_in
words_set [] places i n at = refl
words_set (x ∷ ns) [] zero n at = refl
words_set (x ∷ ns) [] (suc i) n at = refl
words_set (x ∷ ns) (y ∷ places) zero n at = refl
words_set (x ∷ ns) (y ∷ places) (suc i) n at = ap (unpacked x y ∷◌) (words_set ns places i n at)

-- a word that is put into both lists
pub word_put :
    (ns places : List ℕ) (i : ℕ) (w : Word) → Written w.number → w.letter < 256
    → words_in (set ns i (packed w)) (set places i w.at) ≡ set (words_in ns places) i w
word_put ns places i w n small = words_set ns places i (packed w) w.at ∙ ap (set (words_in ns places) i) (unpack_packed w n small)
