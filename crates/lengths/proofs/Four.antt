-- Laws of the four bytes of a number, the little end first: the bytes give the number back, and the number gives the bytes back.
-- Assumes nothing.
use Rattle.terms.proofs.Common.{ℕ, ◌+◌, ◌*◌, ◌/◌, ◌%◌, ◌^◌, ◌≤◌, ◌<◌, ◌≡◌, refl, sym, ap, ◌∙◌, Bool, true, false, ◌&&◌, and-true, List, [], ◌∷◌, mod-eq_of_lt, div-add-mod, div-div-eq-div-mul, arith, ltb, leb, leb·suc-suc, ℤ, pos, negsuc, ◌-ℤ◌, get_or, le_z, ltb-true, ltb-false, lt-ltb, le-ltb}
use Rattle.lengths.specs.{Units.len, Units.fits_four, Units.word_of, Units.four_of, Units.four_bytes, Units.signed_of, Units.of_four, View.over, View.under, View.Short, Serving.Read}
use Rattle.lengths.proofs.Laws.{view, diff_bal}

-- ---- which numbers fit

pub four_short : (z : ℤ) → fits_four z ≡ true → Short z
unfolding fits_four
four_short (pos n) e = omega (arith, ltb-true)
four_short (negsuc n) e = omega (arith, ltb-true)

pub short_four : (z : ℤ) → Short z → fits_four z ≡ true
unfolding fits_four
short_four (pos n) h = lt-ltb n (2 ^ 31) (omega arith)
short_four (negsuc n) h = lt-ltb n (2 ^ 31) (omega arith)

pub four_between : (z : ℤ) → (le_z (negsuc 2147483647) z && le_z z (pos 2147483647)) ≡ fits_four z
unfolding fits_four
four_between (pos n) = sym (leb·suc-suc n 2147483647)
four_between (negsuc n) = and-true (leb n 2147483647) ∙ sym (leb·suc-suc n 2147483647)

-- ---- the word of a number, and the number of a word

-- the number's key, which is the number plus 2 ^ 63, ends in the word
pub word_key : (z : ℤ) (k : ℕ) → Short z → k + under z ≡ over z + 2 ^ 63 → k % 4294967296 ≡ word_of z
unfolding word_of
word_key (pos n) k h e = omega arith
word_key (negsuc n) k h e = omega arith

word_below : (z : ℤ) → Short z → word_of z < 2 ^ 32
unfolding word_of
word_below (pos n) h = omega arith
word_below (negsuc n) h = omega arith

signed : (n : ℕ) (t : Bool) → ltb n (2 ^ 31) ≡ t → n < 2 ^ 32 → Short (signed_of t n) × (word_of (signed_of t n) ≡ n)
unfolding signed_of word_of
signed n true e h = omega (arith, ltb-true)
signed n false e h = omega (arith, ltb-false)

-- the word of four bytes
abbrev pub word : ℕ → ℕ → ℕ → ℕ → ℕ
word a b c d = a + 256 * b + 65536 * c + 16777216 * d

-- the machine reads the lower half of the words as they are, and takes 2 ^ 32 from the upper half
pub of_low : (n : ℕ) → n < 2 ^ 31 → signed_of (ltb n (2 ^ 31)) n ≡ pos n
unfolding signed_of
of_low n h = rw (lt-ltb n (2 ^ 31) h)

pub of_high : (n : ℕ) → 2 ^ 31 ≤ n → n < 2 ^ 32 → signed_of (ltb n (2 ^ 31)) n ≡ pos n -ℤ pos 4294967296
unfolding signed_of
of_high n h k = rw (le-ltb n (2 ^ 31) h) (omega (arith, view, diff_bal (pos n) (pos 4294967296)))

-- ---- four bytes and back

-- a word is the sum of its four digits: each is what its quotient has beside 256 times the next quotient
digits : (n : ℕ) → n < 2 ^ 32 → word (n % 256) (n / 256 % 256) (n / 65536 % 256) (n / 16777216 % 256) ≡ n
digits n h =
    let e : 256 * (n / 65536) + n / 256 % 256 ≡ n / 256 = rw (← div-div-eq-div-mul n 256 256) (div-add-mod (n / 256) 256) in
    let f : 256 * (n / 16777216) + n / 65536 % 256 ≡ n / 65536 = rw (← div-div-eq-div-mul n 65536 256) (div-add-mod (n / 65536) 256) in
    chain (n % 256) (n / 256 % 256) (n / 65536 % 256) (n / 16777216 % 256) (div-add-mod n 256) e f (mod-eq_of_lt (omega arith))
  where
    chain : (a b c d : ℕ) {n p q r : ℕ} → 256 * p + a ≡ n → 256 * q + b ≡ p → 256 * r + c ≡ q → d ≡ r → word a b c d ≡ n
    chain a b c d e f g h = omega arith

module _ (a b c d : ℕ) (ha : a < 256) (hb : b < 256) (hc : c < 256) (hd : d < 256) where
  fours : four_of (word a b c d) ≡ a ∷ b ∷ c ∷ d ∷ []
  fours = four (omega arith) (omega arith) (omega arith) (omega arith)
    where
      four :
          {p q r s t u v w : ℕ}
          → p ≡ t → q ≡ u → r ≡ v → s ≡ w → ◌≡◌ {A = List ℕ} (p ∷ q ∷ r ∷ s ∷ []) (t ∷ u ∷ v ∷ w ∷ [])
      four e f g h = cc

  read : Short (of_four a b c d) × (word_of (of_four a b c d) ≡ word a b c d)
  unfolding of_four
  read = signed (word a b c d) (ltb (word a b c d) (2 ^ 31)) refl (omega arith)

  -- what `of_bytes` answers: the number, and that it fits
  pub four_read : Read a b c d (len (of_four a b c d))
  four_read = record { is = refl; fits = short_four (of_four a b c d) read.0; short = read.0 }

  -- the bytes of the number of four bytes are those four
  pub bytes_of_four : four_bytes (of_four a b c d) ≡ a ∷ b ∷ c ∷ d ∷ []
  bytes_of_four = ap four_of read.1 ∙ fours

signed_word : (z : ℤ) (t : Bool) → ltb (word_of z) (2 ^ 31) ≡ t → Short z → signed_of t (word_of z) ≡ z
unfolding signed_of word_of
signed_word (pos n) true e h = refl
signed_word (pos n) false e h = absurd (omega (arith, ltb-false))
signed_word (negsuc n) true e h = absurd (omega (arith, ltb-true))
signed_word (negsuc n) false e h = ap negsuc (omega arith)

-- the number of the four bytes of a number that fits is that number
pub four_of_bytes : (z : ℤ) → fits_four z ≡ true → (let l = four_bytes z in of_four (get_or l 0 0) (get_or l 1 0) (get_or l 2 0) (get_or l 3 0) ≡ z)
unfolding of_four
four_of_bytes z e =
    let h = four_short z e in
    rw (digits (word_of z) (word_below z h)) (signed_word z (ltb (word_of z) (2 ^ 31)) refl h)
