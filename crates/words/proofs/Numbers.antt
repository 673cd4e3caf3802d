-- Laws of the rule of a number: what is known of every number that is read, and what its figures have to do with the text.
-- Assumes nothing.
use Rattle.std.specs.Prelude.{if◌then◌else◌}
use Rattle.terms.proofs.Common.{ℕ, ◌+◌, ◌-◌, ◌*◌, ◌^◌, ◌≤◌, ◌<◌, ◌≡◌, refl, sym, ◌∙◌, Bool, true, false, ◌&&◌, and-false, Option, None, Some, List, [], ◌∷◌, ◌++◌, add-zero, pow-suc, pow-le-pow_right, add-one, arith, leb, eqb, length, drop, get_or, length-drop, slice, slice-cons, lt-leb, leb-true, eqb-false}
use Rattle.terms.{specs.Terms.byte, specs.Terms.from_to, proofs.Laws.both_left, proofs.Laws.both_right}
use Rattle.words.specs.{Serving.Written, declared.Sign.Sign, declared.Sign.TheVariants.Plain, declared.Sign.TheVariants.Plus, declared.Sign.TheVariants.Minus}
use Rattle.words.specs.declared.Numeral.{Numeral}
use Rattle.words.specs.Numbers.{is_digit, is_point, is_figure, sign_of, sign_length, run, count, digits_after, decimals_of, is_numeral, number_by, number_in}

-- ---- what a number is made of

-- a number by how many digits and points it has, the value of its digits, its decimals and its bytes
unfoldable pub made : Sign → (digits points value decimals used : ℕ) → Option Numeral
made sign digits points value decimals used =
    if from_to 1 9 digits && leb points 1
    then Some (record { number = record { sign = sign; point = eqb points 1; digits = value; decimals = decimals }; length = used })
    else None

pub number_made :
    (sign : Sign) (figures : List ℕ)
    → number_by sign figures
    ≡ made sign (count is_digit figures) (count is_point figures) (digits_after 0 figures) (decimals_of figures)
    (sign_length sign + length figures)
unfolding number_by is_numeral made
number_made sign figures = refl

-- the tenth digit, and the second point
pub too_many_digits : (sign : Sign) (a b c d e : ℕ) → 9 < a → made sign a b c d e ≡ None
unfolding made
too_many_digits sign a b c d e h = rw (lt-leb a 9 h, and-false (leb 1 a))

pub too_many_points : (sign : Sign) (a b c d e : ℕ) → 1 < b → made sign a b c d e ≡ None
unfolding made
too_many_points sign a b c d e h = rw (lt-leb b 1 h, and-false (from_to 1 9 a))

-- ---- the value of few digits

pub ten_more : (m d k : ℕ) → d ≤ 9 → m < 10 ^ k → m * 10 + d < 10 ^ (k + 1)
ten_more m d k small h = rw (add-one k, pow-suc 10 k) (omega arith)

pub below_ten : {m : ℕ} (k : ℕ) → k ≤ 9 → m < 10 ^ k → m < 1000000000
below_ten k h l = let most : 10 ^ k ≤ 10 ^ 9 = pow-le-pow_right (omega arith) h in omega arith

-- ---- figures

-- an opening's number does not depend on its leading zeros
pub leading_zero : (bs : List ℕ) → digits_after 0 (byte "0" ∷ bs) ≡ digits_after 0 bs
unfolding digits_after
leading_zero bs = refl

pub run_short : (test : ℕ → Bool) (bs : List ℕ) → length (run test bs) ≤ length bs
unfolding run
run_short test [] = omega arith
run_short test (b ∷ bs) = by (test b) (run_short test bs)
  where
    by : (t : Bool) → length (run test bs) ≤ length bs → length (if t then b ∷ run test bs else []) ≤ length (b ∷ bs)
    by true h = omega arith
    by false h = omega arith

pub sign_most : (sign : Sign) → sign_length sign ≤ 1
unfolding sign_length
sign_most Plain = omega arith
sign_most Plus = omega arith
sign_most Minus = omega arith

-- the first byte tells the sign
pub sign_first :
    (s : List ℕ) (at end : ℕ) → at < end → end ≤ length s → sign_of (get_or s at 0 ∷ []) ≡ sign_of (slice at end s)
unfolding sign_of
sign_first s at end h k = rw (slice-cons at end s 0 h k)

sign_short : (bs : List ℕ) → sign_length (sign_of bs) ≤ length bs
unfolding sign_of sign_length
sign_short [] = omega arith
sign_short (b ∷ bs) = omega (arith, sign_most (sign_of (b ∷ bs)))

count_append : (test : ℕ → Bool) (as' bs : List ℕ) → count test (as' ++ bs) ≡ count test as' + count test bs
unfolding count
count_append test [] bs = omega arith
count_append test (a ∷ as') bs = omega (arith, count_append test as' bs)

-- ten digits are no number, whatever follows
pub tenth_digit :
    (sign : Sign) (figures more : List ℕ) → 10 ≤ count is_digit figures → number_by sign (figures ++ more) ≡ None
tenth_digit sign figures more h =
    number_made sign (figures ++ more)
    ∙ too_many_digits sign _ _ _ _ _ (omega (arith, count_append is_digit figures more))

digits_below : (m k : ℕ) (figures : List ℕ) → m < 10 ^ k → digits_after m figures < 10 ^ (k + count is_digit figures)
unfolding digits_after count
digits_below m k [] h = rw (add-zero k) h
digits_below m k (b ∷ bs) h = by (is_digit b) refl (λ i j. digits_below i j bs)
  where
    by :
        (t : Bool) → is_digit b ≡ t
        → ((i j : ℕ) → i < 10 ^ j → digits_after i bs < 10 ^ (j + count is_digit bs))
        → digits_after (if t then m * 10 + (b - 48) else m) bs < 10 ^ (k + ((if t then 1 else 0) + count is_digit bs))
    by true e go =
        let small : b - 48 ≤ 9 = omega (arith, leb-true b 57 (both_right (leb 48 b) (leb b 57) e)) in
        let sum : k + 1 + count is_digit bs ≡ k + (1 + count is_digit bs) = omega arith in
        rw sum at (go (m * 10 + (b - 48)) (k + 1) (ten_more m (b - 48) k small h))
    by false e go =
        let sum : k + count is_digit bs ≡ k + (0 + count is_digit bs) = omega arith in
        rw sum at (go m k h)

decimals_most : (figures : List ℕ) → decimals_of figures ≤ count is_digit figures
unfolding decimals_of count
decimals_most [] = omega arith
decimals_most (b ∷ bs) = by (is_point b) (decimals_most bs)
  where
    by :
        (t : Bool) → decimals_of bs ≤ count is_digit bs
        → (if t then count is_digit bs else decimals_of bs) ≤ (if is_digit b then 1 else 0) + count is_digit bs
    by true h = omega arith
    by false h = omega arith

whole : (figures : List ℕ) → count is_point figures ≡ 0 → decimals_of figures ≡ 0
unfolding decimals_of count
whole [] e = refl
whole (b ∷ bs) e = by (is_point b) e (whole bs)
  where
    by :
        (t : Bool) → (if t then 1 else 0) + count is_point bs ≡ 0 → (count is_point bs ≡ 0 → decimals_of bs ≡ 0)
        → (if t then count is_digit bs else decimals_of bs) ≡ 0
    by true f go = absurd (omega arith)
    by false f go = go (omega arith)

-- ---- what is known of a number that is read

record Made (sign : Sign) (a b c d e : ℕ) (n : Numeral) : Type 0 where
  nine : a ≤ 9
  points : b ≤ 1
  is : n ≡ record { number = record { sign = sign; point = eqb b 1; digits = c; decimals = d }; length = e }

made_is : (sign : Sign) (a b c d e : ℕ) (n : Numeral) → made sign a b c d e ≡ Some n → Made sign a b c d e n
unfolding made
made_is sign a b c d e n = by (from_to 1 9 a && leb b 1) refl
  where
    by :
        (t : Bool) → (from_to 1 9 a && leb b 1) ≡ t
        → if◌then◌else◌ {A = Option Numeral} t
        (Some (record { number = record { sign = sign; point = eqb b 1; digits = c; decimals = d }; length = e })) None
        ≡ Some n
        → Made sign a b c d e n
    by true p q =
        record {
          nine = leb-true a 9 (both_right (leb 1 a) (leb a 9) (both_left (from_to 1 9 a) (leb b 1) p));
          points = leb-true b 1 (both_right (from_to 1 9 a) (leb b 1) p);
          is = cc;
        }
    by false p q = let never : ◌≡◌ {A = ℕ} 0 1 = cc in absurd (omega arith)

module _ (bs : List ℕ) (n : Numeral) (e : number_in bs ≡ Some n) where
  abbrev sign : Sign
  sign = sign_of bs

  abbrev figures : List ℕ
  figures = run is_figure (drop (sign_length sign) bs)

  parts :
      Made sign (count is_digit figures) (count is_point figures) (digits_after 0 figures) (decimals_of figures)
      (sign_length sign + length figures) n
  unfolding number_in
  parts = made_is _ _ _ _ _ _ n (sym (number_made sign figures) ∙ e)

  pub number_in_written : Written n.number
  number_in_written =
      rw parts.is (record {
        digits = below_ten (0 + count is_digit figures) (omega (arith, parts.nine)) (digits_below 0 0 figures (omega arith));
        decimals = omega (arith, parts.nine, decimals_most figures);
        whole = λ f. whole figures (omega (arith, parts.points, eqb-false (count is_point figures) 1 f));
      })

  pub number_short : n.length ≤ length bs
  number_short =
      rw parts.is (omega (arith, run_short is_figure (drop (sign_length sign) bs), length-drop (sign_length sign) bs, sign_short bs))
