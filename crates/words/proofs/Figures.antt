-- The figures of a number, byte by byte: those that were passed, by the reader's variables, make the number together with
-- those that are left. Assumes nothing.
use Rattle.terms.proofs.Common.{ℕ, ◌+◌, ◌-◌, ◌*◌, ◌^◌, ◌≤◌, ◌<◌, ◌≡◌, refl, sym, ap, ◌∙◌, Bool, true, false, and-false, Option, None, Some, List, [], ◌∷◌, add-one, add-zero, arith, leb, eqb, length, drop, drop-cons, drop_of_length-le, get_or, le-leb, lt-leb, ne_eqb}
use mir.Val.{bool_byte}
use Rattle.terms.specs.Terms.{byte}
use Rattle.words.specs.declared.{Sign.Sign, Numeral.Numeral}
use Rattle.words.specs.Numbers.{is_digit, is_point, is_figure, sign_of, sign_length, run, count, digits_after, decimals_of, is_numeral, number_by, number_in}
use Rattle.words.proofs.Numbers.{made, number_made, too_many_digits, too_many_points, ten_more}

-- ---- the sign

pub no_byte : (l : List ℕ) → length l ≤ 0 → None ≡ number_in l
unfolding number_in sign_of sign_length run number_by is_numeral count
no_byte [] h = refl
no_byte (b ∷ bs) h = absurd (omega arith)

pub by_sign : (l : List ℕ) (sign : Sign) → 0 < length l → sign ≡ sign_of (get_or l 0 0 ∷ []) → number_by sign (run is_figure (drop (sign_length sign) l)) ≡ number_in l
unfolding number_in sign_of
by_sign [] sign h e = absurd (omega arith)
by_sign (b ∷ bs) sign h e = rw e

-- ---- one byte

digit_is : (b : ℕ) → byte "0" ≤ b → b ≤ byte "9" → is_digit b ≡ true
digit_is b h k = rw (le-leb (byte "0") b h, le-leb b (byte "9") k)

digit_no_point : (b : ℕ) → byte "0" ≤ b → is_point b ≡ false
digit_no_point b h = ne_eqb b (byte ".") (λ e. omega arith)

pub low_byte : (b : ℕ) → (b ≡ byte "." → ⊥) → b < byte "0" → is_figure b ≡ false
low_byte b k h = rw (lt-leb (byte "0") b h, ne_eqb b (byte ".") k)

pub high_byte : (b : ℕ) → (b ≡ byte "." → ⊥) → byte "9" < b → is_figure b ≡ false
high_byte b k h = rw (lt-leb b (byte "9") h, and-false (leb (byte "0") b), ne_eqb b (byte ".") k)

-- ---- figures passed, and further ones

point_few : (t : Bool) → leb (bool_byte t) 1 ≡ true
point_few true = refl
point_few false = refl

point_is : (t : Bool) → eqb (bool_byte t) 1 ≡ t
point_is true = refl
point_is false = refl

pub point_most : (t : Bool) → bool_byte t ≤ 1
point_most true = omega arith
point_most false = omega arith

-- the decimals among further figures, by whether a point stood before them
abbrev decimals_after : Bool → List ℕ → ℕ
decimals_after true figures = count is_digit figures
decimals_after false figures = decimals_of figures

no_decimals : (t : Bool) → decimals_after t [] ≡ 0
unfolding count decimals_of
no_decimals true = refl
no_decimals false = refl

decimals_digit :
    (t : Bool) (b : ℕ) (figures : List ℕ) → is_digit b ≡ true → is_point b ≡ false
    → decimals_after t (b ∷ figures) ≡ bool_byte t + decimals_after t figures
unfolding count decimals_of
decimals_digit true b figures e p = rw e
decimals_digit false b figures e p = rw p (omega arith)

made_same :
    (sign : Sign) {a b c d e p q r s t : ℕ}
    → a ≡ p → b ≡ q → c ≡ r → d ≡ s → e ≡ t → made sign a b c d e ≡ made sign p q r s t
made_same sign f g h j k = rw (f, g, h, j, k)

-- the number of figures that take `used` bytes with their sign, and of further ones: of the first are known the value of
-- their digits, their decimals, how many digits they are, and whether a point is among them
unfoldable pub number_after : Sign → (used value decimals many : ℕ) → Bool → List ℕ → Option Numeral
number_after sign used value decimals many point figures =
    made sign (many + count is_digit figures) (bool_byte point + count is_point figures) (digits_after value figures)
    (decimals + decimals_after point figures)
    (used + length figures)

module _ (sign : Sign) where
  after_none : (figures : List ℕ) → number_by sign figures ≡ number_after sign (sign_length sign) 0 0 0 false figures
  unfolding number_after
  after_none figures = number_made sign figures ∙ made_same sign (omega arith) (omega arith) refl (omega arith) refl

  module _ (used value decimals many : ℕ) where
    after_point :
        (figures : List ℕ)
        → number_after sign used value decimals many false (byte "." ∷ figures) ≡ number_after sign (used + 1) value decimals many true figures
    unfolding number_after count digits_after decimals_of
    after_point figures = made_same sign (omega arith) (omega arith) refl refl (omega arith)

    after_two_points : (figures : List ℕ) → number_after sign used value decimals many true (byte "." ∷ figures) ≡ None
    unfolding number_after count
    after_two_points figures = too_many_points sign _ _ _ _ _ (omega arith)

    module _ (point : Bool) where
      after_all : number_after sign used value decimals many point [] ≡ made sign many (bool_byte point) value decimals used
      unfolding number_after count digits_after
      after_all = made_same sign (omega arith) (omega arith) refl (omega (arith, no_decimals point)) (omega arith)

      module _ (b : ℕ) (low : byte "0" ≤ b) (high : b ≤ byte "9") (figures : List ℕ) where
        after_digit :
            number_after sign used value decimals many point (b ∷ figures)
            ≡ number_after sign (used + 1) (value * 10 + (b - byte "0")) (decimals + bool_byte point) (many + 1) point figures
        unfolding number_after count digits_after
        after_digit =
            let is = digit_is b low high in
            let no = digit_no_point b low in
            made_same sign
            (rw is (omega arith))
            (rw no (omega arith))
            (rw is)
            (omega (arith, decimals_digit point b figures is no))
            (omega arith)

        after_ten_digits : 9 ≤ many → number_after sign used value decimals many point (b ∷ figures) ≡ None
        unfolding number_after count
        after_ten_digits e = too_many_digits sign _ _ _ _ _ (rw (digit_is b low high) (omega arith))

-- ---- the reader's variables

-- What is known of the number where the reader stands before the byte i of those after the sign. Its digits are few, so that
-- nothing wraps.
pub record Passed (whole : Option Numeral) (l : List ℕ) (sign : Sign) (i value decimals many : ℕ) (point : Bool) : Type 0 where
  pub figures : i ≡ many + bool_byte point
  pub nine : many ≤ 9
  pub small : value < 10 ^ many
  pub fewer : decimals ≤ many
  pub same : whole ≡ number_after sign (sign_length sign + i) value decimals many point (run is_figure (drop i l))

pub none_passed : (l : List ℕ) (sign : Sign) → Passed (number_by sign (run is_figure l)) l sign 0 0 0 0 false
none_passed l sign =
    record {
      figures = omega arith;
      nine = omega arith;
      small = omega arith;
      fewer = omega arith;
      same = rw (add-zero (sign_length sign)) (after_none sign (run is_figure l));
    }

module _
    {whole : Option Numeral} {l : List ℕ} {sign : Sign} {i value decimals many : ℕ} {point : Bool}
    (p : Passed whole l sign i value decimals many point)
  where
    abbrev used : ℕ
    used = sign_length sign + i

    module _ (none : run is_figure (drop i l) ≡ []) where
      all_passed : whole ≡ made sign many (bool_byte point) value decimals used
      all_passed = p.same ∙ ap (number_after sign used value decimals many point) none ∙ after_all sign used value decimals many point

      pub no_number : many ≡ 0 → None ≡ whole
      unfolding made
      no_number e = rw (all_passed, e)

      pub some_number :
          (k : ℕ) → k ≡ sign_length sign + many + bool_byte point → (many ≡ 0 → ⊥)
          → Some (record { number = record { sign = sign; point = point; digits = value; decimals = decimals }; length = k }) ≡ whole
      unfolding made
      some_number k e h =
          let is : k ≡ used = omega (arith, p.figures) in
          rw (is, all_passed, le-leb 1 many (omega arith), le-leb many 9 p.nine, point_few point, point_is point)

    pub none_left : length l ≤ i → run is_figure (drop i l) ≡ []
    unfolding run
    none_left h = rw (drop_of_length-le l h)

    module _ (h : i < length l) where
      here : drop i l ≡ get_or l i 0 ∷ drop (i + 1) l
      here = rw (add-one, drop-cons l i 0)

      pub none_here : is_figure (get_or l i 0) ≡ false → run is_figure (drop i l) ≡ []
      unfolding run
      none_here e = rw (here, e)

      figure_here : is_figure (get_or l i 0) ≡ true → run is_figure (drop i l) ≡ get_or l i 0 ∷ run is_figure (drop (i + 1) l)
      unfolding run
      figure_here e = rw (here, e)

      one_further : sign_length sign + (i + 1) ≡ used + 1
      one_further = omega arith

      module _ (is : get_or l i 0 ≡ byte ".") where
        point_here : run is_figure (drop i l) ≡ byte "." ∷ run is_figure (drop (i + 1) l)
        point_here = rw is at (figure_here (rw is))

        pub point_passed : point ≡ false → Passed whole l sign (i + 1) value decimals many true
        point_passed e =
            record {
              figures = omega (arith, p.figures, ap bool_byte e);
              nine = p.nine;
              small = p.small;
              fewer = p.fewer;
              same = rw e at p.same ∙ rw (point_here, one_further) (after_point sign used value decimals many _);
            }

        pub second_point : point ≡ true → None ≡ whole
        second_point e = sym (rw (e, point_here) at p.same ∙ after_two_points sign used value decimals many _)

      module _ (low : byte "0" ≤ get_or l i 0) (high : get_or l i 0 ≤ byte "9") where
        digit_here : run is_figure (drop i l) ≡ get_or l i 0 ∷ run is_figure (drop (i + 1) l)
        digit_here = figure_here (rw (digit_is (get_or l i 0) low high))

        pub digit_passed :
            (places : ℕ) → many < 9 → places ≡ decimals + bool_byte point
            → Passed whole l sign (i + 1) (value * 10 + (get_or l i 0 - byte "0")) places (many + 1) point
        digit_passed places few e =
            record {
              figures = omega (arith, p.figures);
              nine = omega arith;
              small = ten_more value (get_or l i 0 - byte "0") many (omega arith) p.small;
              fewer = omega (arith, p.fewer, point_most point);
              same = p.same ∙ rw (digit_here, one_further, e) (after_digit sign used value decimals many point (get_or l i 0) low high _);
            }

        pub tenth_digit : 9 ≤ many → None ≡ whole
        tenth_digit e = sym (rw digit_here at p.same ∙ after_ten_digits sign used value decimals many point (get_or l i 0) low high _ e)
