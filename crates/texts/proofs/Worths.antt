-- What a word is worth as a number, digit by digit. Assumes nothing.
use Rattle.std.specs.Prelude.{if◌then◌else◌, MatchOption, Result, Ok, Err}
use Rattle.std.specs.Option.{ok_or}
use Rattle.std.specs.Option.{SomeIff, IsSomeAnd}
use mir.{Syntax.w64, Val.SFits}
use Rattle.terms.proofs.Common.{ℕ, suc, ◌+◌, ◌-◌, ◌*◌, ◌^◌, ◌≤◌, ◌<◌, ◌≡◌, sym, ap, ◌∙◌, Bool, true, false, and-false, Option, None, Some, List, [], ◌∷◌, arith, pow-le-pow_right, add-one, ℤ, pos, neg_ℤ, ◌-ℤ◌, +ℤ_idl, zero-add, refl, zero, leb, length, take, get_or, slice, slice-cons, slice_empty, length-slice, drop-drop, le-leb, lt-leb}
use Rattle.terms.specs.Terms.{all}
use Rattle.lengths.specs.{declared.Len.Len, Units.len}
use Rattle.words.specs.{Numbers.is_digit, Numbers.sign_of, Numbers.sign_length, Numbers.digits_after, Values.signed, declared.Sign.Sign}
use Rattle.words.{specs.declared.Sign.TheVariants.Plain, specs.declared.Sign.TheVariants.Plus, specs.declared.Sign.TheVariants.Minus, proofs.Numbers.sign_first, proofs.Numbers.ten_more}
use Rattle.texts.specs.{Figures.digits_in, Figures.largest, Figures.fitted, Figures.worth_by, Figures.worth_of, declared.Wrong.Wrong, declared.Wrong.TheVariants.NoNumber, declared.Wrong.TheVariants.TooLarge}

-- ---- digits

-- digits and nothing else, after others that make the number v
abbrev counted_from : ℕ → List ℕ → Option ℕ
counted_from v bs = if all is_digit bs then Some (digits_after v bs) else None

digit_value :
    (v b : ℕ) (bs : List ℕ) → (if is_digit b then v * 10 + (b - 48) else v) ≡ v * 10 + (b - 48)
    → digits_after v (b ∷ bs) ≡ digits_after (v * 10 + (b - 48)) bs
unfolding digits_after
digit_value v b bs e = ap (λ (n : ℕ). digits_after n bs) e

digit_next : (v b : ℕ) (bs : List ℕ) → is_digit b ≡ true → counted_from v (b ∷ bs) ≡ counted_from (v * 10 + (b - 48)) bs
unfolding all
digit_next v b bs e = rw (e, after)
  where
    unfolded : (t : Bool) → t ≡ true → (if t then v * 10 + (b - 48) else v) ≡ v * 10 + (b - 48)
    unfolded t f = rw f

    after : digits_after v (b ∷ bs) ≡ digits_after (v * 10 + (b - 48)) bs
    after = digit_value v b bs (unfolded (is_digit b) e)

pub record Counting (s : List ℕ) (from end v i : ℕ) : Type 0 where
  pub low : from ≤ i
  pub high : i ≤ end
  pub size : v < 10 ^ (i - from)
  pub left : digits_in (slice from end s) ≡ counted_from v (slice i end s)

module _ (s : List ℕ) (from end : ℕ) (k : end ≤ length s) where
  pub no_digits : from ≡ end → None ≡ digits_in (slice from end s)
  unfolding digits_in
  no_digits e = rw (e, slice_empty end s)

  pub many_digits : 19 < end - from → None ≡ digits_in (slice from end s)
  unfolding digits_in
  many_digits h = rw (length-slice from end s k, lt-leb (end - from) 19 h, and-false (leb 1 (end - from)))

  pub none_counted : from ≤ end → (from ≡ end → ⊥) → end - from ≤ 19 → Counting s from end 0 from
  unfolding digits_in
  none_counted h f m =
      let none : from - from ≡ 0 = omega arith in
      record {
        low = omega arith;
        high = h;
        size = rw none (omega arith);
        left = rw (length-slice from end s k, le-leb 1 (end - from) (omega arith), le-leb (end - from) 19 m);
      }

  module _ (v i : ℕ) (t : Counting s from end v i) where
    -- the next digit leaves the value room
    pub small : end - from ≤ 19 → i < end → v < 1_000_000_000_000_000_000
    small m h =
        let few : i - from ≤ 18 = omega (arith, t.low) in
        let most : 10 ^ (i - from) ≤ 10 ^ 18 = pow-le-pow_right (omega arith) few in
        omega (arith, t.size)

    module _ (h : i < end) where
      pub digit_counted :
          48 ≤ get_or s i 0 → get_or s i 0 ≤ 57 → Counting s from end (v * 10 + (get_or s i 0 - 48)) (i + 1)
      digit_counted p q =
          let more : i + 1 - from ≡ (i - from) + 1 = omega (arith, t.low) in
          record {
            low = omega (arith, t.low);
            high = omega arith;
            size = rw more (ten_more v (get_or s i 0 - 48) (i - from) (omega arith) t.size);
            left =
                t.left
                ∙ rw (slice-cons i end s 0 h k, add-one i) (digit_next v (get_or s i 0) (slice (suc i) end s) (rw (le-leb 48 (get_or s i 0) p, le-leb (get_or s i 0) 57 q)));
          }

      other_byte : is_digit (get_or s i 0) ≡ false → None ≡ digits_in (slice from end s)
      unfolding all
      other_byte e = sym (t.left ∙ rw (slice-cons i end s 0 h k) (rw e))

      pub low_byte : get_or s i 0 < 48 → None ≡ digits_in (slice from end s)
      low_byte p = other_byte (rw (lt-leb 48 (get_or s i 0) p))

      pub high_byte : 57 < get_or s i 0 → None ≡ digits_in (slice from end s)
      high_byte p = other_byte (rw (lt-leb (get_or s i 0) 57 p) (and-false (leb 48 (get_or s i 0))))

    pub all_counted : end ≤ i → Some v ≡ digits_in (slice from end s)
    unfolding all digits_after
    all_counted h =
        let e : i ≡ end = omega (arith, t.high) in
        sym (t.left ∙ rw (e, slice_empty end s))

-- ---- a word's worth, by its sign and its digits

pub worth_is :
    (s : List ℕ) (from end n : ℕ) (sign : Sign) (d : Option ℕ) → from < end → end ≤ length s
    → sign ≡ sign_of (get_or s from 0 ∷ []) → n ≡ sign_length sign → d ≡ digits_in (slice (from + n) end s)
    → worth_by sign d ≡ worth_of (slice from end s)
unfolding worth_of
worth_is s from end n sign d h k e f g =
    rw (g, f, e, sign_first s from end h k, ← drop-drop (sign_length (sign_of (slice from end s))) from (take end s))

-- no digits are no number
pub none_worth : (sign : Sign) (d : Option ℕ) (wrong : Wrong) → Err wrong ≡ ok_or d NoNumber → Err wrong ≡ worth_by sign d
unfolding worth_by
none_worth sign None wrong e = let same : wrong ≡ NoNumber = cc in rw same
none_worth sign (Some n) wrong e = cc

-- ---- a number that 64 bits with a sign hold

pub minus_is : (n : ℕ) → pos 0 -ℤ pos n ≡ signed Minus n
unfolding signed
minus_is n = +ℤ_idl (neg_ℤ (pos n))

pub plus_is : (sign : Sign) (n : ℕ) → (sign ≡ Minus → ⊥) → pos (0 + n) ≡ signed sign n
unfolding signed
plus_is Plain n f = ap pos (zero-add n)
plus_is Plus n f = ap pos (zero-add n)
plus_is Minus n f = absurd (f refl)

holds : (sign : Sign) (n : ℕ) → SFits w64 (signed sign n) → leb n (largest sign) ≡ true
unfolding signed largest
holds Plain n f = le-leb n (2 ^ 63 - 1) (omega (arith, f.sfits))
holds Plus n f = le-leb n (2 ^ 63 - 1) (omega (arith, f.sfits))
holds Minus zero f = refl
holds Minus (suc n) f = le-leb (suc n) (2 ^ 63) (omega (arith, f.sfits))

holds_not : (sign : Sign) (n : ℕ) → (SFits w64 (signed sign n) → ⊥) → leb n (largest sign) ≡ false
unfolding signed largest
holds_not Plain n f = let g : n < 2 ^ 63 → ⊥ = λ h. f (record { sfits = h }) in lt-leb n (2 ^ 63 - 1) (omega arith)
holds_not Plus n f = let g : n < 2 ^ 63 → ⊥ = λ h. f (record { sfits = h }) in lt-leb n (2 ^ 63 - 1) (omega arith)
holds_not Minus zero f = absurd (f (record { sfits = omega arith }))
holds_not Minus (suc n) f = let g : n < 2 ^ 63 → ⊥ = λ h. f (record { sfits = h }) in lt-leb (suc n) (2 ^ 63) (omega arith)

-- what was computed, where it fits, as a length
pub settled :
    (sign : Sign) (n : ℕ) (z : ℤ) (fit : Option ℤ) (made : Option Len) {P : ℤ → Len → Type 0}
    → z ≡ signed sign n → SomeIff fit (SFits w64 z) z → MatchOption fit (made ≡ None) (λ x. IsSomeAnd made (P x))
    → ((x : ℤ) (r : Len) → P x r → r ≡ len x) → ok_or made TooLarge ≡ fitted sign n
unfolding fitted
settled sign n z None made e h m is = rw (m, holds_not sign n (rw e at h))
settled sign n z (Some x) None e h m is = absurd m
settled sign n z (Some x) (Some r) e h m is = rw (holds sign n (rw e at h.0), is x r m, h.1, e)
