-- The digits of an opening, byte by byte.
use Rattle.std.specs.Prelude.{if◌then◌else◌}
use Rattle.terms.proofs.Common.{ℕ, suc, ◌+◌, ◌-◌, ◌*◌, ◌^◌, ◌≤◌, ◌<◌, ◌≡◌, refl, ◌∙◌, ap, true, false, ◌&&◌, ◌||◌, List, [], ◌∷◌, arith, pow-le-pow_right, ne_eqb, le-leb, eqb, lit≤, lit<, length, take, drop, get_or, drop_of_length-le, length-drop, length-take-le, get_or-take, get_or-drop}
use Rattle.lines.{specs.Blocks.begins_with, specs.Blocks.text_from, proofs.Lines.at_place}
use Rattle.words.{specs.Numbers.is_digit, specs.Numbers.run, specs.Numbers.digits_after, proofs.Numbers.ten_more}
use Rattle.programs.specs.{Found.IsDigits, Openings.figures_of}

figures_none : (b : ℕ) (bs : List ℕ) → is_digit b ≡ false → figures_of (text_from (b ∷ bs)) ≡ []
unfolding run text_from
figures_none b bs e =
    elim (eqb b 10 || eqb b 13 && begins_with 10 bs) as (λ t. run is_digit (if t then [] else b ∷ text_from bs) ≡ [])
    [ true ↦ refl | false ↦ rw e ]

figures_some : (b : ℕ) (bs : List ℕ) → 48 ≤ b → b ≤ 57 → figures_of (text_from (b ∷ bs)) ≡ b ∷ figures_of (text_from bs)
unfolding run text_from
figures_some b bs h k =
    let lf : b ≡ 10 → ⊥ = λ e. omega arith in
    let cr : b ≡ 13 → ⊥ = λ e. omega arith in
    rw (ne_eqb b 10 lf, ne_eqb b 13 cr) (rw (le-leb 48 b h, le-leb b 57 k))

digits_more : (n b : ℕ) (bs : List ℕ) → 48 ≤ b → b ≤ 57 → digits_after n (b ∷ bs) ≡ digits_after (n * 10 + (b - 48)) bs
unfolding digits_after
digits_more n b bs h k = rw (le-leb 48 b h, le-leb b 57 k)

pub at_most_eight : {m : ℕ} (k : ℕ) → k ≤ 8 → m < 10 ^ k → m < 10 ^ 8
at_most_eight k h g = omega (arith, pow-le-pow_right {n = 10} (lit≤ tt) h)

-- the byte that stands so far from a place
pub there :
    (l : List ℕ) (at count : ℕ) → count < length (take (length l - at) (drop at l))
    → (at + count < length l) × (get_or (take (length l - at) (drop at l)) count 0 ≡ get_or l (at + count) 0)
there l at count h =
    let n = length-take-le (length l - at) (drop at l) (omega (arith, length-drop at l)) in
    (omega (arith, n), get_or-take (length l - at) (drop at l) count 0 (omega (arith, n)) ∙ get_or-drop at l count 0)

-- So many digits passed from a place: what they are worth, and what is left gives the rest.
pub record Passed (l : List ℕ) (at count value i : ℕ) : Type 0 where
  pub inside : i ≤ length l
  pub few : count ≤ 8
  pub is : i ≡ at + count
  pub small : value < 10 ^ count
  pub left : length (figures_of (text_from (drop at l))) ≡ count + length (figures_of (text_from (drop i l)))
  pub worth : digits_after 0 (figures_of (text_from (drop at l))) ≡ digits_after value (figures_of (text_from (drop i l)))

pub none_passed : (l : List ℕ) (at : ℕ) → at ≤ length l → Passed l at 0 0 at
none_passed l at h =
    record { inside = h; few = omega arith; is = omega arith; small = lit< tt; left = omega arith; worth = refl }

module _ {l : List ℕ} {at count value i : ℕ} (p : Passed l at count value i) (h : i < length l) (low : 48 ≤ get_or l i 0) (high : get_or l i 0 ≤ 57) where
  figures_here : figures_of (text_from (drop i l)) ≡ get_or l i 0 ∷ figures_of (text_from (drop (i + 1) l))
  figures_here = rw (at_place l i h) (figures_some (get_or l i 0) (drop (i + 1) l) low high)

  length_here : length (figures_of (text_from (drop at l))) ≡ suc (count + length (figures_of (text_from (drop (i + 1) l))))
  length_here = p.left ∙ ap (λ (xs : List ℕ). count + length xs) figures_here ∙ omega arith

  pub one_passed : (count ≡ 8 → ⊥) → Passed l at (count + 1) (value * 10 + (get_or l i 0 - 48)) (i + 1)
  one_passed n =
      record {
        inside = omega arith;
        few = omega (arith, p.few, n);
        is = omega (arith, p.is);
        small = ten_more value (get_or l i 0 - 48) count (omega arith) p.small;
        left = omega (arith, length_here);
        worth = p.worth ∙ ap (digits_after value) figures_here ∙ digits_more value (get_or l i 0) (figures_of (text_from (drop (i + 1) l))) low high;
      }

  pub nine_passed : count ≡ 8 → 8 < length (figures_of (text_from (drop at l)))
  nine_passed e = omega (arith, length_here)

-- where no digit stands, what was passed is all
module _ {l : List ℕ} {at count value i : ℕ} (p : Passed l at count value i) where
  pub ended_other : i < length l → is_digit (get_or l i 0) ≡ false → figures_of (text_from (drop i l)) ≡ []
  ended_other h e = rw (at_place l i h) (figures_none (get_or l i 0) (drop (i + 1) l) e)

  pub ended_end : length l ≤ i → figures_of (text_from (drop i l)) ≡ []
  unfolding run text_from
  ended_end h = rw (drop_of_length-le l h)

  pub all_passed : figures_of (text_from (drop i l)) ≡ [] → IsDigits (text_from (drop at l)) (record { count = count; value = value })
  unfolding digits_after
  all_passed e =
      record {
        few = p.few;
        count = p.left ∙ ap (λ (xs : List ℕ). count + length xs) e ∙ omega arith;
        value = p.worth ∙ ap (digits_after value) e;
      }
