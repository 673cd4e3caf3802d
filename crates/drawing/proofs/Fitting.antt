-- The answer of a drawing, as the functions reach it. Assumes nothing.
use Rattle.std.specs.Prelude.{if◌then◌else◌, Result, Ok, Err}
use Rattle.terms.proofs.Common.{ℕ, ◌≤◌, ◌<◌, ◌≡◌, refl, sym, ap, ◌∙◌, Bool, true, false, List, arith, lt-ltb, le-ltb, ltb-true, ltb, length, sets}
use Rattle.setup.specs.{declared.Setup.Setup, Limits.valid_setup}
use Rattle.records.specs.declared.{Fault.Fault, Listed.Listed, Listed.TheVariants.Next, Listed.TheVariants.End, Listed.TheVariants.Faulty as faulty}
use Rattle.svg.{specs.Text.Fills, proofs.Filled.fills_length}
use Rattle.drawing.specs.{declared.Undrawn.Undrawn, Walks.records_from, Walks.end_from}
use Rattle.drawing.specs.declared.Undrawn.TheVariants.{NoRoom, Faulty, BadSetup}
use Rattle.drawing.specs.Picture.{sheet_of, picture_of, fitting, answer_for, bytes_for, Draws}

-- a place before the buffer's end says that the whole text is there
pub fits_is : {was is text : List ℕ} {n : ℕ} → Fills was 0 text is n → n < length is → Ok n ≡ fitting text (length was)
unfolding fitting
fits_is {was} {is} {text} {n} p h =
    let kept = fills_length p in
    let size : n ≡ length text = omega (arith, p.place) in
    let less : length text < length was = omega (arith, p.place) in
    rw (lt-ltb (length text) (length was) less) (ap Ok size)

pub fits_not : {was is text : List ℕ} {n : ℕ} → Fills was 0 text is n → length is ≤ n → Err NoRoom ≡ fitting text (length was)
unfolding fitting
fits_not {was} {is} {text} {n} p h =
    let kept = fills_length p in
    let more : length was ≤ length text = omega (arith, p.place) in
    rw (le-ltb (length text) (length was) more)

-- a list that can be read to its end is drawn whole
whole_answer : (x : Listed) (d : Result ℕ Undrawn) → ((fault : Fault) (place : ℕ) → x ≡ faulty fault place → ⊥) → answer_for x d ≡ d
unfolding answer_for
whole_answer (Next r next) d h = refl
whole_answer End d h = refl
whole_answer (faulty fault place) d h = absurd (h fault place refl)

whole_bytes : (x : Listed) (was is : List ℕ) → ((fault : Fault) (place : ℕ) → x ≡ faulty fault place → ⊥) → bytes_for x was is ≡ is
unfolding bytes_for
whole_bytes (Next r next) was is h = refl
whole_bytes End was is h = refl
whole_bytes (faulty fault place) was is h = absurd (h fault place refl)

module _ (l : List ℕ) (s : Setup) where
  pub draws_faulty :
      (was : List ℕ) {fault : Fault} {place : ℕ} → valid_setup s ≡ true → end_from l 0 ≡ faulty fault place → Draws l s was was (Err (Faulty place))
  unfolding answer_for bytes_for
  draws_faulty was e f = record { answer = rw (e, f); bytes = rw (e, f) }

  pub draws_whole :
      {was is : List ℕ} {r : Result ℕ Undrawn} → valid_setup s ≡ true → ((fault : Fault) (place : ℕ) → end_from l 0 ≡ faulty fault place → ⊥)
      → r ≡ fitting (picture_of (sheet_of s) (records_from l 0)) (length was) → is ≡ sets was 0 (picture_of (sheet_of s) (records_from l 0))
      → Draws l s was is r
  draws_whole {was} {is} e h p q =
      let text = picture_of (sheet_of s) (records_from l 0) in
      record {
        answer = rw e (p ∙ sym (whole_answer (end_from l 0) (fitting text (length was)) h));
        bytes = rw e (q ∙ sym (whole_bytes (end_from l 0) was (sets was 0 text) h));
      }

-- ---- a picture that is drawn ends before the buffer does

fitting_inside : (text : List ℕ) (room n : ℕ) → fitting text room ≡ Ok n → n < room
unfolding fitting
fitting_inside text room n e = by (ltb (length text) room) refl e
  where
    by : (t : Bool) → ltb (length text) room ≡ t → (if t then Ok (length text) else Err NoRoom) ≡ Ok n → n < room
    by true h f = let g : length text ≡ n = cc in omega (arith, ltb-true (length text) room h)
    by false h f = let z : ◌≡◌ {A = ℕ} 0 1 = cc in absurd (omega arith)

answer_drawn : (x : Listed) (d : Result ℕ Undrawn) (n : ℕ) → answer_for x d ≡ Ok n → d ≡ Ok n
unfolding answer_for
answer_drawn (Next r next) d n e = e
answer_drawn End d n e = e
answer_drawn (faulty fault place) d n e = let z : ◌≡◌ {A = ℕ} 0 1 = cc in absurd (omega arith)

valid_drawn : (t : Bool) (d : Result ℕ Undrawn) (n : ℕ) → (if t then d else Err BadSetup) ≡ Ok n → d ≡ Ok n
valid_drawn true d n e = e
valid_drawn false d n e = let z : ◌≡◌ {A = ℕ} 0 1 = cc in absurd (omega arith)

pub draws_inside : {l was is : List ℕ} {s : Setup} {r : Result ℕ Undrawn} {n : ℕ} → Draws l s was is r → r ≡ Ok n → n < length was
draws_inside {l} {was} {is} {s} {r} {n} h e =
    let text = picture_of (sheet_of s) (records_from l 0) in
    let drawn = valid_drawn (valid_setup s) (answer_for (end_from l 0) (fitting text (length was))) n (sym h.answer ∙ e) in
    fitting_inside text (length was) n (answer_drawn (end_from l 0) (fitting text (length was)) n drawn)
