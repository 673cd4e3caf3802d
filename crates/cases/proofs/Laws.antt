-- Words as counts, and where a case lies. Assumes nothing.
use Rattle.terms.proofs.Common.{ℕ, refl, ◌+◌, ◌-◌, ◌≤◌, ◌<◌, min, ◌≡◌, sym, ap, ◌∙◌, Bool, true, false, ◌&&◌, Option, None, Some, List, arith, add-sub_cancel_left, dec_lt, leb, length, take, drop, length-drop, slice, leb-true}
use Rattle.std.specs.Prelude.{Result, Ok, Err, if◌then◌else◌}
use Rattle.terms.proofs.Laws.{both_left, both_right}
use Rattle.lines.{specs.Blocks.length_from, specs.Blocks.begins_with, proofs.Lines.length_bound, proofs.Lines.begins_end}
use Rattle.texts.specs.{Texts.next, Texts.word_at, Figures.digits_in}
use Rattle.texts.proofs.Places.{standing, nothing_there}
use Rattle.setup.specs.declared.Setup.{Setup}
use Rattle.setups.specs.{declared.Misread.Misread, Setups.setup_in}
use Rattle.cases.specs.{Cases.count_at, Cases.size_of, Cases.line_from, Cases.case_with, Cases.case_at, declared.Counted.Counted, declared.Case.Case}

-- ---- a word as a count

module _ (text : List ℕ) (at from end : ℕ) (e : from ≡ next text at) (f : end ≡ from + length (word_at text from)) where
  count_here : record { count = digits_in (word_at text from); next = end } ≡ count_at text at
  unfolding count_at
  count_here = rw (f, e)

  pub count_none : from ≡ end → record { count = None; next = end } ≡ count_at text at
  unfolding digits_in
  count_none h = ap (λ (w : List ℕ). record { count = digits_in w; next = end }) (sym (nothing_there text from end f h)) ∙ count_here

  pub count_some : (d : Option ℕ) → (from ≡ end → ⊥) → d ≡ digits_in (slice from end text) → record { count = d; next = end } ≡ count_at text at
  count_some d h g =
      ap (λ (d : Option ℕ). record { count = d; next = end }) (g ∙ ap digits_in (standing text from end f h).is) ∙ count_here

-- ---- the lines of a case

module _ (l : List ℕ) (at next : ℕ) (e : next ≡ at + length_from (drop at l)) where
  pub line_inside : at ≤ length l → next ≤ length l
  line_inside h = omega (arith, length_bound (drop at l), length-drop at l)

  line_is : take (next - at) (drop at l) ≡ line_from (drop at l)
  line_is = rw (e, add-sub_cancel_left at (length_from (drop at l)))

module _
    (input : List ℕ) (at : ℕ) {line from : ℕ}
    (e : line ≡ at + length_from (drop at input)) (f : from ≡ line + length_from (drop line input))
  where
    pub data_inside : at ≤ length input → from ≤ length input
    data_inside h = line_inside input line from f (line_inside input at line e h)

    pub case_is :
        (most : ℕ) {read : Result Setup Misread} {first second third : Counted} {room size end : ℕ} {lf : Bool}
        → read ≡ setup_in (take (from - line) (drop line input))
        → first ≡ count_at (take (line - at) (drop at input)) 0
        → second ≡ count_at (take (line - at) (drop at input)) first.next
        → third ≡ count_at (take (line - at) (drop at input)) second.next
        → room ≡ size_of second.count
        → size ≡ size_of third.count
        → end ≡ min (from + size) (length input)
        → lf ≡ begins_with 10 (drop end input)
        → case_with read (leb room most && lf) first.count room from end ≡ case_at input at most
    unfolding case_at
    case_is most g a b c r s t j = rw (j, t, s, r, c, b, a, g, line_is input line from f, line_is input at line e, f, e)

pub none_read :
    (read : Result Setup Misread) (sound : Bool) (blocks : Option ℕ) (room from end : ℕ)
    → ((s : Setup) → read ≡ Ok s → ⊥) → None ≡ case_with read sound blocks room from end
unfolding case_with
none_read (Ok s) sound blocks room from end f = absurd (f s refl)
none_read (Err m) sound blocks room from end f = refl

pub not_sound :
    {read : Result Setup Misread} {setup : Setup} {sound : Bool} (blocks : Option ℕ) (room from end : ℕ)
    → read ≡ Ok setup → sound ≡ false → None ≡ case_with read sound blocks room from end
unfolding case_with
not_sound blocks room from end e f = rw (e, f)

pub case_stands :
    {read : Result Setup Misread} {setup : Setup} {sound : Bool} {blocks : Option ℕ} {room from end : ℕ} → read ≡ Ok setup → sound ≡ true
    → Some (record { setup = setup; blocks = blocks; room = room; from = from; end = end }) ≡ case_with read sound blocks room from end
unfolding case_with
case_stands e f = rw (e, f)

-- ---- a case that there is

-- its data lie inside the input with a line's end after them, and its room is in the room for all
pub record Inside (at end most : ℕ) (c : Case) : Type 0 where
  pub starts : at ≤ c.from
  pub ends : c.from ≤ c.end
  pub inside : c.end < end
  pub room : c.room ≤ most

begins_inside : (b : ℕ) (l : List ℕ) (at : ℕ) → begins_with b (drop at l) ≡ true → at < length l
begins_inside b l at e =
    elim (dec_lt at (length l)) [
      | yes h ↦ h
      | no h ↦ let z : ◌≡◌ {A = ℕ} 0 1 = cc (begins_end b l at (omega (arith, h))) in absurd (omega arith)
    ]

fits_inside :
    (input : List ℕ) (at from size room most : ℕ) (read : Result Setup Misread) (blocks : Option ℕ) (c : Case)
    → case_with read (leb room most && begins_with 10 (drop (min (from + size) (length input)) input)) blocks room from (min (from + size) (length input)) ≡ Some c
    → at ≤ from → Inside at (length input) most c
unfolding case_with
fits_inside input at from size room most (Err m) blocks c e h = cc
fits_inside input at from size room most (Ok s) blocks c e h = go (leb room most && begins_with 10 (drop end input)) refl e
  where
    end : ℕ
    end = min (from + size) (length input)

    go :
        (t : Bool) → (leb room most && begins_with 10 (drop (min (from + size) (length input)) input)) ≡ t
        → (if t then Some (record { setup = s; blocks = blocks; room = room; from = from; end = min (from + size) (length input) }) else None) ≡ Some c
        → Inside at (length input) most c
    go false g f = cc
    go true g f =
        let within : min (from + size) (length input) < length input = begins_inside 10 input (min (from + size) (length input)) (both_right (leb room most) (begins_with 10 (drop (min (from + size) (length input)) input)) g) in
        let fits : room ≤ most = leb-true room most (both_left (leb room most) (begins_with 10 (drop (min (from + size) (length input)) input)) g) in
        let same : record { setup = s; blocks = blocks; room = room; from = from; end = min (from + size) (length input) } ≡ c = cc in
        rw (← same) (record { starts = h; ends = omega arith; inside = within; room = fits })

pub case_inside : (input : List ℕ) (at most : ℕ) {o : Option Case} {c : Case} → o ≡ case_at input at most → o ≡ Some c → Inside at (length input) most c
unfolding case_at
case_inside input at most {o} {c} e h =
    let line = at + length_from (drop at input) in
    fits_inside input at _ _ _ most (setup_in (line_from (drop line input))) _ c (sym e ∙ h) (omega arith)
