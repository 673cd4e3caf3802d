-- Reading a block word by word: what has been read, and what is left, give the whole.
use Rattle.std.specs.Prelude.{if◌then◌else◌, Ok, Err, is_some}
use Rattle.terms.proofs.Common.{ℕ, ◌+◌, ◌≤◌, ◌<◌, ◌≡◌, refl, sym, ◌∙◌, ap, Bool, true, false, false≢true, not, ◌&&◌, ◌||◌, Option, None, Some, List, [], ◌∷◌, ◌++◌, append_assoc, append-nil, arith, add-one, ℕ_discrete, eqb-true, ne_eqb, not-false, eqb, length, take, drop, get_or, set, length-set, take-suc-set, get_or-set_same, get_or-set_other}
use Rattle.terms.{specs.Terms.any, proofs.Laws.either_left, proofs.Laws.either_right}
use Rattle.lines.{specs.Blocks.no_text, specs.Blocks.length_from, proofs.Laws.text_none}
use Rattle.refusals.specs.declared.{Blame.Blame, Refusal.Refusal, Refusal.TheVariants.CannotExecute, Refusal.TheVariants.Unreadable}
use Rattle.words.specs.{Serving.Written, Words.is_capital, Words.these, Words.bad_at, Words.with_word, Words.words_after, declared.Word.Word}
use Rattle.codes.specs.{declared.Code.Code, declared.Misc.Misc, Codes.group_of}
use Rattle.settings.specs.{declared.Modes.Modes, Settings.switched}
use Rattle.letters.specs.Judging.{valued, Stored}
use Rattle.letters.specs.Letters.{known, is_known, is_g, is_misc, code_in, misc_in, repeats, bad_g, bad_m, may_not_stand, first_that_may_not}
use Rattle.reading.specs.{Items.words_at, Items.status_after, Seen.letter_place, Seen.has_letter, Seen.Sums, Whole.standing, Whole.status_of, Whole.Kept, Whole.IsRead, declared.Seen.Seen}
use Rattle.reading.proofs.{Items.Gone, Items.status_word, Items.status_end, Letters.place_inside, Letters.place_back, Seeing.nothing_seen, Seeing.seen_with, Seeing.sums_none, Seeing.sums_with}
use Rattle.words.specs.Words as Words

-- ---- how many of some letters stood

abbrev one : Bool → ℕ
one t = if t then 1 else 0

pub stood : List ℕ → List Bool → ℕ
stood [] bs = 0
stood (k ∷ ks) bs = one (get_or bs (letter_place k) false) + stood ks bs

one_most : (t : Bool) → one t ≤ 1
one_most true = omega arith
one_most false = omega arith

stood_most : (ks : List ℕ) (bs : List Bool) → stood ks bs ≤ length ks
unfolding stood
stood_most [] bs = omega arith
stood_most (k ∷ ks) bs = omega (arith, one_most (get_or bs (letter_place k) false), stood_most ks bs)

module _ (bs : List Bool) (p : ℕ) (h : p < length bs) where
  one_set : (k : ℕ) → one (get_or bs k false) ≤ one (get_or (set bs p true) k false)
  one_set k =
      elim (ℕ_discrete k p) [
        | yes e ↦ rw (e, get_or-set_same bs p true false h) (one_most (get_or bs p false))
        | no f ↦ rw (get_or-set_other bs p k true false f) (omega arith)
      ]

  stood_set : (ks : List ℕ) → stood ks bs ≤ stood ks (set bs p true)
  unfolding stood
  stood_set [] = omega arith
  stood_set (k ∷ ks) = omega (arith, one_set (letter_place k), stood_set ks)

  -- a letter that was not there is one more
  stood_new : (ks : List ℕ) (b : ℕ) → any (eqb b) ks ≡ true → letter_place b ≡ p → get_or bs p false ≡ false → stood ks bs + 1 ≤ stood ks (set bs p true)
  unfolding stood any
  stood_new [] b e f g = absurd (false≢true e)
  stood_new (k ∷ ks) b e f g = go (eqb b k) refl e (λ d. stood_new ks b d f g)
    where
      go :
          (t : Bool) → eqb b k ≡ t → (t || any (eqb b) ks) ≡ true → (any (eqb b) ks ≡ true → stood ks bs + 1 ≤ stood ks (set bs p true))
          → one (get_or bs (letter_place k) false) + stood ks bs + 1 ≤ one (get_or (set bs p true) (letter_place k) false) + stood ks (set bs p true)
      go true same d more =
          let is : letter_place k ≡ p = ap letter_place (sym (eqb-true b k same)) ∙ f in
          rw (is, get_or-set_same bs p true false h, g) (omega (arith, stood_set ks))
      go false same d more = omega (arith, one_set (letter_place k), more d)

-- ---- words put in front

pub prepend : List Word → Words.Words → Words.Words
prepend done (these ws) = these (done ++ ws)
prepend done (bad_at at) = bad_at at

prepend_none : (x : Words.Words) → x ≡ prepend [] x
unfolding prepend
prepend_none (these ws) = refl
prepend_none (bad_at at) = refl

prepend_word : (done : List Word) (w : Word) (x : Words.Words) → prepend done (with_word w x) ≡ prepend (done ++ w ∷ []) x
unfolding prepend with_word
prepend_word done w (these ws) = ap these (sym (append_assoc done (w ∷ []) ws))
prepend_word done w (bad_at at) = refl

valued_word : (done : List Word) (w : Word) → valued (done ++ w ∷ []) ≡ (if is_g w || is_misc w then valued done else valued done ++ w ∷ [])
unfolding valued
valued_word [] w = refl
valued_word (x ∷ done) w =
    go (is_g x || is_misc x) (is_g w || is_misc w) (valued_word done w)
  where
    go :
        (t u : Bool) → valued (done ++ w ∷ []) ≡ (if u then valued done else valued done ++ w ∷ [])
        → (if t then valued (done ++ w ∷ []) else x ∷ valued (done ++ w ∷ []))
        ≡ (if u then (if t then valued done else x ∷ valued done) else (if t then valued done else x ∷ valued done) ++ w ∷ [])
    go true u e = e
    go false true e = ap (x ∷◌) e
    go false false e = ap (x ∷◌) e

-- ---- so far

pub record Sofar (main : Bool) (m : Modes) (l : List ℕ) (from i : ℕ) (seen : Seen) (count : ℕ) (words : List Word) : Type 0 where
  pub done : List Word
  pub inside : i ≤ length l
  pub whole : words_at l from ≡ prepend done (words_at l i)
  pub block : i + length_from (drop i l) ≡ from + length_from (drop from l)
  pub stands : (ws : List Word) → first_that_may_not main [] (done ++ ws) ≡ first_that_may_not main done ws
  pub sums : Sums m done seen
  pub few : count ≤ stood known seen.letters
  pub places : length words ≡ 13
  pub kept : take count words ≡ valued done
  pub written : (j : ℕ) (d : Word) → j < count → Written (get_or words j d).number

-- a word may not stand, and the rest is only looked through for an unreadable byte
pub record Halted (main : Bool) (l : List ℕ) (from i : ℕ) (blame : Blame) : Type 0 where
  pub inside : i ≤ length l
  pub wrong : ℕ
  pub named : blame ≡ record { refusal = CannotExecute; byte = wrong }
  pub left : status_of main (words_at l from) ≡ Some (status_after wrong (words_at l i))

-- along the block, halted or not
pub record Along (main : Bool) (m : Modes) (l : List ℕ) (from i : ℕ) (refused : Option Blame) (seen : Seen) (count : ℕ) (words : List Word) : Type 0 where
  pub inside : i ≤ length l
  pub going : refused ≡ None → Sofar main m l from i seen count words
  pub halted : (blame : Blame) → refused ≡ Some blame → Halted main l from i blame

pub begins : (main : Bool) (m : Modes) (l : List ℕ) (from : ℕ) (words : List Word) → from ≤ length l → length words ≡ 13 → Sofar main m l from from (nothing_seen m) 0 words
unfolding valued
begins main m l from words h p =
    record {
      done = [];
      inside = h;
      whole = prepend_none (words_at l from);
      block = refl;
      stands = λ ws. refl;
      sums = sums_none m;
      few = omega arith;
      places = p;
      kept = refl;
      written = λ j d k. absurd (omega arith);
    }

module _ {main : Bool} {m : Modes} {l : List ℕ} {from i : ℕ} {seen : Seen} {count : ℕ} {words : List Word} (s : Sofar main m l from i seen count words) where
  over_gap : (next : ℕ) → words_at l i ≡ words_at l next → Gone l i next → Sofar main m l from next seen count words
  over_gap next e g =
      record {
        done = s.done;
        inside = g.inside;
        whole = s.whole ∙ ap (prepend s.done) e;
        block = g.block ∙ s.block;
        stands = s.stands;
        sums = s.sums;
        few = s.few;
        places = s.places;
        kept = s.kept;
        written = s.written;
      }

  stored : Stored words count
  stored =
      let few : count ≤ 13 = omega (arith, s.few, stood_most known seen.letters) in
      record { few = few; there = omega (arith, s.places); written = s.written }

  -- ---- where the reading ends

  reads_end : no_text (drop i l) ≡ true → IsRead main m l from words (Ok (record { seen = seen; count = count; end = i }))
  unfolding words_after prepend status_of standing first_that_may_not
  reads_end e = record { status = sym (ap (status_of main) all ∙ ap standing (s.stands [])); kept = kept_all }
    where
      all : words_at l from ≡ these (s.done ++ [])
      all = s.whole ∙ ap (λ (t : List ℕ). prepend s.done (words_after 0 i t)) (text_none (drop i l) e)

      kept_all : (ws : List Word) → words_at l from ≡ these ws → Kept m l from ws words (record { seen = seen; count = count; end = i })
      kept_all ws g =
          let ended : s.done ++ [] ≡ ws = cc all in
          let same : s.done ≡ ws = sym (append-nil s.done) ∙ ended in
          record {
            seen = rw same at s.sums;
            stored = stored;
            words = s.kept ∙ ap valued same;
            inside = s.inside;
            block = s.block;
          }

  status_bad : words_at l i ≡ bad_at i → status_of main (words_at l from) ≡ Some (record { refusal = Unreadable; byte = i })
  unfolding prepend status_of
  status_bad e = ap (status_of main) (s.whole ∙ ap (prepend s.done) e)

  -- whether a letter stood
  pub letter_stood : (b : ℕ) → is_capital b ≡ true → get_or seen.letters (letter_place b) false ≡ any (has_letter b) s.done
  letter_stood b capital =
      s.sums.letters (letter_place b) (place_inside b capital) ∙ ap (λ (x : ℕ). any (has_letter x) s.done) (place_back b capital)

  module _ (w : Word) (next : ℕ) (e : words_at l i ≡ with_word w (words_at l next)) (g : Gone l i next) where
    -- ---- a word that may not stand

    pub halts : may_not_stand main s.done w ≡ true → Halted main l from next (record { refusal = CannotExecute; byte = w.at })
    unfolding status_after prepend with_word status_of standing first_that_may_not
    halts f =
        record {
          inside = g.inside;
          wrong = w.at;
          named = refl;
          left = ap (status_of main) (s.whole ∙ ap (prepend s.done) e) ∙ by_rest (words_at l next);
        }
      where
        by_rest : (x : Words.Words) → status_of main (prepend s.done (with_word w x)) ≡ Some (status_after w.at x)
        by_rest (these ws) = ap standing (s.stands (w ∷ ws)) ∙ rw f
        by_rest (bad_at at) = refl

    -- ---- a word that may stand

    module _ (n : Written w.number) (capital : is_capital w.letter ≡ true) (f : may_not_stand main s.done w ≡ false) where
      -- the causes of 4, none of which applies
      abbrev unknown : Bool
      unknown = not (is_known w.letter)

      abbrev again : Bool
      again = repeats s.done w

      abbrev as_code : Bool
      as_code = is_g w && bad_g s.done w

      abbrev as_misc : Bool
      as_misc = is_misc w && bad_m main s.done w

      neither : (unknown || again) ≡ false
      unfolding may_not_stand
      neither = either_left (unknown || again) as_code (either_left (unknown || again || as_code) as_misc f)

      is_known_lem : is_known w.letter ≡ true
      is_known_lem = not-false (is_known w.letter) (either_left unknown again neither)

      no_repeat : is_g w ≡ false → any (has_letter w.letter) s.done ≡ false
      unfolding repeats
      no_repeat h = rw h at (either_right unknown again neither)

      once : is_misc w ≡ true → any is_misc s.done ≡ false
      once h =
          let is = eqb-true w.letter 77 h in
          rw is at (no_repeat (ne_eqb w.letter 71 (λ e. omega arith)))

      stands_with : (ws : List Word) → first_that_may_not main [] ((s.done ++ w ∷ []) ++ ws) ≡ first_that_may_not main (s.done ++ w ∷ []) ws
      unfolding first_that_may_not
      stands_with ws = ap (first_that_may_not main []) (append_assoc s.done (w ∷ []) ws) ∙ s.stands (w ∷ ws) ∙ rw f

      whole_with : words_at l from ≡ prepend (s.done ++ w ∷ []) (words_at l next)
      whole_with = s.whole ∙ ap (prepend s.done) e ∙ prepend_word s.done w (words_at l next)

      inside_letters : letter_place w.letter < length seen.letters
      inside_letters = omega (arith, s.sums.places, place_inside w.letter capital)

      over_coded : (is_g w || is_misc w) ≡ true → Sofar main m l from next (seen_with seen w) count words
      unfolding seen_with
      over_coded h =
          record {
            done = s.done ++ w ∷ [];
            inside = g.inside;
            whole = whole_with;
            block = g.block ∙ s.block;
            stands = stands_with;
            sums = sums_with m s.done seen s.sums w capital once;
            few = omega (arith, s.few, stood_set seen.letters (letter_place w.letter) inside_letters known);
            places = s.places;
            kept = s.kept ∙ sym (valued_word s.done w ∙ rw h);
            written = s.written;
          }

      pub over_code :
          (c : Code) → is_g w ≡ true → c ≡ code_in w
          → Sofar main m l from next (record { letters = set seen.letters 6 true; groups = set seen.groups (group_of c) true; misc = seen.misc; modes = switched seen.modes c }) count words
      unfolding seen_with
      over_code c h is =
          let letter = eqb-true w.letter 71 h in
          let six : letter_place w.letter ≡ 6 = ap letter_place letter in
          rw is (rw (six, h, ne_eqb w.letter 77 (λ e. omega arith)) at (over_coded (rw h)))

      pub over_misc :
          (x : Misc) → is_misc w ≡ true → x ≡ misc_in w
          → Sofar main m l from next (record { letters = set seen.letters 12 true; groups = seen.groups; misc = x; modes = seen.modes }) count words
      unfolding seen_with
      over_misc x h is =
          let letter = eqb-true w.letter 77 h in
          let twelve : letter_place w.letter ≡ 12 = ap letter_place letter in
          let other : is_g w ≡ false = ne_eqb w.letter 71 (λ e. omega arith) in
          rw is (rw (twelve, h, other) at (over_coded (rw (other, h))))

      module _ (h : (is_g w || is_misc w) ≡ false) where
        not_code : is_g w ≡ false
        not_code = either_left (is_g w) (is_misc w) h

        not_misc : is_misc w ≡ false
        not_misc = either_right (is_g w) (is_misc w) h

        -- a word with a value is new, so that there is a place for it
        one_more : stood known seen.letters + 1 ≤ stood known (set seen.letters (letter_place w.letter) true)
        unfolding is_known
        one_more =
            stood_new seen.letters (letter_place w.letter) inside_letters known w.letter is_known_lem refl
            (letter_stood w.letter capital ∙ no_repeat not_code)

        pub room : count < 13
        room = omega (arith, s.few, one_more, stood_most known (set seen.letters (letter_place w.letter) true))

        pub over_valued :
            Sofar main m l from next (record { letters = set seen.letters (letter_place w.letter) true; groups = seen.groups; misc = seen.misc; modes = seen.modes }) (count + 1) (set words count w)
        unfolding seen_with
        over_valued =
            record {
              done = s.done ++ w ∷ [];
              inside = g.inside;
              whole = whole_with;
              block = g.block ∙ s.block;
              stands = stands_with;
              sums = rw (not_code, not_misc) at (sums_with m s.done seen s.sums w capital once);
              few = omega (arith, s.few, one_more);
              places = length-set words count w ∙ s.places;
              kept =
                  rw (add-one count)
                  (take-suc-set words count w (omega (arith, room, s.places)) ∙ ap (◌++ w ∷ []) s.kept ∙ sym (valued_word s.done w ∙ rw h));
              written = λ j d k.
                  (elim (ℕ_discrete j count) [
                    | yes e ↦ rw (e, get_or-set_same words count w d (omega (arith, room, s.places))) n
                    | no x ↦ rw (get_or-set_other words count j w d x) (s.written j d (omega (arith, x)))
                  ]);
            }

-- ---- along the block

pub none_of : {o : Option Blame} → is_some o ≡ false → o ≡ None
none_of {o = None} e = refl
none_of {o = Some blame} e = absurd (false≢true (sym e))

pub some_is : {o : Option Blame} → is_some o ≡ true → o ≡ None → ⊥
some_is {o = None} e f = false≢true e
some_is {o = Some blame} e f = let no : ◌≡◌ {A = ℕ} 0 1 = cc in omega arith

module _ {main : Bool} {m : Modes} {l : List ℕ} {from i : ℕ} {seen : Seen} {count : ℕ} {words : List Word} where
  pub goes_on : Sofar main m l from i seen count words → Along main m l from i None seen count words
  goes_on s = record { inside = s.inside; going = λ e. s; halted = λ blame e. let no : ◌≡◌ {A = ℕ} 0 1 = cc in absurd (omega arith) }

  pub stops : {blame : Blame} → Halted main l from i blame → Along main m l from i (Some blame) seen count words
  stops {blame} s =
      record {
        inside = s.inside;
        going = λ e. let no : ◌≡◌ {A = ℕ} 0 1 = cc in absurd (omega arith);
        halted = λ other e. let same : blame ≡ other = cc in rw (← same) s;
      }

module _ {main : Bool} {m : Modes} {l : List ℕ} {from i : ℕ} {refused : Option Blame} {seen : Seen} {count : ℕ} {words : List Word} (s : Along main m l from i refused seen count words) where
  -- past an item that leaves what is said of the rest
  halted_past : (next : ℕ) → ((wrong : ℕ) → status_after wrong (words_at l i) ≡ status_after wrong (words_at l next)) → Gone l i next → (blame : Blame) → refused ≡ Some blame → Halted main l from next blame
  halted_past next e g blame f =
      let h = s.halted blame f in
      record { inside = g.inside; wrong = h.wrong; named = h.named; left = h.left ∙ ap Some (e h.wrong) }

  pub gap_along : (next : ℕ) → words_at l i ≡ words_at l next → Gone l i next → Along main m l from next refused seen count words
  gap_along next e g =
      record {
        inside = g.inside;
        going = λ f. over_gap (s.going f) next e g;
        halted = halted_past next (λ wrong. ap (status_after wrong) e) g;
      }

  pub word_halted : (refused ≡ None → ⊥) → (w : Word) (next : ℕ) → words_at l i ≡ with_word w (words_at l next) → Gone l i next → Along main m l from next refused seen count words
  word_halted f w next e g =
      record {
        inside = g.inside;
        going = λ h. absurd (f h);
        halted = halted_past next (λ wrong. ap (status_after wrong) e ∙ status_word wrong w (words_at l next)) g;
      }

  module _ (e : no_text (drop i l) ≡ true) where
    pub end_fine : refused ≡ None → IsRead main m l from words (Ok (record { seen = seen; count = count; end = i }))
    end_fine f = reads_end (s.going f) e

    pub end_blamed : (blame : Blame) → refused ≡ Some blame → IsRead main m l from words (Err blame)
    end_blamed blame f =
        let h = s.halted blame f in
        ap Some (h.named ∙ sym (status_end h.wrong l i e)) ∙ sym h.left

  pub bad_along : (refusal : Refusal) → (words_at l i ≡ bad_at i) × (refusal ≡ Unreadable) → IsRead main m l from words (Err (record { refusal = refusal; byte = i }))
  unfolding status_after
  bad_along refusal e = rw e.1 (sym (go refused refl))
    where
      go : (o : Option Blame) → refused ≡ o → status_of main (words_at l from) ≡ Some (record { refusal = Unreadable; byte = i })
      go None f = status_bad (s.going f) e.0
      go (Some blame) f = let h = s.halted blame f in h.left ∙ ap (λ (x : Words.Words). Some (status_after h.wrong x)) e.0
