-- How a setup file is read, number by number. Assumes nothing.
use Rattle.std.specs.Prelude.{Result, Ok, Err, if◌then◌else◌}
use Rattle.terms.proofs.Common.{ℕ, zero, suc, ◌+◌, ◌-◌, ◌≤◌, ◌<◌, ◌≡◌, refl, sym, ap, ◌∙◌, Bool, true, false, ◌||◌, Option, None, Some, List, [], ◌∷◌, ◌++◌, append_assoc, append-nil, arith, add-one, leb, ltb, length, take, drop, get_or, set, length-set, drop_of_length-le, List·getD-map, slice, drop-cons, take_all, take-suc-set, le-leb, lt-leb, leb-true, ltb-true, ne_eqb}
use Rattle.terms.{specs.Terms.bytes, specs.Terms.from_to, proofs.Laws.both_left, proofs.Laws.every_place_lem}
use Rattle.lengths.specs.declared.Len.{Len}
use Rattle.lines.proofs.Lines.{at_place}
use Rattle.setup.specs.declared.Setup.{Setup}
use Rattle.words.specs.Numbers.{run, sign_of, sign_length}
use Rattle.texts.specs.{Texts.next, Texts.in_word, Texts.word_at, Texts.same_bytes, Texts.is_lettered, Figures.digits_in, Figures.worth_by, Figures.worth_of, declared.Wrong.Wrong}
use Rattle.texts.proofs.Places.{standing, nothing_there, same_lengths}
use Rattle.texts.specs.declared.Wrong.TheVariants.{OtherName, TooFew, TooMuch}
use Rattle.setups.specs.declared.{Entry.Entry, Misread.Misread}
use Rattle.setups.specs.Setups.{names, name_of, plan, is_named, misread, wrong_in, name_at, placed, number_at, number_by, entry_at, Numbers, prepend, entry_then, ended, numbers_from, setup_of, answered, setup_in}

-- ---- the first word

lettered : (b : ℕ) (bs : List ℕ) → is_lettered (run in_word (b ∷ bs)) ≡ from_to 97 122 b
unfolding is_lettered run
lettered b bs = go (in_word b) (from_to 97 122 b) refl refl
  where
    letter : leb 97 b ≡ true → in_word b ≡ true
    letter e =
        let h = leb-true 97 b e in
        let space : b ≡ 32 → ⊥ = λ f. omega arith in
        let tab : b ≡ 9 → ⊥ = λ f. omega arith in
        let cr : b ≡ 13 → ⊥ = λ f. omega arith in
        let lf : b ≡ 10 → ⊥ = λ f. omega arith in
        let hash : b ≡ 35 → ⊥ = λ f. omega arith in
        rw (ne_eqb b 32 space, ne_eqb b 9 tab, ne_eqb b 13 cr, ne_eqb b 10 lf, ne_eqb b 35 hash)

    go : (u t : Bool) → in_word b ≡ u → from_to 97 122 b ≡ t → is_lettered (if u then b ∷ run in_word bs else []) ≡ from_to 97 122 b
    go true t e f = refl
    go false false e f = sym f
    go false true e f = let never : true ≡ false = sym (letter (both_left (leb 97 b) (leb b 122) f)) ∙ e in sym never ∙ sym f

module _ (text : List ℕ) (first : ℕ) (e : first ≡ next text 0) where
  pub no_first : length text ≤ first → false ≡ is_named text
  unfolding is_named word_at run is_lettered
  no_first h = rw (← e, drop_of_length-le text h)

  pub first_letter : first < length text → from_to 97 122 (get_or text first 0) ≡ is_named text
  unfolding is_named word_at
  first_letter h = rw (← e, at_place text first h) (sym (lettered (get_or text first 0) (drop (first + 1) text)))

-- ---- one number, and the name before it

fault_some : (wrong : Wrong) (word : List ℕ) → 0 < length word → wrong_in wrong word ≡ wrong
unfolding wrong_in
fault_some wrong [] h = absurd (omega arith)
fault_some wrong (b ∷ bs) h = refl

name_next :
    (text : List ℕ) (at : ℕ) (name : List ℕ) → 0 < length name
    → name_at name text at
    ≡ (if same_bytes (word_at text (next text at)) name
    then Ok (next text at + length (word_at text (next text at)))
    else Err (misread (wrong_in OtherName (word_at text (next text at))) (next text at)))
unfolding name_at
name_next text at [] k = absurd (omega arith)
name_next text at (c ∷ cs) k = refl

module _ (text : List ℕ) (at from end : ℕ) (e : from ≡ next text at) (f : end ≡ from + length (word_at text from)) where
  number_here : number_at text at ≡ placed from (word_at text from) (worth_of (word_at text from))
  unfolding number_at
  number_here = rw e

  pub number_missing : from ≡ end → Err (misread TooFew from) ≡ number_at text at
  unfolding placed worth_of worth_by digits_in sign_of sign_length wrong_in
  number_missing h = sym (number_here ∙ rw (nothing_there text from end f h))

  module _ (h : from ≡ end → ⊥) where
    word_worth : (r : Result Len Wrong) → worth_of (slice from end text) ≡ r → number_at text at ≡ placed from (word_at text from) r
    word_worth r g = number_here ∙ ap (placed from (word_at text from)) (ap worth_of (sym (standing text from end f h).is) ∙ g)

    pub number_fits : (z : Len) → worth_of (slice from end text) ≡ Ok z → Ok (record { value = z; after = end }) ≡ number_at text at
    unfolding placed
    number_fits z g = sym (word_worth (Ok z) g ∙ rw f)

    pub number_unfit : (wrong : Wrong) → worth_of (slice from end text) ≡ Err wrong → Err (misread wrong from) ≡ number_at text at
    unfolding placed
    number_unfit wrong g =
        let word = standing text from end f h in
        let wrong_there : wrong_in wrong (word_at text from) ≡ wrong = fault_some wrong (word_at text from) (omega (arith, word.some, word.count)) in
        sym (word_worth (Err wrong) g ∙ rw wrong_there)

  module _ (name : List ℕ) (some : 0 < length name) where
    name_here :
        name_at name text at
        ≡ (if same_bytes (word_at text from) name then Ok (from + length (word_at text from)) else Err (misread (wrong_in OtherName (word_at text from)) from))
    name_here = rw e (name_next text at name some)

    pub name_missing : from ≡ end → Err (misread TooFew from) ≡ name_at name text at
    unfolding wrong_in
    name_missing h =
        let other : same_bytes [] name ≡ false = same_lengths [] name (λ g. omega arith) in
        sym (name_here ∙ rw (nothing_there text from end f h) (rw other))

    module _ (h : from ≡ end → ⊥) where
      pub name_passed : same_bytes (slice from end text) name ≡ true → Ok end ≡ name_at name text at
      name_passed g =
          let same : same_bytes (word_at text from) name ≡ true = rw (standing text from end f h).is at g in
          sym (name_here ∙ rw same (rw f))

      pub name_other : same_bytes (slice from end text) name ≡ false → Err (misread OtherName from) ≡ name_at name text at
      name_other g =
          let word = standing text from end f h in
          let same : same_bytes (word_at text from) name ≡ false = rw word.is at g in
          let wrong_there : wrong_in OtherName (word_at text from) ≡ OtherName = fault_some OtherName (word_at text from) (omega (arith, word.some, word.count)) in
          sym (name_here ∙ rw same (rw wrong_there))

-- ---- the name before the number k

-- the parts of a text between places, one after the other
parts : List ℕ → List ℕ → List (List ℕ)
parts text [] = []
parts text (a ∷ []) = []
parts text (a ∷ b ∷ bs) = take (b - a) (drop a text) ∷ parts text (b ∷ bs)

parts_at :
    (text places : List ℕ) (k : ℕ) → k + 1 < length places
    → get_or (parts text places) k [] ≡ take (get_or places (k + 1) 0 - get_or places k 0) (drop (get_or places k 0) text)
unfolding parts
parts_at text [] k h = absurd (omega arith)
parts_at text (a ∷ []) k h = absurd (omega arith)
parts_at text (a ∷ b ∷ bs) zero h = refl
parts_at text (a ∷ b ∷ bs) (suc k) h =
    let e : suc k + 1 ≡ suc (k + 1) = omega arith in
    rw e (parts_at text (b ∷ bs) k (omega arith))

-- the names one after the other, and where each begins
abbrev row : List ℕ
row = bytes "lowhighstartexofsg54g55g56g57g58g59feedlowesthighestspeedswitch"

abbrev begins : List ℕ
begins = 0 ∷ 3 ∷ 7 ∷ 12 ∷ 17 ∷ 20 ∷ 23 ∷ 26 ∷ 29 ∷ 32 ∷ 35 ∷ 39 ∷ 45 ∷ 52 ∷ 57 ∷ 63 ∷ []

-- the one that is told by its place among them, or none
abbrev named_by : Option ℕ → List ℕ
named_by None = []
named_by (Some j) = get_or (parts row begins) j []

-- the names before so many numbers from one on
before : ℕ → ℕ → List (List ℕ)
before zero i = []
before (suc n) i = named_by (name_of i) ∷ before n (suc i)

before_at : (n i k : ℕ) → k < n → get_or (before n i) k [] ≡ named_by (name_of (k + i))
unfolding before
before_at zero i k h = absurd (omega arith)
before_at (suc n) i zero h = ap (λ (j : ℕ). named_by (name_of j)) (omega arith)
before_at (suc n) i (suc k) h =
    let e : k + suc i ≡ suc k + i = omega arith in
    before_at n (suc i) k (omega arith) ∙ ap (λ (j : ℕ). named_by (name_of j)) e

-- one test of all 35
names_are : before 35 0 ≡ names
unfolding before parts name_of
names_are = refl

name_is : (k : ℕ) → k < 35 → get_or names k [] ≡ named_by (name_of k)
name_is k h =
    let e : k + 0 ≡ k = omega arith in
    ap (λ (l : List (List ℕ)). get_or l k []) (sym names_are) ∙ before_at 35 0 k h ∙ ap (λ (j : ℕ). named_by (name_of j)) e

pub begins_order : (j : ℕ) → j < 15 → get_or begins j 0 < get_or begins (j + 1) 0
begins_order j h =
    ltb-true (get_or begins j 0) (get_or begins (j + 1) 0)
    (rw (lt-leb 15 j h) at (every_place_lem (λ i b. leb 15 i || ltb b (get_or begins (i + 1) 0)) begins refl j (omega arith)))

pub begins_inside : (j : ℕ) → j < 16 → get_or begins j 0 ≤ 63
begins_inside j h = leb-true (get_or begins j 0) 63 (every_place_lem (λ i b. leb b 63) begins refl j h)

pub name_of_lem :
    (text : List ℕ) (at k : ℕ) {o : Option ℕ} {j : ℕ} {r : Result ℕ Misread} → k < 35 → o ≡ name_of k → o ≡ Some j → j < 15
    → r ≡ name_at (take (get_or begins (j + 1) 0 - get_or begins j 0) (drop (get_or begins j 0) row)) text at → r ≡ name_at (get_or names k []) text at
name_of_lem text at k {o} {j} h e g l f = f ∙ ap (λ (name : List ℕ). name_at name text at) (sym (name_is k h ∙ rw (← e, g) (parts_at row begins j (omega arith))))

pub no_name : (text : List ℕ) (at k : ℕ) {o : Option ℕ} → k < 35 → o ≡ name_of k → o ≡ None → Ok at ≡ name_at (get_or names k []) text at
unfolding name_at
no_name text at k h e f = rw (name_is k h, ← e, f)

-- a file without names has none before any number
pub entry_plain : (text : List ℕ) (at k : ℕ) (named : Bool) → named ≡ false → entry_at (get_or (plan named) k []) text at ≡ number_at text at
unfolding number_by name_at
entry_plain text at k named e =
    let none : get_or (plan false) k [] ≡ [] = List·getD-map (λ (name : List ℕ). []) names k [] in
    rw e (rw none)

pub entry_named :
    (text : List ℕ) (at k : ℕ) (named : Bool) (p : Result ℕ Misread) → named ≡ true → p ≡ name_at (get_or names k []) text at
    → entry_at (get_or (plan named) k []) text at ≡ number_by text p
entry_named text at k named p e h = rw (e, h)

pub by_passed : (text : List ℕ) (p : Result ℕ Misread) (at : ℕ) → p ≡ Ok at → number_by text p ≡ number_at text at
unfolding number_by
by_passed text p at e = rw e

pub by_not : (text : List ℕ) (p : Result ℕ Misread) (m : Misread) → p ≡ Err m → number_by text p ≡ Err m
unfolding number_by
by_not text p m e = rw e

-- ---- all numbers

pub plan_length : (named : Bool) → length (plan named) ≡ 35
plan_length true = refl
plan_length false = refl

prepend_none : (n : Numbers) → prepend [] n ≡ n
unfolding prepend
prepend_none (Ok zs) = refl
prepend_none (Err m) = refl

prepend_more : (as' bs : List Len) (n : Numbers) → prepend as' (prepend bs n) ≡ prepend (as' ++ bs) n
unfolding prepend
prepend_more as' bs (Ok zs) = rw (append_assoc as' bs zs)
prepend_more as' bs (Err m) = refl

prepend_ended : (text : List ℕ) (at : ℕ) (zs : List Len) → prepend zs (ended text at []) ≡ ended text at zs
unfolding prepend ended
prepend_ended text at zs = go (leb (length text) (next text at))
  where
    go :
        (t : Bool)
        → prepend zs (if t then Ok [] else Err (misread TooMuch (next text at))) ≡ (if t then Ok zs else Err (misread TooMuch (next text at)))
    go true = rw (append-nil zs)
    go false = refl

-- the first k numbers are in their places, and the rest of the text gives the rest
pub record Filled (left : List (List ℕ)) (text : List ℕ) (numbers : List Len) (k at : ℕ) : Type 0 where
  pub inside : k ≤ 35
  pub places : length numbers ≡ 35
  pub same : numbers_from left text 0 ≡ prepend (take k numbers) (numbers_from (drop k left) text at)

pub none_filled : (left : List (List ℕ)) (text : List ℕ) (numbers : List Len) → length numbers ≡ 35 → Filled left text numbers 0 0
none_filled left text numbers e = record { inside = omega arith; places = e; same = sym (prepend_none (numbers_from left text 0)) }

module _
    (left : List (List ℕ)) (text : List ℕ) (numbers : List Len) (k at : ℕ)
    (size : length left ≡ 35) (t : Filled left text numbers k at)
  where
    from_here : k < 35 → numbers_from (drop k left) text at ≡ entry_then (entry_at (get_or left k []) text at) (numbers_from (drop (k + 1) left) text)
    unfolding numbers_from
    from_here h =
        let there : k < length left = omega (arith, size) in
        rw (drop-cons left k [] there, add-one k)

    pub one_filled :
        (z : Len) (after : ℕ) → k < 35 → entry_at (get_or left k []) text at ≡ Ok (record { value = z; after = after }) → Filled left text (set numbers k z) (k + 1) after
    unfolding entry_then
    one_filled z after h e =
        let room : k < length numbers = omega (arith, t.places) in
        record {
          inside = omega arith;
          places = length-set numbers k z ∙ t.places;
          same =
              t.same
              ∙ ap (prepend (take k numbers)) (from_here h ∙ rw e)
              ∙ prepend_more (take k numbers) (z ∷ []) (numbers_from (drop (k + 1) left) text after)
              ∙ ap (λ (zs : List Len). prepend zs (numbers_from (drop (k + 1) left) text after)) (sym (taken room));
        }
      where
        taken : k < length numbers → take (k + 1) (set numbers k z) ≡ take k numbers ++ (z ∷ [])
        taken room = rw (add-one k) (take-suc-set numbers k z room)

    pub stopped :
        (m : Misread) → k < 35 → entry_at (get_or left k []) text at ≡ Err m → Err m ≡ answered (numbers_from left text 0)
    unfolding entry_then prepend answered
    stopped m h e = rw (t.same, from_here h, e)

    pub all_filled : 35 ≤ k → numbers_from left text 0 ≡ ended text at numbers
    unfolding numbers_from
    all_filled h =
        let past : length left ≤ k = omega (arith, size) in
        let full : length numbers ≤ k = omega (arith, t.places) in
        t.same ∙ rw (drop_of_length-le left past, take_all k numbers full) (prepend_ended text at numbers)

-- ---- the end of the text

pub more_left :
    (text : List ℕ) (at place : ℕ) (zs : List Len) → place ≡ next text at → place < length text
    → Err (misread TooMuch place) ≡ answered (ended text at zs)
unfolding ended answered
more_left text at place zs e h =
    let past : next text at < length text = omega arith in
    rw (lt-leb (length text) (next text at) past, e)

pub nothing_left :
    (text : List ℕ) (at place : ℕ) (zs : List Len) (s : Setup) → place ≡ next text at → length text ≤ place → s ≡ setup_of zs
    → Ok s ≡ answered (ended text at zs)
unfolding ended answered
nothing_left text at place zs s e h f =
    let past : length text ≤ next text at = omega arith in
    rw (le-leb (length text) (next text at) past, f)

pub setup_in_lem : (text : List ℕ) (named : Bool) → named ≡ is_named text → answered (numbers_from (plan named) text 0) ≡ setup_in text
unfolding setup_in
setup_in_lem text named e = rw e
