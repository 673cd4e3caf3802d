-- The worst fault: "8: Duplicate Sub-Program Number". Data with two openings of one number, however they are written, is
-- refused, and gives no record, under every setup, room and budget.
-- The table of programs goes by the openings alone: the blocks between them do not count.
use Rattle.std.specs.Prelude.{Result, Ok, Err, if◌then◌else◌}
use Rattle.terms.proofs.Common.{ℕ, ◌<◌, ◌+◌, ◌≤◌, ◌≡◌, refl, sym, ◌∙◌, ap, Bool, true, false, ◌&&◌, ◌||◌, or-true, or_assoc, false≢true, not, or-false, Option, None, Some, List, [], ◌∷◌, ◌++◌, map, append_assoc, arith, eqb-true, eq-eqb, ne_eqb, leb-true, lt-leb, le-ltb, not-true, eqb, leb, length, drop, length-append}
use Rattle.terms.specs.Terms.{any, from_to}
use Rattle.terms.proofs.Laws.{any_snoc, both_left, both_right, either_left, either_right, any-neither}
use Rattle.refusals.specs.{declared.Refusal.Refusal, declared.Place.Place, Numbers.number_of}
use Rattle.refusals.specs.declared.Refusal.TheVariants.{BadParameter, DuplicateNumber, TableOver, FirstBlock, BadSetup, DataTooLong}
use Rattle.words.specs.Numbers.{is_digit, run, digits_after}
use Rattle.lines.specs.{Blocks.Block, Blocks.begins_with, Blocks.is_percent, Blocks.closes, Blocks.opens, Blocks.blocks_of, Gaps.only_gaps}
use Rattle.programs.specs.declared.Program.{Program}
use Rattle.programs.proofs.Entries.{taken_main, entry_refusal}
use Rattle.programs.specs.Openings.{number_after_o, opening_of, place_of, program_after, Table, table, refused_at, is_taken, entry_of, entered, scan_block, scan, main_as, programs_from}
use Rattle.setup.specs.{declared.Setup.Setup, Limits.valid_setup}
use Rattle.runs.specs.{Walk.Outcome, Walk.nowhere, Walk.just, Run.first_of, Run.run_table, Run.run_blocks, Run.outcome, Run.records_of, Run.answer_by, Run.answer_of, declared.Budget.Budget}
use Rattle.claims.{specs.Blockwise.table_in, proofs.Runs.by_test, proofs.Runs.by_order}
use Rattle.promises.specs.Duplicates.{with_block, openings_in, main_opens, openings_of, percent_begins, most_openings, Twice, Early, too_long, bad_setup, first_block, opening, earlier, NoList, RefusedEarly, all_different, InOrder}
use Rattle.runs.specs.Walk as Walk

-- ---- the openings alone

unfoldable scanned : Program → List Block → List Program → Table
scanned main [] subs = table main subs
scanned main (o ∷ os) subs = entered (entry_of main subs (opening_of o)) subs o (scanned main os)

unfoldable main_by : Option ℕ → Block → List Block → Table
main_by None o os = refused_at BadParameter (place_of o)
main_by (Some n) o os = scanned (program_after n o) os []

-- the table of openings, of which the first is the main's or not
unfoldable table_by : Bool → Block → List Block → Table
table_by false percent os = scanned (program_after 0 percent) os []
table_by true percent [] = table (program_after 0 percent) []
table_by true percent (o ∷ os) = main_by (opening_of o) o os

entered_same :
    (e : Result ℕ Refusal) (subs : List Program) (b : Block) (f g : List Program → Table) → ((ps : List Program) → f ps ≡ g ps)
    → entered e subs b f ≡ entered e subs b g
unfolding entered
entered_same (Err refusal) subs b f g h = refl
entered_same (Ok n) subs b f g h = h (subs ++ program_after n b ∷ [])

scan_openings : (main : Program) (bs : List Block) (subs : List Program) → scan main bs subs ≡ scanned main (openings_in bs) subs
unfolding scan scan_block with_block openings_in scanned
scan_openings main [] subs = refl
scan_openings main (b ∷ bs) subs = go (closes b) (opens b) (scan_openings main bs)
  where
    go :
        (end isOpening : Bool) → ((ps : List Program) → scan main bs ps ≡ scanned main (openings_in bs) ps)
        → scan_block end isOpening main subs b (scan main bs)
        ≡ scanned main (with_block end isOpening b (openings_in bs)) subs
    go true isOpening on = refl
    go false true on = entered_same (entry_of main subs (opening_of b)) subs b (scan main bs) (scanned main (openings_in bs)) on
    go false false on = on subs

-- a block that opens a program does not close the data
opens_closes : (b : Block) → opens b ≡ true → closes b ≡ false
unfolding begins_with is_percent
opens_closes b e = go b.text e
  where
    go : (text : List ℕ) → begins_with 79 text ≡ true → is_percent text ≡ false
    go [] f = refl
    go (c ∷ []) f = rw (eqb-true c 79 f)
    go (c ∷ d ∷ text) f = refl

programs_openings :
    (percent : Block) (bs : List Block) → programs_from percent bs ≡ table_by (main_opens (percent ∷ bs)) percent (openings_in bs)
unfolding programs_from main_opens table_by with_block openings_in scanned main_as main_by
programs_openings percent [] = refl
programs_openings percent (b ∷ bs) = go (opens b) refl
  where
    under : (o : Option ℕ) → main_as o b bs ≡ main_by o b (openings_in bs)
    under None = refl
    under (Some n) = scan_openings (program_after n b) bs []

    go :
        (isOpening : Bool) → opens b ≡ isOpening
        → (if isOpening then main_as (opening_of b) b bs else scan (program_after 0 percent) (b ∷ bs) [])
        ≡ table_by isOpening percent (openings_in (b ∷ bs))
    go true e = rw (opens_closes b e, e) (under (opening_of b))
    go false e = scan_openings (program_after 0 percent) (b ∷ bs) []

-- ---- what an opening leads to

module _ (main : Program) (subs : List Program) where
  taken_more : (p : Program) (n : ℕ) → is_taken main (subs ++ p ∷ []) n ≡ (is_taken main subs n || eqb n p.number)
  unfolding is_taken
  taken_more p n =
      ap (eqb n main.number ||◌) (any_snoc (λ q. eqb n q.number) subs p)
      ∙ sym (or_assoc (eqb n main.number) (any (λ q. eqb n q.number) subs) (eqb n p.number))

  taken_still : (p : Program) (n : ℕ) → is_taken main subs n ≡ true → is_taken main (subs ++ p ∷ []) n ≡ true
  taken_still p n e = taken_more p n ∙ rw e

  taken_now : (p : Program) (n : ℕ) → n ≡ p.number → is_taken main (subs ++ p ∷ []) n ≡ true
  unfolding is_taken
  taken_now p n e = taken_more p n ∙ rw (eq-eqb n p.number e) (or-true (is_taken main subs n))

  entry_duplicate : (o : Option ℕ) (n : ℕ) → o ≡ Some n → is_taken main subs n ≡ true → entry_of main subs o ≡ Err DuplicateNumber
  unfolding entry_of
  entry_duplicate o n e f = rw e (rw f)

  entry_enters :
      (o : Option ℕ) (n : ℕ) → o ≡ Some n → is_taken main subs n ≡ false → length subs < 10 → entry_of main subs o ≡ Ok n
  unfolding entry_of
  entry_enters o n e f h = rw e (rw (f, lt-leb 10 (length subs) h))

  -- an opening enters its own number
  entry_own : (o : Option ℕ) (n m : ℕ) → o ≡ Some n → entry_of main subs o ≡ Ok m → n ≡ m
  unfolding entry_of
  entry_own o n m e f = go (is_taken main subs n) (leb 10 (length subs)) (rw e at f)
    where
      go : (taken full : Bool) → (if taken then Err DuplicateNumber else (if full then Err TableOver else Ok n)) ≡ Ok m → n ≡ m
      go true full g = let never : ◌≡◌ {A = ℕ} 0 1 = cc in absurd (omega arith)
      go false true g = let never : ◌≡◌ {A = ℕ} 0 1 = cc in absurd (omega arith)
      go false false g = cc

-- "value 1 to 9999": no opening has the number 0, which stands for a main program without an opening
number_some : (b : Block) (n : ℕ) → opening_of b ≡ Some n → eqb n 0 ≡ false
unfolding opening_of number_after_o
number_some b n e =
    go (from_to 1 8 (length (run is_digit text))) (leb 1 value) (leb value 9_999) (only_gaps (drop (length (run is_digit text)) text)) refl e
  where
    text : List ℕ
    text = drop 1 b.text

    value : ℕ
    value = digits_after 0 (run is_digit text)

    go :
        (count low high rest : Bool) → leb 1 value ≡ low
        → (if count && (low && high) && rest then Some value else None) ≡ Some n → eqb n 0 ≡ false
    go true true true true f g = let is : value ≡ n = cc in ne_eqb n 0 (λ z. omega (arith, leb-true 1 value f))
    go true true true false f g = let never : ◌≡◌ {A = ℕ} 0 1 = cc in absurd (omega arith)
    go true true false rest f g = let never : ◌≡◌ {A = ℕ} 0 1 = cc in absurd (omega arith)
    go true false high rest f g = let never : ◌≡◌ {A = ℕ} 0 1 = cc in absurd (omega arith)
    go false low high rest f g = let never : ◌≡◌ {A = ℕ} 0 1 = cc in absurd (omega arith)

-- ---- numbers

-- no opening has the number 0
no_zero : (os : List Block) (ns : List ℕ) → map opening_of os ≡ map Some ns → any (λ k. eqb k 0) ns ≡ false
unfolding any
no_zero [] [] e = refl
no_zero [] (n ∷ ns) e = let never : ◌≡◌ {A = ℕ} 0 1 = cc in absurd (omega arith)
no_zero (c ∷ os) [] e = let never : ◌≡◌ {A = ℕ} 0 1 = cc in absurd (omega arith)
no_zero (c ∷ os) (n ∷ ns) e =
    let is : opening_of c ≡ Some n = cc in
    let rest : map opening_of os ≡ map Some ns = cc in
    rw (number_some c n is) (no_zero os ns rest)

-- an opening's number is one of the numbers
one_of :
    (n : ℕ) (a : Block) (os rest : List Block) (ns : List ℕ) → opening_of a ≡ Some n → map opening_of (os ++ a ∷ rest) ≡ map Some ns
    → any (eqb n) ns ≡ true
unfolding any
one_of n a [] rest [] e f = let never : ◌≡◌ {A = ℕ} 0 1 = cc in absurd (omega arith)
one_of n a [] rest (m ∷ ns) e f = let is : n ≡ m = cc in rw (eq-eqb n m is)
one_of n a (c ∷ os) rest [] e f = let never : ◌≡◌ {A = ℕ} 0 1 = cc in absurd (omega arith)
one_of n a (c ∷ os) rest (m ∷ ns) e f =
    let more : map opening_of (os ++ a ∷ rest) ≡ map Some ns = cc in
    rw (one_of n a os rest ns e more) (or-true (eqb n m))

-- ---- two openings of one number

-- one of the openings is refused
record Refusing (os : List Block) (t : Table) : Type 0 where
  refusal : Refusal
  before : List Block
  at : Block
  after : List Block
  are : os ≡ before ++ at ∷ after
  reason : any (eqb (number_of refusal)) (1 ∷ 8 ∷ 7 ∷ []) ≡ true
  is : t ≡ refused_at refusal (place_of at)

refusing_later : {os : List Block} {t : Table} (c : Block) → Refusing os t → Refusing (c ∷ os) t
refusing_later c r =
    let are = ap (c ∷◌) r.are in
    record { refusal = r.refusal; before = c ∷ r.before; at = r.at; after = r.after; are = are; reason = r.reason; is = r.is }

module _ (main : Program) (b : Block) (n : ℕ) (number : opening_of b ≡ Some n) (later : List Block) where
  -- an opening that is refused, or the table goes on with its number
  step :
      (c : Block) (os : List Block) (subs : List Program) (e : Result ℕ Refusal) → entry_of main subs (opening_of c) ≡ e
      → ((m : ℕ) → e ≡ Ok m → Refusing os (scanned main (os ++ later) (subs ++ program_after m c ∷ [])))
      → Refusing (c ∷ os) (scanned main (c ∷ os ++ later) subs)
  unfolding scanned entered
  step c os subs (Err refusal) e on =
      let reason = entry_refusal main subs (opening_of c) refusal e in
      record { refusal = refusal; before = []; at = c; after = os; are = refl; reason = reason; is = rw e }
  step c os subs (Ok m) e on = rw e (refusing_later c (on m refl))

  -- a number that is taken is refused at its opening, where no opening before it is
  taken_refused :
      (os : List Block) (subs : List Program) → is_taken main subs n ≡ true
      → Refusing (os ++ b ∷ []) (scanned main ((os ++ b ∷ []) ++ later) subs)
  taken_refused [] subs e =
      step b [] subs (Err DuplicateNumber) (entry_duplicate main subs (opening_of b) n number e)
      (λ m f. let never : ◌≡◌ {A = ℕ} 0 1 = cc in absurd (omega arith))
  taken_refused (c ∷ os) subs e =
      step c (os ++ b ∷ []) subs (entry_of main subs (opening_of c)) refl
      (λ m f. taken_refused os (subs ++ program_after m c ∷ []) (taken_still main subs (program_after m c) n e))

  module _ (a : Block) (same : opening_of a ≡ Some n) (between : List Block) where
    twice_refused :
        (os : List Block) (subs : List Program)
        → Refusing (os ++ a ∷ between ++ b ∷ []) (scanned main ((os ++ a ∷ between ++ b ∷ []) ++ later) subs)
    twice_refused [] subs =
        step a (between ++ b ∷ []) subs (entry_of main subs (opening_of a)) refl
        (λ m f.
        taken_refused between (subs ++ program_after m a ∷ [])
        (taken_now main subs (program_after m a) n (entry_own main subs (opening_of a) n m same f)))
    twice_refused (c ∷ os) subs =
        step c (os ++ a ∷ between ++ b ∷ []) subs (entry_of main subs (opening_of c)) refl
        (λ m f. twice_refused os (subs ++ program_after m c ∷ []))

-- the main's opening is refused, or its number is taken from then on
main_step :
    (o : Option ℕ) (c : Block) (os later : List Block)
    → ((m : ℕ) → o ≡ Some m → Refusing os (scanned (program_after m c) (os ++ later) [])) → Refusing (c ∷ os) (main_by o c (os ++ later))
unfolding main_by any
main_step None c os later on =
    record { refusal = BadParameter; before = []; at = c; after = os; are = refl; reason = refl; is = refl }
main_step (Some m) c os later on = refusing_later c (on m refl)

module _ (b a : Block) (n : ℕ) (other : opening_of b ≡ Some n) (one : opening_of a ≡ Some n) (between later : List Block) where
  under_main :
      (percent : Block) (os : List Block)
      → Refusing (os ++ a ∷ between ++ b ∷ []) (table_by true percent ((os ++ a ∷ between ++ b ∷ []) ++ later))
  unfolding table_by
  under_main percent [] =
      main_step (opening_of a) a (between ++ b ∷ []) later
      (λ m f.
      let own : n ≡ m = cc in
      taken_refused (program_after m a) b n other later between [] (taken_main (program_after m a) [] n own))
  under_main percent (c ∷ os) =
      main_step (opening_of c) c (os ++ a ∷ between ++ b ∷ []) later
      (λ m f. twice_refused (program_after m c) b n other later a one between os [])

-- whether the first opening is the main's or not
table_refused :
    (isMain : Bool) (percent : Block) {os : List Block} {b : Block} (later : List Block) → Twice os b
    → Refusing os (table_by isMain percent (os ++ later))
unfolding table_by
table_refused false percent {os} {b} later t =
    rw t.are (twice_refused (program_after 0 percent) b t.number t.other later t.first t.one t.between t.before [])
table_refused true percent {os} {b} later t =
    rw t.are (under_main b t.first t.number t.other t.one t.between later percent t.before)

-- ---- the first duplicate

-- with a number entered, the numbers are free that were free and are not this one
free_still :
    (main : Program) (subs : List Program) (p : Program) (ns : List ℕ) → any (is_taken main subs) ns ≡ false
    → any (λ k. eqb k p.number) ns ≡ false → any (is_taken main (subs ++ p ∷ [])) ns ≡ false
free_still main subs p ns =
    any-neither (is_taken main (subs ++ p ∷ [])) (is_taken main subs) (λ k. eqb k p.number) (λ k e. sym (taken_more main subs p k) ∙ e) ns

module _ (b : Block) (n : ℕ) (number : opening_of b ≡ Some n) (later : List Block) where
  first_refused :
      (main : Program) (os : List Block) (ns : List ℕ) (subs : List Program) → map opening_of os ≡ map Some ns → all_different ns ≡ true
      → any (is_taken main subs) ns ≡ false → length subs + length os ≤ 10 → (is_taken main subs n || any (eqb n) ns) ≡ true
      → scanned main (os ++ b ∷ later) subs ≡ refused_at DuplicateNumber (place_of b)
  unfolding scanned entered any all_different
  first_refused main [] [] subs g d f h e =
      rw (entry_duplicate main subs (opening_of b) n number (sym (or-false (is_taken main subs n)) ∙ e))
  first_refused main [] (m ∷ ns) subs g d f h e = let never : ◌≡◌ {A = ℕ} 0 1 = cc in absurd (omega arith)
  first_refused main (c ∷ os) [] subs g d f h e = let never : ◌≡◌ {A = ℕ} 0 1 = cc in absurd (omega arith)
  first_refused main (c ∷ os) (m ∷ ns) subs g d f h e =
      let p = program_after m c in
      let is : opening_of c ≡ Some m = cc in
      let rest : map opening_of os ≡ map Some ns = cc in
      let new : is_taken main subs m ≡ false = either_left (is_taken main subs m) (any (is_taken main subs) ns) f in
      let others : any (is_taken main subs) ns ≡ false = either_right (is_taken main subs m) (any (is_taken main subs) ns) f in
      let differ : any (λ k. eqb k m) ns ≡ false =
      not-true (any (λ k. eqb k m) ns) (both_left (not (any (λ k. eqb k m) ns)) (all_different ns) d) in
      let taken : (is_taken main (subs ++ p ∷ []) n || any (eqb n) ns) ≡ true =
      rw (taken_more main subs p n) (or_assoc (is_taken main subs n) (eqb n m) (any (eqb n) ns) ∙ e) in
      rw (entry_enters main subs (opening_of c) m is new (omega arith))
      (first_refused main os ns (subs ++ p ∷ []) rest (both_right (not (any (λ k. eqb k m) ns)) (all_different ns) d)
      (free_still main subs p ns others differ) (omega (arith, length-append subs (p ∷ []))) taken)

  -- the main's number is one of the numbers, and a main without an opening takes none
  first_table :
      (isMain : Bool) (percent : Block) (os : List Block) (ns : List ℕ) → InOrder os ns (most_openings isMain) → any (eqb n) ns ≡ true
      → table_by isMain percent (os ++ b ∷ later) ≡ refused_at DuplicateNumber (place_of b)
  unfolding table_by main_by any all_different is_taken most_openings
  first_table false percent os ns h e =
      first_refused (program_after 0 percent) os ns [] h.good h.different
      (ap (λ (test : ℕ → Bool). any test ns) (λ i k. or-false (eqb k 0) i) ∙ no_zero os ns h.good) (omega (arith, h.few))
      (rw e (or-true (is_taken (program_after 0 percent) [] n)))
  first_table true percent [] [] h e = absurd (false≢true e)
  first_table true percent [] (m ∷ ns) h e = let g = h.good in let never : ◌≡◌ {A = ℕ} 0 1 = cc in absurd (omega arith)
  first_table true percent (c ∷ os) [] h e = absurd (false≢true e)
  first_table true percent (c ∷ os) (m ∷ ns) h e =
      let g = h.good in
      let is : opening_of c ≡ Some m = cc in
      let rest : map opening_of os ≡ map Some ns = cc in
      let differ : any (λ k. eqb k m) ns ≡ false =
      not-true (any (λ k. eqb k m) ns) (both_left (not (any (λ k. eqb k m) ns)) (all_different ns) h.different) in
      rw is
      (first_refused (program_after m c) os ns [] rest (both_right (not (any (λ k. eqb k m) ns)) (all_different ns) h.different)
      (ap (λ (test : ℕ → Bool). any test ns) (λ i k. or-false (eqb k m) i) ∙ differ) (omega (arith, h.few))
      (rw (or-false (eqb n m)) e))

-- ---- the run

record Stops (s : Setup) (os : List Block) (o : Outcome) : Type 0 where
  refusal : Refusal
  place : Place
  early : Early os (number_of refusal) place
  is : o ≡ just (Walk.refused_at refusal place) (first_of s)

module _ (s : Setup) (bytes : List ℕ) (room : ℕ) (budget : Budget) where
  no_list :
      (refusal : Refusal) (place : Place) → outcome s bytes room budget ≡ just (Walk.refused_at refusal place) (first_of s)
      → NoList s bytes room budget (number_of refusal) place
  unfolding answer_of answer_by records_of
  no_list refusal place e = record { answer = rw e; records = rw e }

  stops_table : (bs : List Block) {os : List Block} {t : Table} → Refusing os t → Stops s os (run_table s bytes bs room budget t)
  unfolding run_table
  stops_table bs r =
      let early = opening r.before r.at r.after r.are r.reason in
      record { refusal = r.refusal; place = place_of r.at; early = early; is = rw r.is }

  stops :
      {os : List Block} {b : Block} (later : List Block) → Twice os b → openings_of bytes ≡ os ++ later
      → Stops s os (outcome s bytes room budget)
  unfolding openings_of table_in run_table
  stops {os} later twice e =
      by_order s bytes room budget (λ x o. Stops s os o) (record { refusal = DataTooLong; place = nowhere; early = too_long; is = refl })
      (record { refusal = BadSetup; place = nowhere; early = bad_setup; is = refl }) (λ v. go (blocks_of bytes) e)
    where
      first : Stops s os (just (Walk.refused_at FirstBlock (record { block = 1; byte = 0 })) (first_of s))
      first = record { refusal = FirstBlock; place = record { block = 1; byte = 0 }; early = first_block; is = refl }

      go : (bs : List Block) → openings_in (drop 1 bs) ≡ os ++ later → Stops s os (run_table s bytes (blocks_of bytes) room budget (table_in bs))
      go [] f = first
      go (percent ∷ bs) f =
          by_test (λ t. Stops s os (run_table s bytes (blocks_of bytes) room budget t)) (closes percent)
          (rw (programs_openings percent bs, f)
          (stops_table (blocks_of bytes) (table_refused (main_opens (percent ∷ bs)) percent later twice)))
          first

  -- Data with two openings of one number is refused at the second of them or earlier, and no record is made.
  pub two_of_one_number :
      {os : List Block} {b : Block} (later : List Block) → openings_of bytes ≡ os ++ later → Twice os b → RefusedEarly s bytes room budget os
  two_of_one_number later e twice =
      let r = stops later twice e in
      record { number = number_of r.refusal; place = r.place; early = r.early; no_list = no_list r.refusal r.place r.is }

  -- Where data, setup and first block are in order and no opening before the second of the two is refused, the refusal is 8
  -- at that opening.
  pub first_duplicate :
      {os : List Block} {b : Block} (later : List Block) (ns : List ℕ) → length bytes ≤ 65_535 → valid_setup s ≡ true
      → percent_begins (blocks_of bytes) ≡ true → openings_of bytes ≡ os ++ later → (twice : Twice os b)
      → InOrder (earlier twice) ns (most_openings (main_opens (blocks_of bytes))) → NoList s bytes room budget 8 (place_of b)
  unfolding outcome openings_of run_blocks run_table percent_begins
  first_duplicate {os} {b} later ns h v p e twice order =
      no_list DuplicateNumber (place_of b) (rw (le-ltb 65_535 (length bytes) h, v) (go (blocks_of bytes) p listed order))
    where
      listed : openings_in (drop 1 (blocks_of bytes)) ≡ earlier twice ++ b ∷ later
      listed = e ∙ rw twice.are (simp append_assoc)

      go :
          (bs : List Block) → percent_begins bs ≡ true → openings_in (drop 1 bs) ≡ earlier twice ++ b ∷ later
          → InOrder (earlier twice) ns (most_openings (main_opens bs))
          → run_blocks s bytes room budget bs ≡ just (Walk.refused_at DuplicateNumber (place_of b)) (first_of s)
      go [] q f o = absurd (false≢true q)
      go (percent ∷ bs) q f o =
          let is : table_by (main_opens (percent ∷ bs)) percent (earlier twice ++ b ∷ later) ≡ refused_at DuplicateNumber (place_of b) =
          first_table b twice.number twice.other later (main_opens (percent ∷ bs)) percent (earlier twice) ns o
          (one_of twice.number twice.first twice.before twice.between ns twice.one o.good) in
          rw (q, programs_openings percent bs, f, is)
