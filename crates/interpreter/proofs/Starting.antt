-- What a run starts with, and what it answers. Assumes nothing.
use Rattle.std.specs.Prelude.{Result, Ok, Err}
use Rattle.terms.proofs.Common.{ℕ, ◌+◌, ◌-◌, ◌≤◌, ◌<◌, ◌^◌, ◌≡◌, refl, sym, ◌∙◌, ap, Bool, true, false, Some, List, [], ◌∷◌, arith, dec_lt, lt-ltb, le-ltb, length, drop, sets-eq}
use Rattle.refusals.specs.declared.{Refusal.Refusal, Refusal.TheVariants.FirstBlock, Refusal.TheVariants.BadSetup, Refusal.TheVariants.DataTooLong, Place.Place, Refused.Refused}
use Rattle.lines.specs.Blocks.{Block, block_from, blocks_of, length_from, is_percent, text_from}
use Rattle.lines.{specs.Serving.blocks_from, proofs.Lines.blocks_step, proofs.Lines.blocks_end, proofs.Lines.percent_end}
use Rattle.lengths.specs.{View.Within, declared.Point.Point, Near.Near}
use Rattle.setup.specs.{declared.Bed.Bed, declared.Setup.Setup, Limits.valid_setup, Frame.offset, Frame.bed_of, Frame.switch_on, Fair.Fair}
use Rattle.records.specs.{declared.Record.Record, Layout.room_of, Layout.list_bytes, Writing.moved_bytes}
use Rattle.settings.specs.declared.State.{State}
use Rattle.programs.specs.declared.table.Programs.{Programs}
use Rattle.programs.specs.{Openings.Table, Openings.table, Openings.refused_at, Openings.programs_from, Found.subs_of, Found.table_of, Places.Placed, Places.TablePlaced}
use Rattle.programs.proofs.Places.{found_placed, main_placed, subs_placed, known_placed}
use Rattle.blocks.proofs.Nearness.{inside_sums}
use Rattle.runs.specs.{Walk.How, Walk.Outcome, Walk.nowhere, Walk.just, Serving.report_by, declared.Budget.Budget, declared.Progress.Progress, declared.Report.Report}
use Rattle.runs.specs.Run.{first_of, run_table, run_blocks, outcome, records_of, answer_of, standing_of}
use Rattle.interpreter.specs.{Owing.Owes, Serving.Opened, Serving.Gives, declared.Ending.Ending}
use Rattle.interpreter.specs.Progressing.{job_of, going_of, walk_from, outcome_by, Ran, Sound, Fits}
use Rattle.interpreter.proofs.Endings.{moved_length}
use Rattle.runs.specs.Walk as Walk
use Rattle.runs.proofs.Starting.{first_reached}

module _ (s : Setup) (valid : valid_setup s ≡ true) where
  -- the first progress
  pub first_fits :
      {bed : Bed} {state : State} (room : ℕ) (budget : Budget) → bed ≡ bed_of s → state ≡ first_of s
      → Fits bed room (record { state = state; next = 0; count = 0; budget = budget })
  first_fits room budget e f =
      rw (e, f) (record { state = first_reached s valid; next = omega arith; count = omega arith })

module _ {l : List ℕ} {t : Programs} (o : Opened l t) where
  placed : TablePlaced l (table t.main (subs_of t))
  placed = let p = found_placed l o.some in let e = o.table in rw e at p

  pub main_begins : Placed l t.main
  main_begins = main_placed placed

  pub task_sound : {bed : Bed} (skips : Bool) → Fair bed → Sound l (record { bed = bed; programs = t; skips = skips })
  task_sound skips fair =
      record { fair = fair; places = λ n q e. known_placed n (subs_placed placed) e }

  -- the main program's walk is the run
  pub main_walk :
      {bed : Bed} {state : State} {skips : Bool} (s : Setup) (room : ℕ) (budget : Budget) → bed ≡ bed_of s → state ≡ first_of s → skips ≡ switch_on s
      → walk_from l room (record { bed = bed; programs = t; skips = skips }) 4 t.main.block t.main.byte
      (record { state = state; next = 0; count = 0; budget = budget })
      ≡ run_table s l (blocks_of l) room budget (table t.main (subs_of t))
  unfolding walk_from job_of going_of run_table
  main_walk s room budget e f g =
      let b = main_begins in
      let all : room - 0 ≡ room = omega arith in
      rw (e, f, g, all, b.begins.blocks)

-- ---- the answer

module _ {bed : Bed} {o : Outcome} {p : Progress} {was is : List ℕ} {e : Ending} (ran : Ran bed o p was is e) where
  -- the settings at the end can be told in machine units
  pub main_sums :
      {by : Point} → Fair bed → by ≡ bed.offset
      → (Near (2 ^ 61) by) × (Near (2 ^ 61) e.progress.state.at) × (Within (2 ^ 61) e.progress.state.kept.initial.v)
  main_sums fair b =
      let sums = inside_sums bed fair e.progress.state.at ran.fits.state.at in
      rw b (sums.0, sums.1, omega (arith, ran.fits.state.kept.initial))

  pub main_gives :
      {u : Outcome} {by : Point} {r : Report} → bed.offset ≡ by → p.next ≡ 0 → p.count ≡ 0 → o ≡ u
      → ((room : ℕ) (made : List Record) → length made ≡ e.progress.count → room_of made ≡ e.progress.next → r ≡ report_by by (outcome_by room e made))
      → Gives by u was is r
  main_gives {by = by} b n k f told =
      rw (← f)
      (record {
        report = told (length was) o.made (omega (arith, ran.count)) (omega (arith, ran.next)) ∙ sym (ap (report_by by) ran.outcome);
        bytes = ran.bytes ∙ rw (n, b) refl;
        room = omega (arith, ran.next, ran.fits.next);
      })

-- an outcome without records
pub gives_just :
    {by : Point} {o : Outcome} {how : How} {s : State} {r : Report} (was : List ℕ) → o ≡ just how s → r ≡ report_by by (just how s)
    → Gives by o was was r
unfolding list_bytes room_of
gives_just was e f = rw (e, f) (record { report = refl; bytes = refl; room = omega arith })

pub gives_as :
    {by : Point} {o u : Outcome} {was is : List ℕ} {r : Report} → o ≡ u → Gives by u was is r → Gives by o was is r
gives_as e g = rw e g

-- ---- "Order: 13, 12, 11; then per opening 1, 8, 7."

module _ (s : Setup) (l : List ℕ) (room : ℕ) (budget : Budget) where
  too_long : 65_535 < length l → outcome s l room budget ≡ just (Walk.refused_at DataTooLong nowhere) (first_of s)
  unfolding outcome
  too_long h = rw (lt-ltb 65_535 (length l) h)

  module _ (short : length l ≤ 65_535) where
    bad_setup : valid_setup s ≡ false → outcome s l room budget ≡ just (Walk.refused_at BadSetup nowhere) (first_of s)
    unfolding outcome
    bad_setup e = rw (le-ltb 65_535 (length l) short, e)

    module _ (valid : valid_setup s ≡ true) where
      by_blocks : outcome s l room budget ≡ run_blocks s l room budget (blocks_of l)
      unfolding outcome
      by_blocks = rw (le-ltb 65_535 (length l) short, valid)

      blocks_closed :
          (bs : List Block) (b : Block) (rest : List Block) → bs ≡ b ∷ rest → is_percent b.text ≡ true
          → run_blocks s l room budget bs ≡ run_table s l bs room budget (programs_from b rest)
      unfolding run_blocks
      blocks_closed bs b rest e f = rw e (rw f)

      blocks_open :
          (bs : List Block) (b : Block) (rest : List Block) → bs ≡ b ∷ rest → is_percent b.text ≡ false
          → run_blocks s l room budget bs ≡ just (Walk.refused_at FirstBlock (record { block = 1; byte = 0 })) (first_of s)
      unfolding run_blocks
      blocks_open bs b rest e f = rw e (rw f)

      blocks_none : blocks_of l ≡ [] → run_blocks s l room budget (blocks_of l) ≡ just (Walk.refused_at FirstBlock (record { block = 1; byte = 0 })) (first_of s)
      unfolding run_blocks
      blocks_none e = rw e

      first_block : 0 < length l → blocks_of l ≡ block_from 1 0 l ∷ blocks_from l 2 (0 + length_from l)
      unfolding blocks_of
      first_block h = blocks_step l 1 0 h

      no_block : length l ≤ 0 → blocks_of l ≡ []
      unfolding blocks_of
      no_block h = blocks_end l 1 0 h

      not_closed : is_percent (text_from (drop 0 l)) ≡ false → outcome s l room budget ≡ just (Walk.refused_at FirstBlock (record { block = 1; byte = 0 })) (first_of s)
      not_closed e =
          by_blocks
          ∙ elim (dec_lt 0 (length l)) [
            | yes h ↦ blocks_open (blocks_of l) (block_from 1 0 l) (blocks_from l 2 (0 + length_from l)) (first_block h) e
            | no h ↦ blocks_none (no_block (omega arith))
          ]

      module _ (percent : is_percent (text_from (drop 0 l)) ≡ true) where
        pub some_byte : 0 < length l
        some_byte =
            elim (dec_lt 0 (length l)) [
              | yes h ↦ h
              | no h ↦
                  let z : false ≡ true = sym (percent_end l 0 (omega arith)) ∙ percent in
                  let y : ◌≡◌ {A = ℕ} 0 1 = cc in
                  absurd (omega arith)
            ]

        pub by_table :
            (t : Table) → programs_from (block_from 1 0 l) (blocks_from l 2 (0 + length_from l)) ≡ t
            → outcome s l room budget ≡ run_table s l (blocks_of l) room budget t
        by_table t e =
            by_blocks ∙ blocks_closed (blocks_of l) (block_from 1 0 l) (blocks_from l 2 (0 + length_from l)) (first_block some_byte) percent
            ∙ ap (run_table s l (blocks_of l) room budget) e

-- what a run tells before its first block, and what it hands to the main program
module _ (s : Setup) (l : List ℕ) (budget : Budget) (was : List ℕ) where
  abbrev Before : Report → Refusal → Place → Type 0
  Before r refusal place = r ≡ report_by (offset s) (just (Walk.refused_at refusal place) (first_of s))

  abbrev Given : Report → Type 0
  Given r = Gives (offset s) (outcome s l (length was) budget) was was r

  pub gives_too_long : {r : Report} → 65_535 < length l → Before r DataTooLong nowhere → Given r
  gives_too_long h e = gives_just was (too_long s l (length was) budget h) e

  module _ (short : length l ≤ 65_535) where
    pub gives_bad_setup : {r : Report} → valid_setup s ≡ false → Before r BadSetup nowhere → Given r
    gives_bad_setup e f = gives_just was (bad_setup s l (length was) budget short e) f

    module _ (valid : valid_setup s ≡ true) where
      pub gives_first_block :
          {r : Report} → is_percent (text_from (drop 0 l)) ≡ false → Before r FirstBlock (record { block = 1; byte = 0 }) → Given r
      gives_first_block e f = gives_just was (not_closed s l (length was) budget short valid e) f

      module _ (percent : is_percent (text_from (drop 0 l)) ≡ true) {found : Result Programs Refused} (scan : table_of found ≡ programs_from (block_from 1 0 l) (blocks_from l 2 (0 + length_from l))) where
        pub gives_opening : {r : Report} {x : Refused} → found ≡ Err x → Before r x.refusal x.place → Given r
        unfolding table_of run_table
        gives_opening {r} {x} e f =
            gives_just was (by_table s l (length was) budget short valid percent (refused_at x.refusal x.place) (sym scan ∙ ap table_of e)) f

        module _ {t : Programs} (e : found ≡ Ok t) where
          pub programs_opened : Opened l t
          unfolding table_of
          programs_opened =
              record {
                some = some_byte s l (length was) budget short valid percent;
                table = sym scan ∙ ap table_of e;
              }

          pub gives_main :
              {is : List ℕ} {r : Report}
              → Gives (offset s) (run_table s l (blocks_of l) (length was) budget (table t.main (subs_of t))) was is r
              → Gives (offset s) (outcome s l (length was) budget) was is r
          gives_main h =
              gives_as (by_table s l (length was) budget short valid percent (table t.main (subs_of t)) programs_opened.table) h

-- ---- the list buffer in full

pub owed :
    (s : Setup) (l : List ℕ) (budget : Budget) {was is : List ℕ} {r : Report}
    → Gives (offset s) (outcome s l (length was) budget) was is r → Owes s l budget was is r
unfolding answer_of standing_of records_of report_by
owed s l budget {was} g =
    let made = (outcome s l (length was) budget).made in
    let bytes = moved_bytes (offset s) made in
    let fits : 0 + length bytes ≤ length was = omega (arith, moved_length (offset s) made, g.room) in
    let none : 0 + length bytes ≡ length bytes = omega arith in
    record {
      answer = ap (λ (r : Report). r.answer) g.report;
      standing = ap (λ (r : Report). r.standing) g.report;
      end = ap (λ (r : Report). r.end) g.report ∙ sym (moved_length (offset s) made);
      bytes = g.bytes ∙ rw none at (sets-eq bytes was 0 fits);
    }
