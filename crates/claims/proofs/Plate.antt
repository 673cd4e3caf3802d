-- Document 02, #102, "Holes after the first": a block that names a cycle with Z and R, and then blocks of X and Y, give the records of
-- blocks that name all of it each. So it is in G90 and in G91, under G98 and under G99, with every cycle. Assumes nothing.
use Rattle.terms.proofs.Common.{ℕ, ◌-◌, ◌≡◌, refl, sym, ◌∙◌, ap, Bool, true, false, not, ◌&&◌, Option, None, Some, List, [], ◌∷◌, map, arith, eq-eqb}
use Rattle.terms.specs.Terms.{byte, any, first, first_of, lookup}
use Rattle.refusals.specs.declared.Refusal.TheVariants.{BadParameter}
use Rattle.refusals.specs.declared.Blame.{Blame}
use Rattle.lengths.specs.{declared.Len.Len, declared.Point.Point, Points.at_height}
use Rattle.codes.specs.Codes.{group_of, is_group_a, is_g04, clash, misc_number, is_m, cycle_number}
use Rattle.codes.specs.declared.{Cycle.Cycle, Motion.TheVariants.Drilling, Plane.Plane, Code.TheVariants.GroupA, Misc.TheVariants.Other}
use Rattle.codes.specs.declared.Cycle.TheVariants.{G81, G82, G85, G89}
use Rattle.words.specs.{declared.Number.Number, declared.Word.Word, Values.value_of, Words.these}
use Rattle.records.specs.{declared.Record.Record, Layout.room_of, Path.end_of}
use Rattle.settings.specs.{declared.Modes.Modes, declared.State.State, Settings.switched, Settings.or_else}
use Rattle.settings.specs.CycleWords.{same_cycle, kept_before, under_by, stands_with, under_with, kept_with, kept_under}
use Rattle.cycles.{specs.Cycles.hole_of, specs.Cycles.levels_hold, specs.Cycles.pass_count, specs.Cycles.passes, proofs.Passes.same_place}
use Rattle.letters.specs.Letters.{is_known, code_in, repeats, bad_g, may_not_stand, first_that_may_not, misc_or_other, misc_of_block, modes_in, names_group_a, names_g04, code_under, block_code}
use Rattle.letters.specs.Letters.{drilling_letters, motion_letters, letters_of, use_of, is_nothing, turns, is_arc, has_centre, is_unused, first_unused, word_value, is_bad, first_bad_value, with_value, values_after}
use Rattle.letters.specs.declared.BlockCode.{BlockCode, TheVariants.Moving}
use Rattle.blocks.specs.{Machine.Machine, declared.Said.Said, declared.Control.Control, Motions.cycle_done, Motions.cycle_moves, Motions.motion_of, Motions.moves_of}
use Rattle.blocks.specs.Exec.{Calls, in_main, said_by, kept_by, working, spindle_records, moves_in, made_by, settled, control_of, call_to, lacks_centre, lacks_parameter, drills, cannot_drill, at_word, blames, Verdict, refused, accepted, unless, judged, exec_words}
use Rattle.blocks.proofs.{Accepting.all_none, Accepting.word_none, Accepting.judged_accepts, Calling.none_first}
use Rattle.claims.specs.Plate.{word, Naming, Spot, placed, in_full, Came, came_by, came_to}

same_code : (cycle : Cycle) → same_cycle cycle cycle ≡ true
unfolding same_cycle
same_code cycle = eq-eqb (cycle_number cycle) (cycle_number cycle) refl

-- what changes from hole to hole
record Ground : Type 0 where
  at : Point
  feed : Len
  speed : Len
  turning : Bool
  initial : Len
  dwell : Len
  dwells : Bool

-- ---- a verdict by its words

module _ (machine : Machine) (calls : Calls) (room : ℕ) (s : State) (ws : List Word) (b : Said) where
  -- "1 leftmost by value", all words before it being fine
  by_value :
      {w : Word} → first_that_may_not (in_main calls) [] ws ≡ None
      → first_unused b.code b.modes.plane (has_centre b.code b.modes.plane ws) ws ≡ None
      → first_bad_value machine.speeds b.modes b.code ws ≡ Some w
      → judged machine calls room s 0 ws b ≡ refused (record { refusal = BadParameter; byte = w.at })
  unfolding judged blames unless first_of at_word
  by_value e f g = rw (e, f, g)

  -- an accepted block has no bad value, and leaves its settings
  by_acceptance :
      {next : State} {control : Control} {made : List Record} → judged machine calls room s 0 ws b ≡ accepted next control made
      → (first_bad_value machine.speeds b.modes b.code ws ≡ None) × (next ≡ settled machine s b)
  unfolding blames
  by_acceptance e =
      let h = judged_accepts machine calls room s 0 ws b e in
      let is = h.1 in
      let passed = all_none (blames machine calls room s 0 ws b) h.0 in
      (word_none BadParameter (first_bad_value machine.speeds b.modes b.code ws) passed.1.1.0, cc)

fit_of : (v : Option Len) → is_bad v ≡ false → (l : Len) × (v ≡ Some l)
unfolding is_bad
fit_of (Some l) e = (l, refl)
fit_of None e = let no : ◌≡◌ {A = ℕ} 0 1 = cc in absurd (omega arith)

-- ---- what the words of both kinds of block say

module _ (machine : Machine) (calls : Calls) (cycle : Cycle) (n : Naming) (is : code_in (word (byte "G") n.g) ≡ GroupA (Drilling cycle)) where
  abbrev code : BlockCode
  code = Moving (Drilling cycle)

  abbrev value_in : Modes → ℕ → Number → Option Len
  value_in m letter k = word_value machine.speeds m code (word letter k)

  abbrev said : Bool → Modes → Option Len → Option Len → Option Len → Option Len → Said
  said named m x y z r =
      record {
        modes = m;
        code = code;
        misc = Other;
        named = named;
        values =
            record {
              x = x;
              y = y;
              z = z;
              i = None;
              j = None;
              k = None;
              r = r;
              p = None;
              f = None;
              s = None;
            };
      }

  abbrev drilling : Modes → Modes
  drilling m = record { motion = Drilling cycle; plane = m.plane; unit = m.unit; distance = m.distance; origin = m.origin; back = m.back }

  -- the values of a place's words, and those of Z and R
  abbrev x : Modes → Spot → Option Len
  x m p = value_in (drilling m) (byte "X") p.x

  abbrev y : Modes → Spot → Option Len
  y m p = value_in (drilling m) (byte "Y") p.y

  abbrev z : Modes → Option Len
  z m = value_in (drilling m) (byte "Z") n.z

  abbrev r : Modes → Option Len
  r m = value_in (drilling m) (byte "R") n.r

  said_full : (m : Modes) (p : Spot) → said_by machine m (in_full n p) ≡ said true (drilling m) (x m p) (y m p) (z m) (r m)
  unfolding said_by modes_in switched block_code code_under misc_of_block misc_or_other first any names_g04 names_group_a is_g04 is_group_a group_of is_m misc_number values_after with_value
  said_full m p = rw is

  said_short : (m : Modes) (p : Spot) → said_by machine (drilling m) (placed p) ≡ said false (drilling m) (x m p) (y m p) None None
  unfolding said_by modes_in switched block_code code_under misc_of_block misc_or_other first any names_g04 names_group_a is_g04 is_group_a group_of is_m misc_number values_after with_value
  said_short m p = refl

  module _ (p : Spot) where
    may_full : (main : Bool) → first_that_may_not main [] (in_full n p) ≡ None
    unfolding first_that_may_not may_not_stand is_known repeats bad_g clash is_group_a is_g04 group_of any
    may_full main = rw is

    may_short : (main : Bool) → first_that_may_not main [] (placed p) ≡ None
    unfolding first_that_may_not may_not_stand is_known repeats bad_g clash is_group_a is_g04 group_of any
    may_short main = refl

    unused_full : (plane : Plane) → first_unused code plane (has_centre code plane (in_full n p)) (in_full n p) ≡ None
    unfolding first_unused first is_unused has_centre is_arc turns use_of letters_of motion_letters drilling_letters lookup is_nothing
    unused_full plane =
        elim cycle as (λ (c : Cycle). first_unused (Moving (Drilling c)) plane (has_centre (Moving (Drilling c)) plane (in_full n p)) (in_full n p) ≡ None)
        [ G81 ↦ refl | G82 ↦ refl | G85 ↦ refl | G89 ↦ refl ]

    unused_short : (plane : Plane) → first_unused code plane (has_centre code plane (placed p)) (placed p) ≡ None
    unfolding first_unused first is_unused has_centre is_arc turns use_of letters_of motion_letters drilling_letters lookup is_nothing
    unused_short plane =
        elim cycle as (λ (c : Cycle). first_unused (Moving (Drilling c)) plane (has_centre (Moving (Drilling c)) plane (placed p)) (placed p) ≡ None)
        [ G81 ↦ refl | G82 ↦ refl | G85 ↦ refl | G89 ↦ refl ]

  -- a G has no value that could be bad
  g_fits : (m : Modes) → is_bad (value_in m (byte "G") n.g) ≡ false
  unfolding is_bad word_value use_of lookup value_of
  g_fits m = refl

  -- ---- on a plate: the cycle is on, and its Z and R were written under the G90 or G91 that is on

  module _ (m : Modes) {zv rv : Len} (ez : z m ≡ Some zv) (er : r m ≡ Some rv) where
    abbrev state_of : Ground → State
    state_of g =
        record {
          at = g.at;
          modes = drilling m;
          feed = g.feed;
          speed = g.speed;
          turning = g.turning;
          kept =
              record {
                initial = g.initial;
                z = zv;
                r = rv;
                dwell = g.dwell;
                stands = record { z = true; r = true; dwell = g.dwells };
                under = record { z = m.distance; r = m.distance };
              };
        }

    -- both blocks have the same words with a bad value
    bad_same :
        (p : Spot)
        → first_bad_value machine.speeds (drilling m) code (placed p) ≡ first_bad_value machine.speeds (drilling m) code (in_full n p)
    unfolding first_bad_value first is_bad
    bad_same p = rw (ez, er, g_fits (drilling m))

    -- good values do the same
    module _ (g : Ground) (xv yv : Len) where
      abbrev s : State
      s = state_of g

      abbrev short : Said
      short = said false (drilling m) (Some xv) (Some yv) None None

      abbrev full : Said
      full = said true (drilling m) (Some xv) (Some yv) (Some zv) (Some rv)

      working_same : working s short ≡ working s full
      unfolding working or_else kept_by kept_under kept_before kept_with stands_with under_with under_by
      working_same = rw (same_code cycle)

      cycle_same : (w : State) (origin : Point) → cycle_moves cycle w origin short.values ≡ cycle_moves cycle w origin full.values
      unfolding cycle_moves passes at_height
      cycle_same w origin =
          let h = hole_of cycle w origin in
          ap (λ (rs : List Record). record { records = rs; sound = levels_hold h })
          (same_place h w.modes.distance origin full.values short.values (pass_count None) h.stood w.at w.at.z)

      moves_same : moves_in machine s short ≡ moves_in machine s full
      unfolding moves_in moves_of motion_of cycle_done
      moves_same =
          let origin = machine.origin m.origin in
          cycle_same (working s short) origin ∙ ap (λ (w : State). cycle_moves cycle w origin full.values) working_same

      made_same : made_by machine s short ≡ made_by machine s full
      unfolding made_by spindle_records
      made_same = rw (moves_same, working_same)

      settled_same : settled machine s short ≡ settled machine s full
      unfolding settled
      settled_same = rw (made_same, working_same)

      cannot_same : cannot_drill s short ≡ cannot_drill s full
      unfolding cannot_drill drills cycle_done
      cannot_same = rw working_same

      -- and leave a plate's settings
      abbrev after : Ground
      after =
          record {
            at = end_of g.at (made_by machine s short);
            feed = g.feed;
            speed = g.speed;
            turning = (working s short).turning && not (is_m 5 Other);
            initial = g.initial;
            dwell = g.dwell;
            dwells = g.dwells;
          }

      settled_is : settled machine s short ≡ state_of after
      unfolding settled working or_else kept_by kept_under kept_before kept_with stands_with under_with under_by
      settled_is = rw (same_code cycle)

    -- ---- one block after the first

    module _ (g : Ground) (p : Spot) (room : ℕ) where
      abbrev here : State
      here = state_of g

      abbrev short_verdict : Verdict
      short_verdict = exec_words machine calls room here 0 (these (placed p))

      abbrev full_verdict : Verdict
      full_verdict = exec_words machine calls room here 0 (these (in_full n p))

      module _ {vx vy : Option Len} (ex : x m p ≡ vx) (ey : y m p ≡ vy) where
        abbrev short_said : Said
        short_said = said false (drilling m) vx vy None None

        abbrev full_said : Said
        full_said = said true (drilling m) vx vy (Some zv) (Some rv)

        short_is : short_verdict ≡ judged machine calls room here 0 (placed p) short_said
        unfolding exec_words
        short_is = rw (said_short m p, ex, ey)

        full_is : full_verdict ≡ judged machine calls room here 0 (in_full n p) full_said
        unfolding exec_words
        full_is = rw (said_full (drilling m) p, ex, ey, ez, er)

        module _ {w : Word} (bad : first_bad_value machine.speeds (drilling m) code (placed p) ≡ Some w) where
          short_bad : short_verdict ≡ refused (record { refusal = BadParameter; byte = w.at })
          short_bad = short_is ∙ by_value machine calls room here (placed p) short_said (may_short p (in_main calls)) (unused_short p m.plane) bad

          full_bad : full_verdict ≡ refused (record { refusal = BadParameter; byte = w.at })
          full_bad =
              full_is
              ∙ by_value machine calls room here (in_full n p) full_said (may_full p (in_main calls)) (unused_full p m.plane) (sym (bad_same p) ∙ bad)

      judged_same : (xv yv : Len) → judged machine calls room here 0 (placed p) (short g xv yv) ≡ judged machine calls room here 0 (in_full n p) (full g xv yv)
      unfolding judged blames lacks_parameter lacks_centre control_of is_m misc_number call_to
      judged_same xv yv =
          rw (
            may_short p (in_main calls),
            may_full p (in_main calls),
            unused_short p m.plane,
            unused_full p m.plane,
            bad_same p,
            cannot_same g xv yv,
            moves_same g xv yv,
            made_same g xv yv,
            settled_same g xv yv,
          )

      -- what both come to: the same verdict, and a plate's settings where it is accepted
      record Alike : Type 0 where
        same : short_verdict ≡ full_verdict
        leads : {next : State} {control : Control} {made : List Record} → short_verdict ≡ accepted next control made → (h : Ground) × (next ≡ state_of h)

      refused_alike : {blame : Blame} → short_verdict ≡ refused blame → full_verdict ≡ refused blame → Alike
      refused_alike e f =
          record { same = e ∙ sym f; leads = λ i. let no : ◌≡◌ {A = ℕ} 0 1 = cc in absurd (omega arith) }

      alike : Alike
      unfolding first_bad_value first is_bad
      alike = go (x m p) (y m p) refl refl
        where
          go : (vx vy : Option Len) → x m p ≡ vx → y m p ≡ vy → Alike
          go None vy ex ey =
              let bad : first_bad_value machine.speeds (drilling m) code (placed p) ≡ Some (word (byte "X") p.x) = rw ex in
              refused_alike (short_bad ex ey bad) (full_bad ex ey bad)
          go (Some xv) None ex ey =
              let bad : first_bad_value machine.speeds (drilling m) code (placed p) ≡ Some (word (byte "Y") p.y) = rw (ex, ey) in
              refused_alike (short_bad ex ey bad) (full_bad ex ey bad)
          go (Some xv) (Some yv) ex ey =
              record {
                same = short_is ex ey ∙ judged_same xv yv ∙ sym (full_is ex ey);
                leads =
                    λ i. (
                      after g xv yv,
                      (by_acceptance machine calls room here (placed p) (short g xv yv) (sym (short_is ex ey) ∙ i)).1 ∙ settled_is g xv yv,
                    );
              }

    -- ---- all blocks after the first

    module _ (spots : List Spot) where
      abbrev Same : Ground → ℕ → Type 0
      Same g room = came_to machine calls room (state_of g) (map placed spots) ≡ came_to machine calls room (state_of g) (map (in_full n) spots)

      one_more_lem :
          (p : Spot) (g : Ground) (room : ℕ) → ((h : Ground) (left : ℕ) → Same h left) → (v : Verdict) → short_verdict g p room ≡ v
          → came_by (short_verdict g p room) room (λ left next. came_to machine calls left next (map placed spots))
          ≡ came_by (full_verdict g p room) room (λ left next. came_to machine calls left next (map (in_full n) spots))
      unfolding came_by
      one_more_lem p g room more (refused blame) e = rw (← (alike g p room).same, e)
      one_more_lem p g room more (accepted next control made) e =
          let led = (alike g p room).leads e in
          rw (← (alike g p room).same, e, led.1, more led.0 (room - room_of made))

    rest_same : (spots : List Spot) (g : Ground) (room : ℕ) → Same spots g room
    unfolding came_to
    rest_same [] g room = refl
    rest_same (p ∷ spots) g room = one_more_lem spots p g room (rest_same spots) (short_verdict g p room) refl

  -- ---- the first block, whatever the settings before it

  module _ (room : ℕ) (before : State) (p : Spot) (spots : List Spot) where
    abbrev m₀ : Modes
    m₀ = before.modes

    abbrev first_verdict : Verdict
    first_verdict = exec_words machine calls room before 0 (these (in_full n p))

    abbrev first_said : Said
    first_said = said_by machine m₀ (in_full n p)

    abbrev both : (List (List Word)) → Verdict → Came
    both blocks v = came_by v room (λ left next. came_to machine calls left next blocks)

    -- an accepted one leaves a plate's settings
    first_leaves : {zv rv : Len} (ez : z m₀ ≡ Some zv) (er : r m₀ ≡ Some rv) → (g : Ground) × (settled machine before first_said ≡ state_of m₀ ez er g)
    unfolding settled working or_else kept_by kept_under kept_with stands_with under_with under_by
    first_leaves ez er =
        let k = kept_before cycle m₀.motion before.at.z before.kept in (
          record {
            at = end_of before.at (made_by machine before first_said);
            feed = before.feed;
            speed = before.speed;
            turning = (working before first_said).turning && not (is_m 5 Other);
            initial = k.initial;
            dwell = k.dwell;
            dwells = k.stands.dwell;
          },
          rw (said_full m₀ p, ez, er),
        )

    good_first : {next : State} {control : Control} {made : List Record} → first_verdict ≡ accepted next control made → (is_bad (z m₀) ≡ false) × (is_bad (r m₀) ≡ false) × (next ≡ settled machine before first_said)
    unfolding exec_words first_bad_value
    good_first e =
        let h = by_acceptance machine calls room before (in_full n p) first_said e in
        let values : first_bad_value machine.speeds (drilling m₀) code (in_full n p) ≡ None = rw (said_full m₀ p) at h.0 in
        let test : Word → Bool = λ w. is_bad (word_value machine.speeds (drilling m₀) code w) in
        let zw = word (byte "Z") n.z in
        let rs = word (byte "R") n.r in
        let after-g = (none_first test (word (byte "G") n.g) (word (byte "X") p.x ∷ word (byte "Y") p.y ∷ zw ∷ rs ∷ []) values).1 in
        let after-x = (none_first test (word (byte "X") p.x) (word (byte "Y") p.y ∷ zw ∷ rs ∷ []) after-g).1 in
        let after-y = (none_first test (word (byte "Y") p.y) (zw ∷ rs ∷ []) after-x).1 in
        let z-fine = none_first test zw (rs ∷ []) after-y in
        (z-fine.0, (none_first test rs [] z-fine.1).0, h.1)

    pub holes_after_the_first :
        came_to machine calls room before (in_full n p ∷ map placed spots) ≡ came_to machine calls room before (in_full n p ∷ map (in_full n) spots)
    unfolding came_to came_by
    holes_after_the_first = go first_verdict refl
      where
        go : (v : Verdict) → first_verdict ≡ v → both (map placed spots) first_verdict ≡ both (map (in_full n) spots) first_verdict
        go (refused blame) e = rw e
        go (accepted next control made) e =
            let good = good_first e in
            let zs = fit_of (z m₀) good.0 in
            let rs = fit_of (r m₀) good.1 in
            let left = first_leaves zs.1 rs.1 in
            rw (e, good.2, left.1, rest_same m₀ zs.1 rs.1 spots left.0 (room - room_of made))
