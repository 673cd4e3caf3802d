-- Document 01, "Numbers to try": the sample of seven blocks with its list, and small runs of which the answer is known,
-- under setup T. Document 02, #101: arcs by their radius, with their lists; #102: holes after the first.
use Rattle.std.specs.Prelude.{◌∷◌, ◌++◌}
use Rattle.terms.specs.Common.{ℕ, String, true, false, List, [], ℤ, pos, negsuc}
use Rattle.terms.specs.Terms.{bytes}
use Rattle.lengths.specs.{Units.len, declared.Point.Point}
use Rattle.refusals.specs.Answers.{NumberedAnswer, done, not_finished, refused_with, report_of}
use Rattle.codes.specs.declared.Motion.TheVariants.{G01}
use Rattle.codes.specs.declared.{Plane.Plane, Plane.TheVariants.G17, Plane.TheVariants.G18, Unit.TheVariants.Millimetre, Distance.TheVariants.Absolute, Distance.TheVariants.Incremental, Return.TheVariants.ToInitial}
use Rattle.setup.specs.Examples.{setup_t}
use Rattle.records.specs.declared.{Arc.Arc, Record.Record}
use Rattle.records.specs.declared.Record.TheVariants.{RP, LN, AR, AL, DW, SP, SO, EN}
use Rattle.settings.specs.{declared.Kept.Kept, declared.State.State, Settings.none_kept}
use Rattle.runs.specs.{Run.answer_of, Run.records_of, declared.Budget.Budget, declared.Budget.TheVariants.Whole, declared.Budget.TheVariants.First}

-- setup T's "list room 4,096 bytes"
abbrev pub room_t : ℕ
room_t = 4_096

abbrev pub sample : List ℕ
sample = bytes "%\nO1\nG90 G00 X5.0 Y5.0\nM03 S6000\nG81 Z-2.0 R1.0\nG80 M05\nM30\n"

abbrev at : ℤ → ℤ → ℤ → Point
at x y z = record { x = len x; y = len y; z = len z }

-- the sample's points are all at X 1500000 Y 1500000
abbrev hole : ℤ → Point
hole z = at (pos 1_500_000) (pos 1_500_000) z

abbrev pub sample_records : List Record
sample_records =
    RP (hole (pos 0)) ∷ SP (len (pos 6_000)) ∷ RP (hole (pos 0)) ∷ RP (hole (negsuc 3_899_999))
    ∷ LN (hole (negsuc 4_199_999)) (len (pos 30_000_000)) ∷ RP (hole (pos 0)) ∷ SO ∷ EN ∷ []

-- a run that is refused at its second block: the first leaves X 100,000, G91, G01 and a feed, and the second, whose path leaves
-- the travel, sets G00
abbrev pub too_far : List ℕ
too_far = bytes "%\nG91 G01 X1.0 F70.0\nG00 X900.0\nM30\n"

abbrev pub too_far_settings : State
too_far_settings =
    record {
      at = at (pos 100_000) (pos 0) (pos 0);
      modes =
          record { motion = G01; plane = G17; unit = Millimetre; distance = Incremental; origin = 0; back = ToInitial };
      feed = len (pos 7_000_000);
      speed = len (pos 5_000);
      turning = false;
      kept = none_kept (len (pos 0));
    }

pub record Row : Type 0 where
  pub text : String
  pub budget : Budget
  pub answer : NumberedAnswer

abbrev row : String → Budget → NumberedAnswer → Row
row text budget answer = record { text = text; budget = budget; answer = answer }

abbrev refused : ℕ → ℕ → ℕ → ℕ → NumberedAnswer
refused number block byte count = refused_with number (record { block = block; byte = byte }) count

unfoldable pub answer_of_row : Row → NumberedAnswer
answer_of_row r = report_of (answer_of setup_t (bytes r.text) room_t r.budget)

abbrev pub rows : List Row
rows =
    -- "T, tool at workpiece X0 Y0: `G03 I-5.0` is accepted, its path touching X 0; `G03 I-5.001` is 9."
    row "%\nG00 X0 Y0\nG03 I-5.0\nM30\n" Whole (done 3)
    ∷ row "%\nG00 X0 Y0\nG03 I-5.001\nM30\n" Whole (refused 9 3 12 1)
    -- "`G03 X5.01 Y5.0 J5.0` is accepted, `X5.011` is 1."
    ∷ row "%\nG00 X0 Y0\nG03 X5.01 Y5.0 J5.0\nM30\n" Whole (done 3)
    ∷ row "%\nG00 X0 Y0\nG03 X5.011 Y5.0 J5.0\nM30\n" Whole (refused 1 3 12 1)
    -- two subprograms that are one number, though nothing calls them
    ∷ row "%\nM30\nO1\nM99\nO0001\nM99\n" (First 0) (refused 8 5 13 0)
    -- a call counts one block, its opening none, and comes back to the block after it
    ∷ row "%\nM98P2\nM30\nO2\nM00\nM99\n" (First 2) (not_finished 1)
    ∷ row "%\nM98P2\nM30\nO2\nM00\nM99\n" (First 3) (not_finished 1)
    ∷ row "%\nM98P2\nM30\nO2\nM00\nM99\n" (First 4) (done 2)
    ∷ row "%\nO1\nM98 P1\nM30\n" Whole (refused 5 3 5 0)
    -- four levels, and no fifth
    ∷ row "%\nM98P1\nM30\nO1\nM98P2\nM99\nO2\nM98P3\nM99\nO3\nM98P4\nM99\nO4\nM00\nM99\n" Whole (done 2)
    ∷ row "%\nM98P1\nM30\nO1\nM98P2\nM99\nO2\nM98P3\nM99\nO3\nM98P4\nM99\nO4\nM98P1\nM99\n" Whole (refused 6 14 54 0)
    -- a missing end counts as a block
    ∷ row "%\nM00\n" (First 1) (not_finished 1)
    ∷ row "%\nM00\n" (First 2) (refused 14 3 6 1)
    ∷ row "" Whole (refused 11 1 0 0)
    -- document 02, #101: R beside a centre letter of the plane is 2, at the R wherever it stands; a letter that is not of the plane
    -- is 2 at itself
    ∷ row "%\nG02 X1.0 R5.0 I5.0\nM30\n" Whole (refused 2 2 11 0)
    ∷ row "%\nG02 X1.0 I5.0 R5.0\nM30\n" Whole (refused 2 2 16 0)
    ∷ row "%\nG02 X1.0 R5.0 K5.0\nM30\n" Whole (refused 2 2 16 0)
    -- the end is the start, without an end word and with one
    ∷ row "%\nG02 R5.0\nM30\n" Whole (refused 1 2 2 0)
    ∷ row "%\nG91 G03 X0 Y0 R5.0\nM30\n" Whole (refused 1 2 2 0)
    -- a radius under 3,000 is 1 by geometry, one past 1,000,000,000 by its value
    ∷ row "%\nG02 X.02 R0\nM30\n" Whole (refused 1 2 2 0)
    ∷ row "%\nG02 X.02 R10000.001\nM30\n" Whole (refused 1 2 11 0)
    -- a chord longer than twice the radius, to an end outside the travel: 1 goes before 9
    ∷ row "%\nG55 G02 X900.0 R5.0\nM30\n" Whole (refused 1 2 2 0) ∷ []

-- ---- document 02, #101: arcs by their radius. G55's origin is the machine's.

-- a run, and the list that it leaves
pub record Listed : Type 0 where
  pub run : Row
  pub records : List Record

abbrev listed : String → List Record → NumberedAnswer → Listed
listed text records answer = record { run = row text Whole answer; records = records }

unfoldable pub records_of_row : Row → List Record
records_of_row r = records_of setup_t (bytes r.text) room_t r.budget

-- by setup T's feed
abbrev arc : Plane → Point → ℤ → ℤ → Arc
arc plane end first second =
    record { plane = plane; end = end; first = len first; second = len second; feed = len (pos 30_000_000) }

-- an arc of 6 mm of chord along X, by the height of its centre
abbrev six_millimetres : String → (Arc → Record) → ℕ → Listed
six_millimetres text make height =
    listed text
    (RP (at (pos 1_000_000) (pos 1_000_000) (pos 0))
    ∷ make (arc G17 (at (pos 1_600_000) (pos 1_000_000) (pos 0)) (pos 1_300_000) (pos height)) ∷ EN ∷ [])
    (done 3)

abbrev pub radius_arcs : List Listed
radius_arcs =
    -- a chord of twice the radius: R and −R have one centre, the middle. R holds in its own block, so the next arc lacks a centre.
    listed "%\nG55 G00 X10.0 Y10.0\nG03 X20.0 R5.0\nX10.0\nM30\n"
    (RP (at (pos 1_000_000) (pos 1_000_000) (pos 0))
    ∷ AL (arc G17 (at (pos 2_000_000) (pos 1_000_000) (pos 0)) (pos 1_500_000) (pos 1_000_000)) ∷ [])
    (refused 3 4 37 2)
    ∷ listed "%\nG55 G00 X10.0 Y10.0\nG03 X20.0 R-5.0\nM30\n"
    (RP (at (pos 1_000_000) (pos 1_000_000) (pos 0))
    ∷ AL (arc G17 (at (pos 2_000_000) (pos 1_000_000) (pos 0)) (pos 1_500_000) (pos 1_000_000)) ∷ EN ∷ [])
    (done 3)
    -- the four arcs to one end: to the right the centre lies lower, to the left higher
    ∷ six_millimetres "%\nG55 G00 X10.0 Y10.0\nG02 X16.0 R5.0\nM30\n" AR 600_000
    ∷ six_millimetres "%\nG55 G00 X10.0 Y10.0\nG02 X16.0 R-5.0\nM30\n" AR 1_400_000
    ∷ six_millimetres "%\nG55 G00 X10.0 Y10.0\nG03 X16.0 R5.0\nM30\n" AL 1_400_000
    ∷ six_millimetres "%\nG55 G00 X10.0 Y10.0\nG03 X16.0 R-5.0\nM30\n" AL 600_000
    -- G03 in G18, of which Z is the first axis: the centre lies to the left
    ∷ listed "%\nG55 G00 X10.0 Z-20.0\nG18 G03 X15.0 Z-15.0 R5.0\nM30\n"
    (RP (at (pos 1_000_000) (pos 0) (negsuc 1_999_999))
    ∷ AL (arc G18 (at (pos 1_500_000) (pos 0) (negsuc 1_499_999)) (negsuc 1_999_999) (pos 1_500_000)) ∷ EN ∷ [])
    (done 3)
    ∷ []

-- ---- document 02, #102: holes after the first. In G55 a coordinate is the machine's, and all stands at Y 0.

-- X in units, and below Y 0 a depth in units
abbrev up : ℕ → Record
up x = RP (at (pos x) (pos 0) (pos 0))

abbrev down : ℕ → ℕ → Record
down x less = RP (at (pos x) (pos 0) (negsuc less))

abbrev cut : ℕ → ℕ → Record
cut x less = LN (at (pos x) (pos 0) (negsuc less)) (len (pos 30_000_000))

-- with the spindle on before, and the end after
abbrev spun : List Record → List Record
spun rs = SP (len (pos 5_000)) ∷ rs ++ EN ∷ []

abbrev pub later_holes : List Listed
later_holes =
    -- Z is kept of a block with K0, and P of one that makes no pass
    listed "%\nM03\nG55 G82 Z-2.0 K0\nP7\nX1.0\nM30\n"
    (spun (up 100_000 ∷ up 100_000 ∷ cut 100_000 199_999 ∷ DW (len (pos 7)) ∷ up 100_000 ∷ [])) (done 7)
    -- the P of G04 is not the cycle's, and M05, G18 and M03 end nothing
    ∷ listed "%\nM03\nG55 G82 Z-2.0 P5 K0\nG04 P9\nM05\nG18\nG17 M03 X1.0\nM30\n"
    (spun
    (DW (len (pos 9)) ∷ SO ∷ SP (len (pos 5_000)) ∷ up 100_000 ∷ up 100_000 ∷ cut 100_000 199_999 ∷ DW (len (pos 5)) ∷ up 100_000 ∷ []))
    (done 10)
    -- G00 ends what is kept
    ∷ listed "%\nM03\nG55 G81 Z-2.0 K0\nG00\nG81 X1.0\nM30\n" (spun (up 100_000 ∷ [])) (done 3)
    -- another cycle code ends the words, but not the initial level, to which G98 returns
    ∷ listed "%\nM03\nG55 G99 G81 Z-2.0 R-1.0\nG98 G82 Z-2.0\nM30\n"
    (spun (up 0 ∷ down 0 99_999 ∷ cut 0 199_999 ∷ down 0 99_999 ∷ down 0 99_999 ∷ up 0 ∷ cut 0 199_999 ∷ up 0 ∷ [])) (done 10)
    ∷ listed "%\nM03\nG55 G82 Z-2.0 P5 K0\nG81 K0\nG82 Z-2.0\nM30\n" (spun (up 0 ∷ up 0 ∷ cut 0 199_999 ∷ up 0 ∷ [])) (done 6)
    -- a kept Z keeps its unit
    ∷ listed "%\nM03\nG55 G20 G81 Z-.1 K0\nG21 X1.0\nM30\n"
    (spun (up 100_000 ∷ up 100_000 ∷ cut 100_000 253_999 ∷ up 100_000 ∷ [])) (done 6)
    -- and its G90 or G91: the Z of G91 counts from the R of the block that drills
    ∷ listed "%\nM03\nG55 G81 Z-2.0 R-1.0 K0\nG91 X1.0\nM30\n"
    (spun (up 100_000 ∷ down 100_000 99_999 ∷ cut 100_000 199_999 ∷ up 100_000 ∷ [])) (done 6)
    ∷ listed "%\nM03\nG55 G91 G81 Z-2.0 R-1.0 K0\nG90 R-2.0\nM30\n"
    (spun (up 0 ∷ down 0 199_999 ∷ cut 0 399_999 ∷ up 0 ∷ [])) (done 6)
    -- the first rapid of the second hole is at the Z where the tool stands, here R
    ∷ listed "%\nM03\nG55 G99 G81 Z-2.0 R-1.0\nX1.0\nM30\n"
    (spun (up 0 ∷ down 0 99_999 ∷ cut 0 199_999 ∷ down 0 99_999 ∷ down 100_000 99_999 ∷ down 100_000 99_999 ∷ cut 100_000 199_999 ∷ down 100_000 99_999 ∷ []))
    (done 10)
    ∷ []

-- a plate of four holes, Z and R written once, and the same with all of it in each block
abbrev pub plate : List ℕ
plate = bytes "%\nM03\nG55 G81 X1.0 Y1.0 Z-2.0 R-1.0\nX2.0 Y1.0\nX2.0 Y2.0\nX1.0 Y2.0\nG80 M05\nM30\n"

abbrev pub plate_in_full : List ℕ
plate_in_full =
    bytes
    "%\nM03\nG55 G81 X1.0 Y1.0 Z-2.0 R-1.0\nG81 X2.0 Y1.0 Z-2.0 R-1.0\nG81 X2.0 Y2.0 Z-2.0 R-1.0\nG81 X1.0 Y2.0 Z-2.0 R-1.0\nG80 M05\nM30\n"

-- a hole outside the travel, with another Z: the block before it keeps the Z that it has
abbrev pub outside_hole : List ℕ
outside_hole = bytes "%\nM03\nG55 G81 Z-2.0 K0\nX900.0 Z-3.0\nM30\n"

abbrev pub outside_kept : Kept
outside_kept =
    record {
      initial = len (pos 0);
      z = len (negsuc 199_999);
      r = len (pos 0);
      dwell = len (pos 0);
      stands = record { z = true; r = false; dwell = false };
      under = record { z = Absolute; r = Absolute };
    }
