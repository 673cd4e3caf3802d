-- "No recorded path leaves the travel, as document 01 measures it": every motion record of every run, finished or not.
use Rattle.terms.proofs.Common.{ℕ, ◌≡◌, refl, sym, ◌∙◌, ap, ap₂, Bool, true, ◌&&◌, false, and_assoc, List, map, [], ◌∷◌, ◌++◌, arith, ℤ, ◌+ℤ◌, ◌-ℤ◌, le_z}
use Rattle.lengths.specs.{declared.Point.Point, declared.Travel.Travel, Points.moved, Points.moved_back, Points.inside}
use Rattle.lengths.proofs.{Laws.view, Laws.sum_bal, Laws.le_shift, Ring.shift, Ring.same, Ring.var, Ring.◌⊞◌, Ring.◌⊟◌}
use Rattle.setup.specs.{declared.Setup.Setup, Frame.point_of, Frame.offset, Frame.start_of, Frame.travel_of, Frame.bed_of}
use Rattle.records.specs.{declared.Record.Record, Path.path_of, Path.end_of, Path.path_stays_in, Path.record_moved, Path.path_end, Path.arc_moved, declared.Arc.Arc}
use Rattle.records.specs.declared.Record.TheVariants.{RP, LN, AR, AL, DW, SP, SO, PA, EN}
use Rattle.settings.specs.{Settings.first_state, Settings.kept_moved, Settings.state_moved, declared.Kept.Kept, declared.State.State}
use Rattle.arcs.specs.Turning.{direction}
use Rattle.arcs.specs.Arcs.{path_stays, distance², radius², not_above, not_below, coordinate_inside, extreme_inside, extremes_inside, left_way, right_way, arc_stays}
use Rattle.blocks.specs.Machine.{machine_of}
use Rattle.runs.specs.{declared.Budget.Budget, Run.first_of, Run.outcome, Run.records_of, Run.standing_of}
use Rattle.runs.proofs.Starting.{start_is}
use Rattle.centres.proofs.Displaced.{flat_moved_lem}
use Rattle.claims.specs.{Blockwise.records_by, Blockwise.outcome_sofar, Blockwise.job_for, Blockwise.begun, Blockwise.first_blocks, Travel.machine_travel, Travel.in_travel}
use Rattle.claims.proofs.{Verdicts.accepts, Verdicts.accepted_path, Turns.run_holds, Runs.gives, Runs.suited, Runs.begun_with}

-- ---- displacing a path and the travel alike changes no comparison

le_same : (a b d : ℤ) → le_z (a +ℤ d) (b +ℤ d) ≡ le_z a b
le_same a b d = go (le_z a b) refl
  where
    go : (t : Bool) → le_z a b ≡ t → le_z (a +ℤ d) (b +ℤ d) ≡ t
    go true e = le_shift a b d e
    go false e = omega (arith, view, sum_bal a d, sum_bal b d)

abbrev pub travel_moved : Point → Travel → Travel
travel_moved by t = record { low = moved by t.low; high = moved by t.high }

inside_same : (by : Point) (t : Travel) (p : Point) → inside (travel_moved by t) (moved by p) ≡ inside t p
unfolding inside moved
inside_same by t p = simp le_same

plus_minus : (a d : ℤ) → (a -ℤ d) +ℤ d ≡ a
plus_minus a d = same (var a ⊟ var d ⊞ var d) (var a) (omega arith)

plus_plus : (a b c : ℤ) → (a +ℤ b) +ℤ c ≡ a +ℤ (b +ℤ c)
plus_plus a b c = same (var a ⊞ var b ⊞ var c) (var a ⊞ (var b ⊞ var c)) (omega arith)

pub there_and_back : (by p : Point) → moved by (moved_back by p) ≡ p
unfolding moved moved_back
there_and_back by p = simp plus_minus

moved_twice : (a b p : Point) → moved b (moved a p) ≡ moved (moved b a) p
unfolding moved
moved_twice a b p = simp plus_plus

-- every comparison is of differences, or of two numbers that are displaced alike
record_same :
    (by : Point) (t : Travel) (from : Point) (r : Record)
    → (path_stays (travel_moved by t) (moved by from) (path_of (record_moved by r)) ≡ path_stays t from (path_of r))
    × (path_end (moved by from) (path_of (record_moved by r)) ≡ moved by (path_end from (path_of r)))
unfolding
    path_of path_end record_moved path_stays arc_stays left_way right_way arc_moved radius² distance² direction extremes_inside extreme_inside
    coordinate_inside not_above not_below
record_same by t from (RP p) = (inside_same by t p, refl)
record_same by t from (LN p feed) = (inside_same by t p, refl)
record_same by t from (AR a) = (simp (inside_same, flat_moved_lem, le_same, shift), refl)
record_same by t from (AL a) = (simp (inside_same, flat_moved_lem, le_same, shift), refl)
record_same by t from (DW ms) = (refl, refl)
record_same by t from (SP speed) = (refl, refl)
record_same by t from SO = (refl, refl)
record_same by t from PA = (refl, refl)
record_same by t from EN = (refl, refl)

-- every path of a list, and where it ends
pub paths_same :
    (by : Point) (t : Travel) (from : Point) (rs : List Record)
    → (path_stays_in (λ p r. path_stays (travel_moved by t) p (path_of r)) (moved by from) (map (record_moved by) rs)
    ≡ path_stays_in (λ p r. path_stays t p (path_of r)) from rs)
    × (end_of (moved by from) (map (record_moved by) rs) ≡ moved by (end_of from rs))
unfolding path_stays_in end_of
paths_same by t from [] = (refl, refl)
paths_same by t from (r ∷ rs) =
    let h = record_same by t from r in
    let k = paths_same by t (path_end from (path_of r)) rs in
    (rw (h.0, h.1, k.0), ap (λ (p : Point). end_of p (map (record_moved by) rs)) h.1 ∙ k.1)

-- settings and records displaced twice
kept_twice : (a b : Point) (k : Kept) → kept_moved b.z (kept_moved a.z k) ≡ kept_moved (moved b a).z k
unfolding kept_moved moved
kept_twice a b k = simp plus_plus

pub state_twice : (a b : Point) (s : State) → state_moved b (state_moved a s) ≡ state_moved (moved b a) s
unfolding state_moved
state_twice a b s = rw (moved_twice a b s.at, kept_twice a b s.kept)

arc_twice : (a b : Point) (arc : Arc) → arc_moved b (arc_moved a arc) ≡ arc_moved (moved b a) arc
unfolding arc_moved
arc_twice a b arc = simp (moved_twice, flat_moved_lem, plus_plus)

record_twice : (a b : Point) (r : Record) → record_moved b (record_moved a r) ≡ record_moved (moved b a) r
unfolding record_moved
record_twice a b (RP p) = ap RP (moved_twice a b p)
record_twice a b (LN p feed) = ap (λ (q : Point). LN q feed) (moved_twice a b p)
record_twice a b (AR arc) = ap AR (arc_twice a b arc)
record_twice a b (AL arc) = ap AL (arc_twice a b arc)
record_twice a b (DW ms) = refl
record_twice a b (SP speed) = refl
record_twice a b SO = refl
record_twice a b PA = refl
record_twice a b EN = refl

pub records_twice :
    (a b : Point) (rs : List Record) → map (record_moved b) (map (record_moved a) rs) ≡ map (record_moved (moved b a)) rs
records_twice a b [] = refl
records_twice a b (r ∷ rs) = ap₂ ◌∷◌ (record_twice a b r) (records_twice a b rs)

-- ---- paths of records in a row

pub end_both : (from : Point) (a b : List Record) → end_of from (a ++ b) ≡ end_of (end_of from a) b
unfolding end_of
end_both from [] b = refl
end_both from (r ∷ a) b = end_both (path_end from (path_of r)) a b

pub stays_both :
    (stays : Point → Record → Bool) (from : Point) (a b : List Record)
    → path_stays_in stays from (a ++ b) ≡ (path_stays_in stays from a && path_stays_in stays (end_of from a) b)
unfolding path_stays_in end_of
stays_both stays from [] b = refl
stays_both stays from (r ∷ a) b =
    ap (stays from r &&◌) (stays_both stays (path_end from (path_of r)) a b)
    ∙ sym
    (and_assoc (stays from r) (path_stays_in stays (path_end from (path_of r)) a)
    (path_stays_in stays (end_of (path_end from (path_of r)) a) b))

-- ---- every run

-- the records so far stay in the travel, and the tool stands where they end
pub record Stayed (stays : Point → Record → Bool) (start : Point) (rs : List Record) (at : Point) : Type 0 where
  pub path : path_stays_in stays start rs ≡ true
  pub ends : at ≡ end_of start rs

module _ (s : Setup) (bytes : List ℕ) (room : ℕ) where
  abbrev StayedIn : List Record → Point → Type 0
  StayedIn = Stayed (machine_of (bed_of s)).stays (start_of s)

  -- in the frame of the common offset
  pub run_stayed : (n : ℕ) → StayedIn (records_by (first_blocks s bytes room n).executed) (first_blocks s bytes room n).stand.state.at
  unfolding first_blocks job_for records_by path_stays_in end_of first_of first_state
  run_stayed n =
      run_holds (λ rs q left. StayedIn rs q.at) (job_for s bytes)
      (λ rs st b q control made e h.
      let p = accepted_path (accepts (job_for s bytes) st b e) in
      record {
        path =
            stays_both (machine_of (bed_of s)).stays (start_of s) rs made
            ∙ ap₂ ◌&&◌ h.path (ap (λ (p : Point). path_stays_in (machine_of (bed_of s)).stays p made) (sym h.ends) ∙ p.0);
        ends = p.1 ∙ ap (λ (p : Point). end_of p made) h.ends ∙ sym (end_both (start_of s) rs made);
      })
      n (begun s bytes room) (begun_with s bytes room (λ ds q. StayedIn (records_by ds) q.at) (record { path = refl; ends = refl }))

  outcome_stayed : (budget : Budget) → StayedIn (outcome s bytes room budget).made (outcome s bytes room budget).last.at
  unfolding outcome_sofar
  outcome_stayed budget =
      let n = suited s bytes room budget in
      rw (gives s bytes room n.0 budget n.1) (run_stayed n.0)

-- ---- in machine units

pub same_travel : (s : Setup) → travel_moved (offset s) (travel_of s) ≡ machine_travel s
unfolding travel_of
same_travel s =
    ap₂ (λ (low high : Point). record { low = low; high = high }) (there_and_back (offset s) (point_of s.low))
    (there_and_back (offset s) (point_of s.high))

-- a path in the frame stays where the path in machine units does
pub same_stays :
    (s : Setup) (from : Point) (rs : List Record)
    → path_stays_in (in_travel s) (moved (offset s) from) (map (record_moved (offset s)) rs)
    ≡ path_stays_in (machine_of (bed_of s)).stays from rs
unfolding in_travel machine_of bed_of
same_stays s from rs =
    ap
    (λ (t : Travel). path_stays_in (λ p r. path_stays t p (path_of r)) (moved (offset s) from) (map (record_moved (offset s)) rs))
    (sym (same_travel s))
    ∙ (paths_same (offset s) (travel_of s) from rs).0

-- "No recorded path leaves the travel": the records in machine units and the setup's own travel, the path beginning where
-- the record before ended, the first at the setup's start
pub stays_in_travel :
    (s : Setup) (bytes : List ℕ) (room : ℕ) (budget : Budget)
    → path_stays_in (in_travel s) (point_of s.start) (records_of s bytes room budget) ≡ true
unfolding records_of
stays_in_travel s bytes room budget =
    ap (λ (p : Point). path_stays_in (in_travel s) p (map (record_moved (offset s)) (outcome s bytes room budget).made))
    (start_is s)
    ∙ same_stays s (start_of s) (outcome s bytes room budget).made
    ∙ (outcome_stayed s bytes room budget).path

-- the point that a run answers is where the path of its records ends
pub stands_at_its_records :
    (s : Setup) (bytes : List ℕ) (room : ℕ) (budget : Budget)
    → (standing_of s bytes room budget).state.at ≡ end_of (point_of s.start) (records_of s bytes room budget)
unfolding standing_of state_moved records_of
stands_at_its_records s bytes room budget =
    ap (moved (offset s)) (outcome_stayed s bytes room budget).ends
    ∙ sym (paths_same (offset s) (travel_of s) (start_of s) (outcome s bytes room budget).made).1
    ∙ ap (λ (p : Point). end_of p (records_of s bytes room budget)) (sym (start_is s))
