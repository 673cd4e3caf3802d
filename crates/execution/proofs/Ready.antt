-- What the test of a planned block counts on, and what it comes to. Assumes nothing.
use Rattle.std.specs.Prelude.{Ok, Err}
use Rattle.terms.proofs.Common.{ℕ, zero, suc, ◌*◌, ◌^◌, ◌≤◌, ◌≡◌, refl, sym, ◌∙◌, ap, Bool, true, not, ◌&&◌, Option, None, Some, List, ◌++◌, append_assoc, arith, not-true, length, length-append}
use Rattle.refusals.specs.declared.Refusal.TheVariants.{BadParameter, LeavesTravel}
use Rattle.lengths.specs.{Units.fits_four, declared.Flat.Flat, declared.Point.Point, declared.Travel.Travel, Points.flat, Near.Near, Near.FlatNear}
use Rattle.lengths.proofs.Near.{flat_near}
use Rattle.words.specs.declared.Values.{Values}
use Rattle.records.specs.{declared.Arc.Arc, declared.Record.Record, Path.path_of, Path.end_of, Path.arc_moved, Path.record_moved, Displacing.LooseArc, Displacing.Loose}
use Rattle.records.proofs.Moved.{room_few}
use Rattle.records.specs.declared.Record.TheVariants.{RP, LN, AR, AL, DW, SP, SO, PA, EN}
use Rattle.setup.specs.{declared.Bed.Bed, Frame.origin_at}
use Rattle.settings.specs.{declared.State.State, Target.target}
use Rattle.arcs.specs.{Arcs.centre_fits, Bounds.Reach, Bounds.PathBounds}
use Rattle.work.specs.declared.{Pass.Pass, Pass.TheVariants.One, Pass.TheVariants.Drill, Extent.Extent}
use Rattle.work.proofs.Extents.{way_on, way_stops, way_ends, way_leaves, rows_few}
use Rattle.work.proofs.Briefs.{AllStill, brief_still, still_ends, still_stays, brief_few}
use Rattle.work.specs.Work.{rows_of, passes_of, leads, work_records, brief_records, pass_fits, grown, way_of}
use Rattle.work.specs.Needs.{Poised, Counted, ArcFrom, RecordFrom, PassFrom, PassLoose, PassReady, Once, Leading, Testable, Little}
use Rattle.blocks.specs.{declared.Said.Said, Machine.machine_of, Motions.centre_words, Motions.centre_for, Motions.arc_to, Reach.Steady, Exec.working, Exec.moves_in, Exec.made_by}
use Rattle.blocks.proofs.Nearness.{aims, kept_near, from_inside, target_sums, low_near, high_near, centre_close, bounds, both_fit, first_near, second_near}
use Rattle.execution.specs.{declared.Planned.Planned, Steps.planned_records, Steps.Plans, Steps.none_yet, Steps.checked_by}

-- ---- a pass whose record comes from the words of the block

module _ (bed : Bed) (s : State) (b : Said) (steady : Steady bed s b) where
  abbrev w : State
  w = working s b

  abbrev o : Point
  o = origin_at bed b.modes.origin

  abbrev v : Values
  v = b.values

  -- a point that is near another can be moved where that one is near
  reach_loose : (c p : Flat) → Reach 1_000_000_000 c p → FlatNear 1_100_000_000 p → FlatNear (2 ^ 61) c
  reach_loose c p h k = omega (arith, h.first, h.second, k.first, k.second)

  arc_loose : {sound : Bool} {a : Arc} → ArcFrom w o v sound a → LooseArc a
  unfolding arc_to
  arc_loose h =
      let left = h.left in
      let end = target w.modes.distance o w.at v in
      let near = reach_loose (centre_for left w v end) (flat w.modes.plane w.at) (centre_close bed s b steady left h.fits) (flat_near w.modes.plane w.at (aims bed s b steady).from) in
      rw h.is (record { end = (target_sums bed s b steady).1; first = near.first; second = near.second })

  loose_one : (sound : Bool) (r : Record) → RecordFrom w o v sound r → Loose (path_of r)
  unfolding path_of
  loose_one sound (RP p) e = rw e (target_sums bed s b steady).1
  loose_one sound (LN p feed) e = rw e (target_sums bed s b steady).1
  loose_one sound (AR a) e = arc_loose e
  loose_one sound (AL a) e = arc_loose e
  loose_one sound (DW ms) e = tt
  loose_one sound (SP speed) e = tt
  loose_one sound SO e = tt
  loose_one sound PA e = tt
  loose_one sound EN e = tt

  pub pass_loose : (sound : Bool) (passes : ℕ) (pass : Pass) → PassFrom w o v sound passes pass → PassLoose pass
  pass_loose sound passes (One r) e = loose_one sound r e.0
  pass_loose sound passes (Drill h) e = tt

  -- its centre is never too far
  arc_fits : {sound : Bool} {a : Arc} → ArcFrom w o v sound a → (m : Arc) → m ≡ arc_moved bed.offset a → (fits_four m.first.v && fits_four m.second.v) ≡ true
  arc_fits h m e =
      rw (e, h.is)
      (both_fit _ _ (omega (arith, first_near bed s b steady h.left h.fits)) (omega (arith, second_near bed s b steady h.left h.fits)))

  fits_one : (sound : Bool) (r : Record) → RecordFrom w o v sound r → centre_fits (path_of (record_moved bed.offset r)) ≡ true
  unfolding centre_fits path_of record_moved
  fits_one sound (RP p) e = refl
  fits_one sound (LN p feed) e = refl
  fits_one sound (AR a) e = arc_fits e (arc_moved bed.offset a) refl
  fits_one sound (AL a) e = arc_fits e (arc_moved bed.offset a) refl
  fits_one sound (DW ms) e = refl
  fits_one sound (SP speed) e = refl
  fits_one sound SO e = refl
  fits_one sound PA e = refl
  fits_one sound EN e = refl

  pub pass_fits_lem : (sound : Bool) (passes : ℕ) (pass : Pass) → PassFrom w o v sound passes pass → pass_fits bed.offset pass ≡ true
  unfolding pass_fits
  pass_fits_lem sound passes (One r) e = fits_one sound r e.0
  pass_fits_lem sound passes (Drill h) e = refl

  ready_one : (sound : Bool) (r : Record) → RecordFrom w o v sound r → sound ≡ true → PathBounds bed.travel w.at (path_of r)
  unfolding path_of
  ready_one sound (RP p) e h = tt
  ready_one sound (LN p feed) e h = tt
  ready_one sound (AR a) e h = record { bounds = rw e.is (bounds bed s b steady e.left e.fits); holds = sym e.holds ∙ h }
  ready_one sound (AL a) e h = record { bounds = rw e.is (bounds bed s b steady e.left e.fits); holds = sym e.holds ∙ h }
  ready_one sound (DW ms) e h = tt
  ready_one sound (SP speed) e h = tt
  ready_one sound SO e h = tt
  ready_one sound PA e h = tt
  ready_one sound EN e h = tt

  pub pass_ready : (sound : Bool) (passes : ℕ) (pass : Pass) → PassFrom w o v sound passes pass → sound ≡ true → PassReady bed.travel w.at pass
  pass_ready sound passes (One r) e h = ready_one sound r e.0 h
  pass_ready sound passes (Drill hole) e h = tt

  pub pass_once : (sound : Bool) (passes : ℕ) (pass : Pass) → PassFrom w o v sound passes pass → Once passes pass
  pass_once sound passes (One r) e = e.1
  pass_once sound passes (Drill h) e = tt

-- ---- what a test comes to

checked_out : {sound : Bool} {way : Option Extent} → sound ≡ true → way ≡ None → Err LeavesTravel ≡ checked_by sound way
unfolding checked_by
checked_out e f = rw (e, f)

checked_in : {sound : Bool} {way : Option Extent} {y : Extent} → sound ≡ true → way ≡ Some y → Ok y ≡ checked_by sound way
unfolding checked_by
checked_in e f = rw (e, f)

way_still : (t : Travel) (x : Extent) (rs : List Record) → AllStill rs → way_of t x rs ≡ Some (grown x rs)
unfolding way_of
way_still t x rs h = rw (still_stays t x.end rs h)

-- passes of six records at most
work_few : (k : ℕ) (pass : Pass) (next : Point → Point) (p : Point) → length (passes_of k pass next p) ≤ 6 * k
unfolding passes_of
work_few zero pass next p = omega arith
work_few (suc k) pass next p =
    let rows = rows_of pass p.z (next p) in
    let rest = passes_of k pass next (end_of p rows) in
    omega (arith, length-append rows rest, rows_few pass p.z (next p), work_few k pass next (end_of p rows))

-- ---- a planned block

module _ {bed : Bed} {s : State} {b : Said} {p : Planned} (h : Plans bed s b p) where
  abbrev from : Point
  from = p.works.at

  abbrev work : List Record
  work = work_records p.work p.aim from

  abbrev before : List Record
  before = brief_records p.first

  abbrev after : List Record
  after = brief_records p.last

  pub at_is : from ≡ s.at
  unfolding working
  at_is = rw h.works

  pub made_is : made_by (machine_of bed) s b ≡ planned_records p
  unfolding made_by moves_in machine_of planned_records
  made_is = rw (h.first, h.last, h.aim, h.works, h.work.records)

  pub sound_is : (moves_in (machine_of bed) s b).sound ≡ p.work.sound
  unfolding moves_in machine_of
  sound_is = h.work.sound

  pub leading : Leading bed.travel p.aim from
  leading =
      let a = aims bed s b h.steady in
      rw (h.aim, h.works)
      (record {
        low = low_near bed h.steady.fair;
        high = high_near bed h.steady.fair;
        inside = from_inside bed s b h.steady;
        origin = a.origin;
        x = a.x;
        y = a.y;
        z = a.z;
      })

  pub once : Once p.work.passes p.work.pass
  once = pass_once bed s b h.steady p.work.sound p.work.passes p.work.pass h.work.from

  pub block_loose : (Near (2 ^ 61) bed.offset) × PassLoose p.work.pass
  block_loose = ((target_sums bed s b h.steady).0, pass_loose bed s b h.steady p.work.sound p.work.passes p.work.pass h.work.from)

  pub block_fits : pass_fits bed.offset p.work.pass ≡ true
  block_fits = pass_fits_lem bed s b h.steady p.work.sound p.work.passes p.work.pass h.work.from

  -- after the record of the spindle
  module _ {e : Extent} (is : e ≡ grown (none_yet from) before) where
    here : e.end ≡ from
    unfolding grown
    here = rw is (still_ends from before (brief_still p.first))

    pub testable : p.work.sound ≡ true → Testable bed.travel p.work p.aim e
    unfolding grown
    testable sound =
        record {
          leading = rw here leading;
          few = h.work.few;
          once = once;
          ready = rw (here, h.works) (pass_ready bed s b h.steady p.work.sound p.work.passes p.work.pass h.work.from sound);
          room = rw is (omega (arith, room_few before, brief_few p.first));
          count = rw is (omega (arith, brief_few p.first));
        }

    on_way : way_of bed.travel (none_yet from) (planned_records p) ≡ way_of bed.travel e (work ++ after)
    unfolding planned_records
    on_way =
        ap (way_of bed.travel (none_yet from)) (append_assoc before work after)
        ∙ way_on bed.travel (none_yet from) before (work ++ after) (still_stays bed.travel from before (brief_still p.first))
        ∙ ap (λ (x : Extent). way_of bed.travel x (work ++ after)) (sym is)

    pub block_leaves :
        p.work.sound ≡ true → None ≡ way_of bed.travel e (work_records p.work p.aim e.end)
        → Err LeavesTravel ≡ checked_by p.work.sound (way_of bed.travel (none_yet from) (planned_records p))
    block_leaves sound f =
        let out = way_leaves bed.travel e work (f ∙ ap (λ (x : Point). way_of bed.travel e (work_records p.work p.aim x)) here) in
        checked_out sound (on_way ∙ way_stops bed.travel e work after out)

    pub block_comes :
        p.work.sound ≡ true → {x y : Extent} → Some x ≡ way_of bed.travel e (work_records p.work p.aim e.end) → y ≡ grown x after
        → Ok y ≡ checked_by p.work.sound (way_of bed.travel (none_yet from) (planned_records p))
    block_comes sound {x} f g =
        let c = way_ends bed.travel e work (f ∙ ap (λ (x : Point). way_of bed.travel e (work_records p.work p.aim x)) here) in
        checked_in sound
        (on_way ∙ way_on bed.travel e work after c.stays ∙ ap (λ (y : Extent). way_of bed.travel y after) (sym c.is)
        ∙ way_still bed.travel x after (brief_still p.last) ∙ ap Some (sym g))

    -- and what comes after the work fits too
    pub work_little :
        p.work.sound ≡ true → {x : Extent} → Some x ≡ way_of bed.travel e (work_records p.work p.aim e.end) → Little x
    unfolding grown work_records
    work_little sound f =
        let test = testable sound in
        let c = way_ends bed.travel e (work_records p.work p.aim e.end) f in
        let few = work_few p.work.passes p.work.pass (leads p.aim) e.end in
        rw c.is
        (record {
          room = omega (arith, test.room, test.few, few, room_few (passes_of p.work.passes p.work.pass (leads p.aim) e.end));
          count = omega (arith, test.count, test.few, few);
        })

  pub block_unsound : not p.work.sound ≡ true → (way : Option Extent) → Err BadParameter ≡ checked_by p.work.sound way
  unfolding checked_by
  block_unsound e way = rw (not-true p.work.sound e)

-- ---- before anything is planned

module _ (bed : Bed) (s : State) (b : Said) (steady : Steady bed s b) where
  pub poised : {x : State} {origin : Point} → x ≡ working s b → origin ≡ origin_at bed b.modes.origin → (Poised x origin b.values) × Counted b.code b.values
  unfolding centre_words
  poised e f =
      let z = steady.said.sizes in
      rw (e, f)
      (record { aims = aims bed s b steady; words = record { x = z.i; y = z.j; z = z.k }; radius = z.r; kept = kept_near bed s b steady }, record { k = z.count })
