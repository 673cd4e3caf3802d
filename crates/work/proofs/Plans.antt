-- What the code plans stands for the motion that the rules give. Assumes nothing.
use Rattle.std.specs.Prelude.{if◌then◌else◌, is_some}
use Rattle.terms.proofs.Common.{ℕ, zero, suc, ◌≡◌, refl, sym, ◌∙◌, ap, ap₂, Bool, true, false, false≢true, not, ◌||◌, [], ◌∷◌, ◌++◌, arith, not-true, not-false}
use denote.Enum.Declared.{tag_of}
use types.Run.{OneOf, miss}
use Rattle.codes.{specs.declared.Motion.Motion, specs.declared.Cycle.Cycle, specs.declared.Distance.Distance, specs.contracts.Motion.the_type as motion-type}
use Rattle.codes.specs.declared.Motion.TheVariants.{Off, G00, G01, G02, G03, Drilling}
use Rattle.letters.specs.Letters.{turns}
use Rattle.lengths.specs.{declared.Len.Len, declared.Point.Point, Points.at_height}
use Rattle.words.specs.declared.Values.{Values}
use Rattle.records.specs.{declared.Arc.Arc, declared.Record.Record, Path.end_of}
use Rattle.records.specs.declared.Record.TheVariants.{RP, LN, AR, AL}
use Rattle.settings.specs.{declared.State.State, Target.target}
use Rattle.arcs.specs.Arcs.{arc_holds}
use Rattle.cycles.{specs.declared.Hole.Hole, specs.Bounds.Counts, proofs.Passes.without_z, proofs.Passes.last_level, proofs.Passes.ends_at, proofs.Passes.same_place}
use Rattle.cycles.specs.Cycles.{hole_of, levels_hold, return_level, pass_to, passes_at, pass_count, passes}
use Rattle.blocks.specs.Motions.{Moves, no_moves, one, end_stands, centre_given, arc_stands, arc_to, radius_fits, arc_moves, cycle_done, cycle_moves, motion_of}
use Rattle.work.specs.{declared.Work.Work, declared.Pass.TheVariants.Drill, Needs.ArcFrom, Needs.RecordFrom, Needs.Makes}
use Rattle.work.specs.Work.{rows_of, passes_of, work_records, no_work, one_work, straight_record, arc_record, is_clockwise, lies_left}

-- ---- no record, and one

module _ {s : State} {origin : Point} {v : Values} {moves : Moves} {w : Work} (sound : Bool) where
  pub makes_none : w ≡ no_work sound → moves ≡ record { records = []; sound = sound } → Makes moves s origin v w
  unfolding work_records passes_of
  makes_none e f = rw (e, f) (record { records = refl; sound = refl; few = omega arith; from = (tt, omega arith) })

  pub makes_one :
      (r : Record) → w ≡ one_work r sound → moves ≡ record { records = r ∷ []; sound = sound } → RecordFrom s origin v sound r
      → Makes moves s origin v w
  unfolding work_records passes_of rows_of
  makes_one r e f from = rw (e, f) (record { records = refl; sound = refl; few = omega arith; from = (from, omega arith) })

-- ---- a straight move

module _ (s : State) (origin : Point) (v : Values) where
  abbrev end : Point
  end = target s.modes.distance origin s.at v

  abbrev straight : Bool → Moves
  straight cuts = if end_stands v then one (straight_record cuts end s.feed) else no_moves

  module _ {t : Bool} (is : t ≡ end_stands v) (cuts : Bool) where
    pub straight_rests : {w : Work} → not t ≡ true → w ≡ no_work true → Makes (straight cuts) s origin v w
    straight_rests e f =
        let off : end_stands v ≡ false = sym is ∙ not-true t e in
        makes_none true f (rw off)

    module _ (e : not t ≡ false) {q : Point} (to : q ≡ end) where
      on : end_stands v ≡ true
      on = sym is ∙ not-false t e

      pub straight_cuts : {w : Work} → cuts ≡ true → w ≡ one_work (LN q s.feed) true → Makes (straight cuts) s origin v w
      unfolding straight_record
      straight_cuts g f = makes_one true (LN q s.feed) f (rw (on, g, to)) to

      pub straight_moves : {w : Work} → cuts ≡ false → w ≡ one_work (RP q) true → Makes (straight cuts) s origin v w
      unfolding straight_record
      straight_moves g f = makes_one true (RP q) f (rw (on, g, to)) to

  -- ---- an arc

  abbrev arc : Bool → Bool → Moves
  arc clockwise left = if arc_stands v then arc_moves (arc_record clockwise) left s v end else no_moves

  module _ (clockwise left : Bool) {t u : Bool} (is : t ≡ end_stands v) (and : u ≡ centre_given v) where
    stands : {x : Bool} → (t || u) ≡ x → arc_stands v ≡ x
    stands e = let both : (t || u) ≡ arc_stands v = rw (is, and) in sym both ∙ e

    pub arc_rests : {w : Work} → not (t || u) ≡ true → w ≡ no_work true → Makes (arc clockwise left) s origin v w
    arc_rests e f = makes_none true f (rw (stands (not-true (t || u) e)))

    module _ (some : not (t || u) ≡ false) {q : Point} (to : q ≡ end) {f : Bool} (fit : f ≡ radius_fits s v q) where
      fits : {x : Bool} → f ≡ x → radius_fits s v end ≡ x
      fits e = let same : f ≡ radius_fits s v end = rw to at fit in sym same ∙ e

      goes : arc_stands v ≡ true
      goes = stands (not-false (t || u) some)

      pub arc_impossible : {w : Work} → not f ≡ true → w ≡ no_work false → Makes (arc clockwise left) s origin v w
      unfolding arc_moves
      arc_impossible e g = makes_none false g (rw (goes, fits (not-true f e)))

      module _ (e : not f ≡ false) {a : Arc} (by : a ≡ arc_to left s v q) {sound : Bool} (holds : sound ≡ arc_holds s.at a) where
        arc_is : a ≡ arc_to left s v end
        arc_is = rw to at by

        from : ArcFrom s origin v sound a
        from = record { left = left; fits = fits (not-false f e); is = arc_is; holds = holds }

        moves_are : (make : Arc → Record) → arc_record clockwise ≡ make → arc clockwise left ≡ record { records = make a ∷ []; sound = sound }
        unfolding arc_moves
        moves_are make g = rw (goes, fits (not-false f e), g, holds, arc_is)

        pub arc_clockwise : {w : Work} → clockwise ≡ true → w ≡ one_work (AR a) sound → Makes (arc clockwise left) s origin v w
        unfolding arc_record
        arc_clockwise g i = makes_one sound (AR a) i (moves_are AR (rw g)) from

        pub arc_counter : {w : Work} → clockwise ≡ false → w ≡ one_work (AL a) sound → Makes (arc clockwise left) s origin v w
        unfolding arc_record
        arc_counter g i = makes_one sound (AL a) i (moves_are AL (rw g)) from

  -- ---- by the code that is on

  module _ (named : Bool) where
    pub motion_turns : (m : Motion) → turns m ≡ true → {t u : Bool} → t ≡ is_clockwise m → u ≡ lies_left t v → motion_of m named s origin v ≡ arc t u
    unfolding motion_of turns is_clockwise lies_left arc_record
    motion_turns Off e f g = absurd (false≢true e)
    motion_turns G00 e f g = absurd (false≢true e)
    motion_turns G01 e f g = absurd (false≢true e)
    motion_turns G02 e f g = rw (g, f)
    motion_turns G03 e f g = rw (g, f)
    motion_turns (Drilling cycle) e f g = absurd (false≢true e)

    pub motion_rests : (m : Motion) → OneOf (0 ∷ 3 ∷ 4 ∷ []) (tag_of motion-type m) → turns m ≡ false → motion_of m named s origin v ≡ no_moves
    unfolding motion_of turns
    motion_rests Off h e = refl
    motion_rests G00 h e = absurd (miss (0 ∷ 3 ∷ 4 ∷ []) 1 tt h)
    motion_rests G01 h e = absurd (miss (0 ∷ 3 ∷ 4 ∷ []) 2 tt h)
    motion_rests G02 h e = absurd (false≢true (sym e))
    motion_rests G03 h e = absurd (false≢true (sym e))
    motion_rests (Drilling cycle) h e = absurd (miss (0 ∷ 3 ∷ 4 ∷ []) 5 tt h)

-- ---- the passes of a cycle

module _ (h : Hole) (d : Distance) (origin : Point) (v : Values) where
  abbrev next : Point → Point
  next p = target d origin p v

  -- the level that a pass comes at counts only where a Z stands
  rows_same : (level : Len) (l : Len) (q : Point) → (is_some h.z ≡ true → l ≡ level) → pass_to h l q ≡ pass_to h level q
  rows_same level l q same = by (is_some h.z) refl
    where
      by : (t : Bool) → is_some h.z ≡ t → pass_to h l q ≡ pass_to h level q
      by true e = ap (λ (x : Len). pass_to h x q) (same e)
      by false e = without_z h l q e ∙ sym (without_z h level q e)

  last_is : is_some h.z ≡ true → last_level h ≡ return_level h
  last_is e = rw e

  -- each pass comes at the height where the tool is: where it stood first, and then where the pass before ended
  drill_passes :
      (k : ℕ) (level : Len) (p : Point) → (is_some h.z ≡ true → p.z ≡ level) → passes_of k (Drill h) next p ≡ passes_at k h next level p
  unfolding passes_of passes_at rows_of at_height
  drill_passes zero level p same = refl
  drill_passes (suc k) level p same =
      let q = next p in
      let tool = end_of p (pass_to h p.z q) in
      let here : tool ≡ at_height q (last_level h) = ends_at h q p.z p in
      ap₂ ◌++◌ (rows_same level p.z q same)
      (ap (passes_of k (Drill h) next) here
      ∙ drill_passes k (return_level h) (at_height q (last_level h)) last_is
      ∙ same_place h d origin v v k (return_level h) q (last_level h))

module _ (cycle : Cycle) (named : Bool) (s : State) (origin : Point) (v : Values) {t : Bool} (is : t ≡ cycle_done named v) where
  pub cycle_rests : {w : Work} → not t ≡ true → w ≡ no_work true → Makes (motion_of (Drilling cycle) named s origin v) s origin v w
  unfolding motion_of
  cycle_rests e f = makes_none true f (let off : cycle_done named v ≡ false = sym is ∙ not-true t e in rw off)

  pub cycle_passes :
      not t ≡ false → {h : Hole} {n : ℕ} {sound : Bool} → h ≡ hole_of cycle s origin → Counts v.k n → sound ≡ levels_hold h
      → Makes (motion_of (Drilling cycle) named s origin v) s origin v (record { pass = Drill h; passes = n; sound = sound })
  unfolding motion_of cycle_moves work_records passes hole_of
  cycle_passes e {h} f c g =
      let on : cycle_done named v ≡ true = sym is ∙ not-false t e in
      let d = s.modes.distance in
      rw (on, g, f, c.is)
      (record {
        records = sym (drill_passes (hole_of cycle s origin) d origin v (pass_count v.k) s.at.z s.at (λ z. refl));
        sound = refl;
        few = rw c.is at c.few;
        from = tt;
      })
