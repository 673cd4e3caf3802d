-- Pass after pass: what holds between two of them, while they are tested and while they are written. Assumes nothing.
use Rattle.terms.proofs.Common.{ℕ, zero, suc, ◌+◌, ◌*◌, ◌-◌, ◌≤◌, ◌<◌, ◌≡◌, refl, sym, ◌∙◌, true, None, Some, List, [], ◌∷◌, ◌++◌, arith, length}
use Rattle.lengths.specs.{declared.Point.Point, declared.Travel.Travel, Points.inside}
use Rattle.records.specs.{declared.Record.Record, Path.end_of, Serving.Wrote, Writing.moved_bytes, Writing.RoomFor}
use Rattle.records.proofs.Moved.{room_few, put_as, put_none, put_then, ready_as, ready_left, ready_right}
use Rattle.settings.specs.Bounds.{Aims}
use Rattle.cycles.specs.declared.Hole.{Hole}
use Rattle.arcs.{specs.Staying.stays_in, proofs.Paths.stays_both, proofs.Paths.stays_inside, proofs.Paths.inside_near}
use Rattle.work.specs.declared.{Pass.Pass, Pass.TheVariants.One, Pass.TheVariants.Drill, Work.Work, Aim.Aim, Extent.Extent}
use Rattle.work.specs.Needs.{Once, Leading, Testable, Writable, Little}
use Rattle.work.specs.Work.{rows_of, passes_of, leads, work_records, drilled, grown, way_of}
use Rattle.work.proofs.Extents.{way_none, way_on, way_stops, way_ends, way_leaves}

-- the passes that are left, by one more of them
pub passes_more :
    (k : ℕ) (pass : Pass) (next : Point → Point) (p : Point) → 0 < k
    → passes_of k pass next p ≡ rows_of pass p.z (next p) ++ passes_of (k - 1) pass next (end_of p (rows_of pass p.z (next p)))
unfolding passes_of
passes_more zero pass next p some = absurd (omega arith)
passes_more (suc k) pass next p some = let n : suc k - 1 ≡ k = omega arith in rw n

-- the same by the values that one turn computes
pub passes_to :
    (k : ℕ) (pass : Pass) (aim : Aim) (p : Point) {to end : Point} → 0 < k → to ≡ leads aim p → end ≡ end_of p (rows_of pass p.z to)
    → passes_of k pass (leads aim) p ≡ rows_of pass p.z to ++ passes_of (k - 1) pass (leads aim) end
passes_to k pass aim p some f g = rw (g, f) (passes_more k pass (leads aim) p some)

pub passes_none : (k : ℕ) (pass : Pass) (next : Point → Point) (p : Point) → k ≤ 0 → passes_of k pass next p ≡ []
unfolding passes_of
passes_none zero pass next p e = refl
passes_none (suc k) pass next p e = absurd (omega arith)

-- a tool inside the travel is near enough for the words to lead on
pub can_lead : {t : Travel} {aim : Aim} {from : Point} → Leading t aim from → (p : Point) → inside t p ≡ true → Aims aim.origin p aim.values
can_lead {t} h p e =
    record { origin = h.origin; from = inside_near t p h.low h.high e; x = h.x; y = h.y; z = h.z }

-- ---- what a block makes, by its pass

module _ (w : Work) (aim : Aim) (from : Point) where
  pub work_none : w.passes ≡ 0 → work_records w aim from ≡ []
  unfolding work_records passes_of
  work_none e = rw e

  pub work_one : {r : Record} → w.pass ≡ One r → Once w.passes w.pass → (w.passes ≡ 0 → ⊥) → work_records w aim from ≡ r ∷ []
  unfolding work_records passes_of rows_of
  work_one e once some =
      let few = rw e at once in
      let n : w.passes ≡ 1 = omega (arith, few, some) in
      rw (n, e)

  module _ {h : Hole} (e : w.pass ≡ Drill h) where
    pub work_drills : work_records w aim from ≡ work_records (drilled h w.passes) aim from
    unfolding work_records
    work_drills = rw e

    pub drills_writable : Writable w aim from → Writable (drilled h w.passes) aim from
    drills_writable k = record { travel = k.travel; leading = k.leading; once = tt; stays = rw work_drills at k.stays }

pub drills_testable : {t : Travel} {w : Work} {aim : Aim} {e : Extent} (h : Hole) → Testable t w aim e → Testable t (drilled h w.passes) aim e
drills_testable h k = record { leading = k.leading; few = k.few; once = tt; ready = tt; room = k.room; count = k.count }

-- ---- tested

-- what is left of the passes leads to where all lead
pub record Leads (t : Travel) (pass : Pass) (passes : ℕ) (aim : Aim) (e : Extent) (so_far : Extent) (left : ℕ) : Type 0 where
  pub inside : inside t so_far.end ≡ true
  pub most : left ≤ passes
  pub room : so_far.room + 162 * left ≤ e.room + 162 * passes
  pub count : so_far.count + 6 * left ≤ e.count + 6 * passes
  pub way : way_of t e (passes_of passes pass (leads aim) e.end) ≡ way_of t so_far (passes_of left pass (leads aim) so_far.end)

module _ (t : Travel) (w : Work) (aim : Aim) (e : Extent) (h : Testable t w aim e) where
  pub leads_starts : Leads t w.pass w.passes aim e e w.passes
  leads_starts =
      record { inside = h.leading.inside; most = omega arith; room = omega arith; count = omega arith; way = refl }

  module _ {so_far : Extent} {left : ℕ} (l : Leads t w.pass w.passes aim e so_far left) where
    pub leads_aims : Aims aim.origin so_far.end aim.values
    leads_aims = can_lead h.leading so_far.end l.inside

    pub leads_little : Little so_far
    leads_little = record { room = omega (arith, l.room, h.room, h.few); count = omega (arith, l.count, h.count, h.few) }

    pub leads_ends : left ≤ 0 → Some so_far ≡ way_of t e (work_records w aim e.end)
    unfolding work_records
    leads_ends none = sym (l.way ∙ rw (passes_none left w.pass (leads aim) so_far.end none) (way_none t so_far))

    module _ (some : 0 < left) {to : Point} (f : to ≡ leads aim so_far.end) where
      abbrev rows : List Record
      rows = rows_of w.pass so_far.end.z (leads aim so_far.end)

      abbrev rest : List Record
      rest = passes_of (left - 1) w.pass (leads aim) (end_of so_far.end rows)

      pub leads_leaves : None ≡ way_of t so_far (rows_of w.pass so_far.end.z to) → None ≡ way_of t e (work_records w aim e.end)
      unfolding work_records
      leads_leaves g =
          let out = way_leaves t so_far rows (rw f at g) in
          sym (l.way ∙ rw (passes_more left w.pass (leads aim) so_far.end some) (way_stops t so_far rows rest out))

      pub leads_on :
          ((level : _) (q : Point) → length (rows_of w.pass level q) ≤ 6) → {next : Extent}
          → Some next ≡ way_of t so_far (rows_of w.pass so_far.end.z to) → Leads t w.pass w.passes aim e next (left - 1)
      unfolding grown
      leads_on few {next} g =
          let c = way_ends t so_far rows (rw f at g) in
          let is : next ≡ grown so_far rows = c.is in
          let short = few so_far.end.z (leads aim so_far.end) in
          rw is
          (record {
            inside = stays_inside t so_far.end rows l.inside c.stays;
            most = omega (arith, l.most);
            room = omega (arith, l.room, room_few rows, short, some);
            count = omega (arith, l.count, short, some);
            way =
                l.way
                ∙ rw (passes_more left w.pass (leads aim) so_far.end some) (way_on t so_far rows rest c.stays);
          })

-- ---- written

-- the records `rest` are left to be written at a place of the list as it is: written there, they leave what all of them leave of the
-- list at entry
pub record Going (by : Point) (was : List ℕ) (at : ℕ) (all : List Record) (is : List ℕ) (next : ℕ) (rest : List Record) : Type 0 where
  pub ready : RoomFor is next by rest
  pub wrote : (last : List ℕ) (n : ℕ) → Wrote is next (moved_bytes by rest) last n → Wrote was at (moved_bytes by all) last n

module _ (by : Point) {was : List ℕ} {at : ℕ} {all : List Record} where
  pub going_starts : {rest : List Record} → rest ≡ all → RoomFor was at by all → Going by was at all was at rest
  going_starts e h = rw e (record { ready = h; wrote = λ last n w. w })

  module _ {is : List ℕ} {next : ℕ} {rest : List Record} (g : Going by was at all is next rest) where
    pub going_ends : rest ≡ [] → Wrote was at (moved_bytes by all) is next
    going_ends e = g.wrote is next (put_as by e (put_none by is next))

    -- some of the rest
    module _ (a more : List Record) (f : rest ≡ a ++ more) where
      pub going_asks : RoomFor is next by a
      going_asks = ready_left by a more (ready_as by f g.ready)

      pub going_on : {is' : List ℕ} {next' : ℕ} → Wrote is next (moved_bytes by a) is' next' → Going by was at all is' next' more
      going_on w =
          record {
            ready = ready_right by a more w (ready_as by f g.ready);
            wrote = λ last n v. g.wrote last n (put_as by f (put_then by a more w v));
          }

-- the tool is inside every travel in which all passes stay, and so is what is left of them
pub record Inside (from : Point) (all : List Record) (p : Point) (rest : List Record) : Type 0 where
  pub there : (t : Travel) → inside t from ≡ true → stays_in t from all ≡ true → (inside t p ≡ true) × (stays_in t p rest ≡ true)

pub inside_starts : {from : Point} {all rest : List Record} → rest ≡ all → Inside from all from rest
inside_starts e = rw e (record { there = λ t i s. (i, s) })

pub inside_on :
    {from p end : Point} {all rest : List Record} (a more : List Record) → Inside from all p rest → rest ≡ a ++ more → end ≡ end_of p a → Inside from all end more
inside_on {p = p} a more h f g =
    record {
      there =
          λ t i s.
          let both = h.there t i s in
          let parts = stays_both t p a more (rw f at both.1) in
          rw g (stays_inside t p a both.0 parts.0, parts.1);
    }
