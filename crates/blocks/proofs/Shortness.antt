-- The numbers of a block's records fit four bytes in machine units: a point's since it is inside the travel, all others by their
-- own limits. Assumes nothing.
use Rattle.terms.proofs.Common.{◌≡◌, refl, ap₂, Bool, true, ◌&&◌, List, [], ◌∷◌, ◌++◌, map, arith}
use Rattle.terms.{specs.Terms.all, proofs.Laws.both_left, proofs.Laws.both_right}
use Rattle.lengths.specs.{declared.Len.Len, View.Short, declared.Point.Point, Points.moved, Points.inside, Near.Near}
use Rattle.records.specs.{declared.Arc.Arc, declared.Record.Record, Layout.point_numbers, Layout.arc_numbers, Layout.numbers_of}
use Rattle.records.specs.{Path.path_of, Path.path_end, Path.end_of, Path.path_stays_in, Path.arc_moved, Path.record_moved, Writing.AllShort, Writing.ListShort}
use Rattle.records.specs.declared.Record.TheVariants.{RP, LN, AR, AL, DW, SP, SO, PA, EN}
use Rattle.setup.specs.{declared.Bed.Bed, Frame.origin_at, Fair.Fair}
use Rattle.settings.specs.{declared.State.State, Target.target}
use Rattle.arcs.{specs.Arcs.left_way, specs.Arcs.right_way, specs.Arcs.path_stays, specs.Arcs.centre_fits, proofs.Paths.arc_ends}
use Rattle.blocks.specs.{Machine.machine_of, declared.Said.Said, Motions.arc_to, Motions.radius_fits, Exec.working, Reach.Steady}
use Rattle.blocks.proofs.Nearness.{near_machine, both_fit, feed_near, first_near, second_near}
use Rattle.arcs.proofs.Paths as Paths

-- the three numbers of a point near the machine's zero, with more after them
point_short : (p : Point) (ns : List Len) → Near 100_000_000 p → AllShort ns → AllShort (point_numbers p ns)
point_short p ns h more = (omega arith, (omega arith, (omega arith, more)))

-- ---- by the numbers that the travel does not bound

-- of an arc: the centre in machine units, and the feed
pub record ArcShort (by : Point) (a : Arc) : Type 0 where
  pub first : Short (arc_moved by a).first.v
  pub second : Short (arc_moved by a).second.v
  pub feed : Short a.feed.v

abbrev pub OthersShort : Point → Record → Type 0
OthersShort by (RP p) = Unit
OthersShort by (LN p feed) = Short feed.v
OthersShort by (AR a) = ArcShort by a
OthersShort by (AL a) = ArcShort by a
OthersShort by (DW ms) = Short ms.v
OthersShort by (SP speed) = Short speed.v
OthersShort by SO = Unit
OthersShort by PA = Unit
OthersShort by EN = Unit

abbrev pub AllOthers : Point → List Record → Type 0
AllOthers by [] = Unit
AllOthers by (r ∷ rs) = OthersShort by r × AllOthers by rs

pub others_both : (by : Point) (a b : List Record) → AllOthers by a → AllOthers by b → AllOthers by (a ++ b)
others_both by [] b h k = k
others_both by (r ∷ a) b h k = (h.0, others_both by a b h.1 k)

-- a centre that fits is never refused with 16
module _ (bed : Bed) where
  one_fits : (r : Record) → OthersShort bed.offset r → (machine_of bed).fits r ≡ true
  unfolding machine_of centre_fits path_of record_moved
  one_fits (RP p) h = refl
  one_fits (LN p feed) h = refl
  one_fits (AR a) h = both_fit (arc_moved bed.offset a).first.v (arc_moved bed.offset a).second.v h.first h.second
  one_fits (AL a) h = both_fit (arc_moved bed.offset a).first.v (arc_moved bed.offset a).second.v h.first h.second
  one_fits (DW ms) h = refl
  one_fits (SP speed) h = refl
  one_fits SO h = refl
  one_fits PA h = refl
  one_fits EN h = refl

  pub all_fit : (rs : List Record) → AllOthers bed.offset rs → all (machine_of bed).fits rs ≡ true
  unfolding all
  all_fit [] h = refl
  all_fit (r ∷ rs) h = ap₂ ◌&&◌ (one_fits r h.0) (all_fit rs h.1)

module _ (bed : Bed) where
  -- a path that stays ends inside
  pub stays_inside :
      (from : Point) (rs : List Record) → inside bed.travel from ≡ true → path_stays_in (machine_of bed).stays from rs ≡ true
      → inside bed.travel (end_of from rs) ≡ true
  unfolding machine_of
  stays_inside = Paths.stays_inside bed.travel

  -- ---- and its numbers are short

  module _ (fair : Fair bed) where
    inside_short : (p : Point) (ns : List Len) → inside bed.travel p ≡ true → AllShort ns → AllShort (point_numbers (moved bed.offset p) ns)
    inside_short p ns e more = point_short (moved bed.offset p) ns (near_machine bed fair p e) more

    arc_numbers_lem : (a : Arc) → inside bed.travel a.end ≡ true → ArcShort bed.offset a → AllShort (arc_numbers (arc_moved bed.offset a))
    unfolding arc_moved
    arc_numbers_lem a e h =
        let m = arc_moved bed.offset a in
        inside_short a.end (m.first ∷ m.second ∷ m.feed ∷ []) e (h.first, (h.second, (h.feed, tt)))

    pub record_short :
        (from : Point) (r : Record) → (machine_of bed).stays from r ≡ true → OthersShort bed.offset r
        → AllShort (numbers_of (record_moved bed.offset r))
    unfolding machine_of path_stays path_of numbers_of record_moved
    record_short from (RP p) e h = inside_short p [] e tt
    record_short from (LN p feed) e h = inside_short p (feed ∷ []) e (h, tt)
    record_short from (AR a) e h = arc_numbers_lem a (arc_ends bed.travel from right_way a e) h
    record_short from (AL a) e h = arc_numbers_lem a (arc_ends bed.travel from left_way a e) h
    record_short from (DW ms) e h = (h, tt)
    record_short from (SP speed) e h = (h, tt)
    record_short from SO e h = tt
    record_short from PA e h = tt
    record_short from EN e h = tt

    pub records_short :
        (from : Point) (rs : List Record) → path_stays_in (machine_of bed).stays from rs ≡ true → AllOthers bed.offset rs
        → ListShort (map (record_moved bed.offset) rs)
    unfolding path_stays_in
    records_short from [] e h = tt
    records_short from (r ∷ rs) e h =
        let next = path_end from (path_of r) in
        let now = (machine_of bed).stays from r in
        let rest = path_stays_in (machine_of bed).stays next rs in
        (record_short from r (both_left now rest e) h.0, records_short next rs (both_right now rest e) h.1)

module _ (bed : Bed) (s : State) (b : Said) where
  abbrev w : State
  w = working s b

  abbrev end : Point
  end = target w.modes.distance (origin_at bed b.modes.origin) w.at b.values

  module _ (steady : Steady bed s b) where
    pub arc_others : (left : Bool) → radius_fits w b.values end ≡ true → ArcShort bed.offset (arc_to left w b.values end)
    unfolding arc_to
    arc_others left fits =
        record {
          first = omega (arith, first_near bed s b steady left fits);
          second = omega (arith, second_near bed s b steady left fits);
          feed = omega (arith, feed_near bed s b steady);
        }
