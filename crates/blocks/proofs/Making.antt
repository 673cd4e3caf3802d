-- The records that a whole block makes, and the state that it leaves. Assumes nothing.
use Rattle.std.specs.Prelude.{if◌then◌else◌, is_some}
use Rattle.terms.proofs.Common.{ℕ, zero, suc, ◌≡◌, refl, Bool, true, false, not, ◌&&◌, ◌||◌, List, [], ◌∷◌, ◌++◌, map, arith}
use Rattle.terms.specs.Terms.{all}
use Rattle.lengths.specs.{declared.Len.Len, View.Short, declared.Point.Point, Points.at_height}
use Rattle.codes.specs.declared.{Cycle.Cycle, Cycle.TheVariants.G81, Cycle.TheVariants.G82, Cycle.TheVariants.G85, Cycle.TheVariants.G89, Misc.Misc, Motion.Motion, Return.Return}
use Rattle.codes.specs.{declared.Return.TheVariants.ToInitial, declared.Return.TheVariants.ToR, Codes.is_m, Codes.ends_program}
use Rattle.codes.specs.declared.Motion.TheVariants.{Off, G00, G01, G02, G03, Drilling}
use Rattle.words.specs.{declared.Values.Values, Values.worth}
use Rattle.records.specs.{declared.Arc.Arc, declared.Record.Record, Path.path_stays_in, Path.record_moved, Writing.ListShort}
use Rattle.records.specs.declared.Record.TheVariants.{RP, LN, AR, AL, DW, SP, SO, PA, EN}
use Rattle.setup.specs.{declared.Bed.Bed, Frame.origin_at}
use Rattle.settings.specs.{declared.State.State, Target.target}
use Rattle.arcs.specs.Arcs.{arc_holds}
use Rattle.cycles.specs.{declared.Hole.Hole, Cycles.hole_of, Cycles.return_level, Cycles.dwelling, Cycles.up_under, Cycles.leaving, Cycles.pass_to, Cycles.passes_at, Cycles.pass_count, Cycles.passes}
use Rattle.letters.specs.declared.BlockCode.{BlockCode, TheVariants.Calling, TheVariants.Returning, TheVariants.Dwelling, TheVariants.Moving}
use Rattle.blocks.specs.{declared.Said.Said, Machine.machine_of, Reach.Reachable, Reach.Steady}
use Rattle.blocks.specs.Motions.{Moves, no_moves, one, impossible, end_stands, arc_stands, arc_to, radius_fits, arc_moves, is_larger, cycle_done, cycle_moves, motion_of, moves_of}
use Rattle.blocks.specs.Exec.{working, spindle_records, moves_in, last_records, made_by, settled}
use Rattle.blocks.proofs.Nearness.{feed_near, speed_near, kept_near, hole_feed, hole_dwell}
use Rattle.blocks.proofs.Shortness.{ArcShort, OthersShort, AllOthers, others_both, all_fit, stays_inside, records_short, arc_others}

-- ---- the numbers that the travel does not bound, of each part of a block's records

module _ (by : Point) where
  either_others : (t : Bool) (a b : List Record) → AllOthers by a → AllOthers by b → AllOthers by (if t then a else b)
  either_others true a b h k = h
  either_others false a b h k = k

  either_moves : (t : Bool) (a b : Moves) → AllOthers by a.records → AllOthers by b.records → AllOthers by (if t then a else b).records
  either_moves true a b h k = h
  either_moves false a b h k = k

  last_others : (m : Misc) → AllOthers by (last_records m)
  unfolding last_records
  last_others m =
      either_others (is_m 5 m) (SO ∷ []) (if is_m 0 m then PA ∷ [] else (if ends_program m then EN ∷ [] else [])) (tt, tt)
      (either_others (is_m 0 m) (PA ∷ []) (if ends_program m then EN ∷ [] else []) (tt, tt)
      (either_others (ends_program m) (EN ∷ []) [] (tt, tt) tt))

  module _ (h : Hole) (feed : Short h.feed.v) (dwell : Short (worth h.dwell).v) where
    dwelling_others : AllOthers by (dwelling h.dwell)
    unfolding dwelling
    dwelling_others = either_others (is_some h.dwell) (DW (worth h.dwell) ∷ []) [] (dwell, tt) tt

    up_others : (p : Point) (back : Return) → AllOthers by (up_under back h p)
    unfolding up_under
    up_others p ToInitial = (tt, tt)
    up_others p ToR = tt

    leaving_others : (p : Point) (cycle : Cycle) → AllOthers by (leaving cycle h p)
    unfolding leaving
    leaving_others p G81 = (tt, tt)
    leaving_others p G82 = (tt, tt)
    leaving_others p G85 = (feed, up_others p h.back)
    leaving_others p G89 = (feed, up_others p h.back)

    pass_others : (level : Len) (p : Point) → AllOthers by (pass_to h level p)
    unfolding pass_to
    pass_others level p =
        either_others (is_some h.z)
        (RP (at_height p level) ∷ RP (at_height p h.r) ∷ LN (at_height p (worth h.z)) h.feed ∷ dwelling h.dwell ++ leaving h.cycle h p)
        (RP (at_height p h.stood) ∷ [])
        (tt, (tt, (feed, others_both by (dwelling h.dwell) (leaving h.cycle h p) dwelling_others (leaving_others p h.cycle))))
        (tt, tt)

    passes_others : (k : ℕ) (next : Point → Point) (level : Len) (p : Point) → AllOthers by (passes_at k h next level p)
    unfolding passes_at
    passes_others zero next level p = tt
    passes_others (suc k) next level p =
        others_both by (pass_to h level (next p)) (passes_at k h next (return_level h) (next p)) (pass_others level (next p))
        (passes_others k next (return_level h) (next p))

module _ (bed : Bed) (s : State) (b : Said) where
  abbrev by : Point
  by = bed.offset

  abbrev origin : Point
  origin = origin_at bed b.modes.origin

  abbrev w : State
  w = working s b

  abbrev v : Values
  v = b.values

  abbrev end : Point
  end = target w.modes.distance origin w.at v

  abbrev made : List Record
  made = made_by (machine_of bed) s b

  module _ (steady : Steady bed s b) where
    spindle_others : AllOthers by (spindle_records s b)
    unfolding spindle_records
    spindle_others =
        either_others by (s.turning && is_some v.s || is_m 3 b.misc) (SP w.speed ∷ []) []
        (omega (arith, speed_near bed s b steady), tt) tt

    cycle_others : (cycle : Cycle) → AllOthers by (cycle_moves cycle w origin v).records
    unfolding cycle_moves passes
    cycle_others cycle =
        let h = hole_of cycle w origin in
        passes_others by h (hole_feed bed s b steady cycle) (hole_dwell bed s b steady cycle) (pass_count v.k)
        (λ p. target w.modes.distance origin p v) h.stood w.at

    -- an arc, or none where the radius does not fit
    turn_others :
        (make : Arc → Record) → ((a : Arc) → ArcShort by a → OthersShort by (make a)) → (left : Bool)
        → AllOthers by (arc_moves make left w v end).records
    unfolding arc_moves
    turn_others make short left = go (radius_fits w v end) refl
      where
        a : Arc
        a = arc_to left w v end

        go :
            (t : Bool) → radius_fits w v end ≡ t
            → AllOthers by (if t then record { records = make a ∷ []; sound = arc_holds w.at a } else impossible).records
        go true e = (short a (arc_others bed s b steady left e), tt)
        go false e = tt

    motion_others : (motion : Motion) → AllOthers by (motion_of motion b.named w origin v).records
    unfolding motion_of
    motion_others Off = tt
    motion_others G00 = either_moves by (end_stands v) (one (RP (target w.modes.distance origin w.at v))) no_moves (tt, tt) tt
    motion_others G01 =
        either_moves by (end_stands v) (one (LN (target w.modes.distance origin w.at v) w.feed)) no_moves
        (omega (arith, feed_near bed s b steady), tt) tt
    motion_others G02 =
        either_moves by (arc_stands v) (arc_moves AR (is_larger v) w v end) no_moves (turn_others AR (λ a h. h) (is_larger v)) tt
    motion_others G03 =
        either_moves by (arc_stands v) (arc_moves AL (not (is_larger v)) w v end) no_moves (turn_others AL (λ a h. h) (not (is_larger v))) tt
    motion_others (Drilling cycle) =
        either_moves by (cycle_done b.named v) (cycle_moves cycle w origin v) no_moves (cycle_others cycle) tt

    code_others : (code : BlockCode) → b.code ≡ code → AllOthers by (moves_of code b.named w origin v).records
    unfolding moves_of
    code_others Calling e = tt
    code_others Returning e = tt
    code_others Dwelling e = (omega (arith, steady.said.sizes.dwell e), tt)
    code_others (Moving motion) e = motion_others motion

    made_others : AllOthers by made
    unfolding made_by moves_in machine_of
    made_others =
        let moves = (moves_in (machine_of bed) s b).records in
        others_both by (spindle_records s b ++ moves) (last_records b.misc)
        (others_both by (spindle_records s b) moves spindle_others (code_others b.code refl)) (last_others by b.misc)

    pub made_fits : all (machine_of bed).fits made ≡ true
    made_fits = all_fit bed made made_others

    module _ (stays : path_stays_in (machine_of bed).stays s.at made ≡ true) where
      pub made_short : ListShort (map (record_moved by) made)
      made_short = records_short bed steady.fair s.at made stays made_others

      pub kept : Reachable bed (settled (machine_of bed) s b)
      unfolding settled
      kept =
          record {
            at = stays_inside bed s.at made steady.state.at stays;
            origin = steady.said.origin;
            feed = feed_near bed s b steady;
            speed = speed_near bed s b steady;
            kept = kept_near bed s b steady;
          }
