-- Document 01, "Cycles": the levels and the passes.
use Rattle.std.specs.Prelude.{◌&&◌, ◌||◌, ◌∷◌, ◌++◌, if◌then◌else◌, is_some}
use Rattle.std.specs.Bool.{then_some}
use Rattle.terms.specs.Common.{ℕ, zero, suc, Bool, not, Option, List, [], nat_abs, le_z}
use Rattle.lengths.specs.{declared.Len.Len, declared.Point.Point, Points.at_height}
use Rattle.codes.specs.declared.Cycle.{Cycle, TheVariants.G81, TheVariants.G82, TheVariants.G85, TheVariants.G89}
use Rattle.codes.specs.declared.{Return.Return, Return.TheVariants.ToInitial, Return.TheVariants.ToR, Distance.Distance}
use Rattle.words.specs.{declared.Values.Values, Values.worth}
use Rattle.records.specs.declared.Record.{Record, TheVariants.RP, TheVariants.LN, TheVariants.DW}
use Rattle.settings.specs.{declared.Kept.Kept, declared.State.State, CycleWords.kept_z, CycleWords.kept_r, CycleWords.kept_p, Target.aimed, Target.target}
use Rattle.cycles.specs.declared.Hole.{Hole}

-- "Missing R is the initial level. In G91, R counts from the initial level, Z from R": R leads from the initial level, and Z from R,
-- as a word of a straight move does. Changed by document 02, #102: the words are those that are kept, each with the G90 or G91 that it
-- was written under, and the initial level is the one that is held.
unfoldable pub level_r : Point → Kept → Len
level_r origin kept = aimed kept.under.r origin.z kept.initial (kept_r kept)

unfoldable pub level_z : Point → Len → Kept → Len
level_z origin r kept = aimed kept.under.z origin.z r (kept_z kept)

unfoldable pub hole_of : Cycle → State → Point → Hole
hole_of cycle s origin =
    let kept = s.kept in
    let r = level_r origin kept in
    record {
      cycle = cycle;
      back = s.modes.back;
      initial = kept.initial;
      stood = s.at.z;
      r = r;
      z = then_some kept.stands.z (level_z origin r kept);
      dwell = kept_p kept;
      feed = s.feed;
    }

-- "Z above R or R above the initial level is refused."
unfoldable pub levels_hold : Hole → Bool
levels_hold h = (not (is_some h.z) || le_z (worth h.z).v h.r.v) && le_z h.r.v h.initial.v

-- "the return level is that (G98) or R (G99)."
unfoldable pub level_for : Return → Hole → Len
level_for ToInitial h = h.initial
level_for ToR h = h.r

unfoldable pub return_level : Hole → Len
return_level h = level_for h.back h

-- "dwell for G82 and G89 where P stands": the other cycles do not take a P
unfoldable pub dwelling : Option Len → List Record
dwelling g = if is_some g then DW (worth g) ∷ [] else []

-- "and, under G98, rapid to the initial level"
unfoldable pub up_under : Return → Hole → Point → List Record
up_under ToInitial h p = RP (at_height p h.initial) ∷ []
up_under ToR h p = []

-- "then G81 and G82 rapid to the return level, G85 and G89 cut to R and, under G98, rapid to the initial level."
unfoldable pub leaving : Cycle → Hole → Point → List Record
leaving G81 h p = RP (at_height p (return_level h)) ∷ []
leaving G82 h p = RP (at_height p (return_level h)) ∷ []
leaving G85 h p = LN (at_height p h.r) h.feed ∷ up_under h.back h p
leaving G89 h p = LN (at_height p h.r) h.feed ∷ up_under h.back h p

-- One pass at X, Y of a point, which comes at a level. "Without Z each pass is a rapid to X, Y at the initial level": changed by
-- document 02, #102, "every pass where no Z is kept, is at the Z where the tool stands".
-- "With Z each pass: rapid to X, Y ..; then rapid to R, cut to Z, dwell .., then .."
unfoldable pub pass_to : Hole → Len → Point → List Record
pass_to h level p =
    if is_some h.z
    then
    RP (at_height p level) ∷ RP (at_height p h.r) ∷ LN (at_height p (worth h.z)) h.feed ∷ dwelling h.dwell
    ++ leaving h.cycle h p
    else RP (at_height p h.stood) ∷ []

-- "X, Y are added at each pass": each pass leads on from X, Y of the one before. "rapid to X, Y at the initial level in
-- the first pass, at the return level after": changed by document 02, #102, "the first rapid .. is at the Z where the tool stands".
unfoldable pub passes_at : ℕ → Hole → (Point → Point) → Len → Point → List Record
passes_at zero h next level p = []
passes_at (suc k) h next level p =
    pass_to h level (next p) ++ passes_at k h next (return_level h) (next p)

-- "K: missing 1"
unfoldable pub pass_count : Option Len → ℕ
pass_count g = if is_some g then nat_abs (worth g).v else 1

unfoldable pub passes : Hole → Distance → Point → Point → Values → List Record
passes h d origin now v = passes_at (pass_count v.k) h (λ p. target d origin p v) h.stood now
