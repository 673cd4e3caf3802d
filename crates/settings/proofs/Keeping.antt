-- What is kept where no cycle is on, and how large what a cycle keeps is. Assumes nothing.
use Rattle.std.specs.Prelude.{if◌then◌else◌}
use Rattle.terms.proofs.Common.{◌≡◌, refl, true, false, [], ◌∷◌, arith, rules}
use denote.Enum.{Bare.sameb, Declared.tag_of}
use types.Run.{OneOf, miss}
use Rattle.lengths.specs.{declared.Len.Len, View.Within}
use Rattle.codes.{specs.declared.Cycle.Cycle, specs.Codes.cycle_number, specs.contracts.Cycle.the_type as cycle-type, specs.declared.Motion.Motion, specs.declared.Distance.Distance, specs.contracts.Motion.the_type as motion-type}
use Rattle.codes.specs.declared.Motion.TheVariants.{Off, G00, G01, G02, G03, Drilling}
use Rattle.words.specs.{declared.Values.Values, Values.worth}
use Rattle.settings.specs.{declared.Kept.Kept, declared.State.State, Settings.none_kept, Bounds.KeptNear}
use Rattle.settings.specs.CycleWords.{same_cycle, kept_before, kept_with, kept_under}
use Rattle.settings.proofs.Near.{or_else_near}

-- ---- motions that are no cycle

pub none_before :
    (cycle : Cycle) (m : Motion) (z : Len) (kept : Kept) → OneOf (0 ∷ 1 ∷ 2 ∷ 3 ∷ 4 ∷ []) (tag_of motion-type m)
    → none_kept z ≡ kept_before cycle m z kept
unfolding kept_before
none_before cycle Off z kept h = refl
none_before cycle G00 z kept h = refl
none_before cycle G01 z kept h = refl
none_before cycle G02 z kept h = refl
none_before cycle G03 z kept h = refl
none_before cycle (Drilling before) z kept h = absurd (miss (0 ∷ 1 ∷ 2 ∷ 3 ∷ 4 ∷ []) 5 tt h)

pub none_under :
    (m : Motion) (s : State) (d : Distance) (v : Values) → OneOf (0 ∷ 1 ∷ 2 ∷ 3 ∷ 4 ∷ []) (tag_of motion-type m)
    → none_kept s.at.z ≡ kept_under m s d v
unfolding kept_under
none_under Off s d v h = refl
none_under G00 s d v h = refl
none_under G01 s d v h = refl
none_under G02 s d v h = refl
none_under G03 s d v h = refl
none_under (Drilling cycle) s d v h = absurd (miss (0 ∷ 1 ∷ 2 ∷ 3 ∷ 4 ∷ []) 5 tt h)

-- ---- a cycle after a cycle

-- the code's own comparison is the rule's
pub told_same : (a b : Cycle) → sameb cycle-type a b ≡ same_cycle a b
unfolding same_cycle cycle_number
told_same a b = search rules

module _ (cycle : Cycle) {m : Motion} {other : Cycle} (z : Len) (kept : Kept) (on : m ≡ Drilling other) where
  pub kept_again : same_cycle cycle other ≡ true → kept ≡ kept_before cycle m z kept
  unfolding kept_before
  kept_again e = rw (on, e)

  pub kept_ended : {k : Kept} → same_cycle cycle other ≡ false → k ≡ none_kept kept.initial → k ≡ kept_before cycle m z kept
  unfolding kept_before
  kept_ended e f = rw (on, e, f)

-- ---- bounds

pub none_near : (initial : Len) → Within 1_100_000_000 initial.v → KeptNear (none_kept initial)
unfolding none_kept
none_near initial h = record { initial = h; z = omega arith; r = omega arith; dwell = omega arith }

before_near :
    (cycle : Cycle) (motion : Motion) (z : Len) (kept : Kept) → Within 1_100_000_000 z.v → KeptNear kept
    → KeptNear (kept_before cycle motion z kept)
unfolding kept_before
before_near cycle Off z kept h k = none_near z h
before_near cycle G00 z kept h k = none_near z h
before_near cycle G01 z kept h k = none_near z h
before_near cycle G02 z kept h k = none_near z h
before_near cycle G03 z kept h k = none_near z h
before_near cycle (Drilling before) z kept h k =
    elim (same_cycle cycle before) as (λ t. KeptNear (if t then kept else none_kept kept.initial))
    [ true ↦ k | false ↦ none_near kept.initial k.initial ]

-- what a block leaves, its words and what was kept before it being near
module _ (s : State) (d : Distance) (v : Values) (h : Within 1_100_000_000 s.at.z.v) (k : KeptNear s.kept) where
  pub under_near :
      (motion : Motion) → Within 1_000_000_000 (worth v.z).v → Within 1_000_000_000 (worth v.r).v → Within 3_600_000 (worth v.p).v
      → KeptNear (kept_under motion s d v)
  unfolding kept_under kept_with
  under_near Off z r p = none_near s.at.z h
  under_near G00 z r p = none_near s.at.z h
  under_near G01 z r p = none_near s.at.z h
  under_near G02 z r p = none_near s.at.z h
  under_near G03 z r p = none_near s.at.z h
  under_near (Drilling cycle) z r p =
      let kept = kept_before cycle s.modes.motion s.at.z s.kept in
      let near = before_near cycle s.modes.motion s.at.z s.kept h k in
      record {
        initial = near.initial;
        z = or_else_near 1_000_000_000 v.z kept.z z near.z;
        r = or_else_near 1_000_000_000 v.r kept.r r near.r;
        dwell = or_else_near 3_600_000 v.p kept.dwell p near.dwell;
      }
