-- The records of a pass by their places. Assumes nothing.
use Rattle.std.specs.Prelude.{if◌then◌else◌, is_some}
use Rattle.terms.proofs.Common.{ℕ, zero, suc, ◌+◌, ◌-◌, ◌≤◌, ◌<◌, ◌≡◌, refl, sym, ◌∙◌, ap, Bool, true, false, List, [], ◌∷◌, ◌++◌, arith, length, length-append}
use denote.Enum.Declared.{tag_of}
use types.Run.{OneOf, miss}
use Rattle.lengths.specs.{declared.Len.Len, declared.Point.Point, Points.at_height}
use Rattle.codes.specs.declared.Cycle.{Cycle, TheVariants.G81, TheVariants.G82, TheVariants.G85, TheVariants.G89}
use Rattle.codes.{specs.declared.Return.Return, specs.declared.Return.TheVariants.ToInitial, specs.declared.Return.TheVariants.ToR, specs.contracts.Cycle.the_type as cycle-type}
use Rattle.words.specs.Values.{worth}
use Rattle.records.specs.declared.Record.{Record, TheVariants.RP, TheVariants.LN, TheVariants.DW}
use Rattle.cycles.specs.{declared.Hole.Hole, Cycles.return_level, Cycles.dwelling, Cycles.up_under, Cycles.leaving, Cycles.pass_to, Bounds.UpLength, Bounds.PassLength, Bounds.Stands}
use Rattle.cycles.proofs.Passes.{with_z, without_z, dwell_is, no_dwell_is}

-- ---- places of a list

-- the first record
pub stands_first : (r : Record) (rs : List Record) (i : ℕ) → i ≡ 0 → Stands (r ∷ rs) i r
stands_first r rs i e = rw e

-- a place of the rest
pub stands_rest : (a : Record) (rs : List Record) (r : Record) (i : ℕ) → 0 < i → Stands rs (i - 1) r → Stands (a ∷ rs) i r
stands_rest a rs r zero h s = absurd (omega arith)
stands_rest a rs r (suc i) h s =
    let e : suc i - 1 ≡ i = omega arith in
    let n : suc i + 1 ≡ suc (i + 1) = omega arith in
    rw n (rw e at s)

pub stands_as : {rs qs : List Record} (i : ℕ) {r : Record} → rs ≡ qs → Stands qs i r → Stands rs i r
stands_as i e s = rw e s

-- ---- how many records

up_few : (back : Return) (h : Hole) (p : Point) → length (up_under back h p) ≤ 1
unfolding up_under
up_few ToInitial h p = omega arith
up_few ToR h p = omega arith

leaving_few : (cycle : Cycle) (h : Hole) (p : Point) → length (leaving cycle h p) ≤ 2
unfolding leaving
leaving_few G81 h p = omega arith
leaving_few G82 h p = omega arith
leaving_few G85 h p = omega (arith, up_few h.back h p)
leaving_few G89 h p = omega (arith, up_few h.back h p)

module _ {cycle : Cycle} {back : Return} where
  pub length_81 : cycle ≡ G81 → UpLength cycle back 1
  unfolding leaving
  length_81 e = record { is = λ h p f. rw e; most = omega arith }

  pub length_82 : cycle ≡ G82 → UpLength cycle back 1
  unfolding leaving
  length_82 e = record { is = λ h p f. rw e; most = omega arith }

-- G85 and G89 cut to R, and under G98 go on to the initial level
two_up : (cycle : Cycle) → OneOf (2 ∷ 3 ∷ []) (tag_of cycle-type cycle) → (h : Hole) (p : Point) → leaving cycle h p ≡ LN (at_height p h.r) h.feed ∷ up_under h.back h p
unfolding leaving
two_up G81 o h p = absurd (miss (2 ∷ 3 ∷ []) 0 tt o)
two_up G82 o h p = absurd (miss (2 ∷ 3 ∷ []) 1 tt o)
two_up G85 o h p = refl
two_up G89 o h p = refl

module _ {cycle : Cycle} {back : Return} (o : OneOf (2 ∷ 3 ∷ []) (tag_of cycle-type cycle)) where
  pub length_initial : back ≡ ToInitial → UpLength cycle back 2
  unfolding up_under
  length_initial e = record { is = λ h p f. rw (two_up cycle o h p, f, e); most = omega arith }

  pub length_r : back ≡ ToR → UpLength cycle back 1
  unfolding up_under
  length_r e = record { is = λ h p f. rw (two_up cycle o h p, f, e); most = omega arith }

module _ (h : Hole) where
  pub length_flat : is_some h.z ≡ false → PassLength h 1
  length_flat e = record { is = λ level p. sym (ap length (without_z h level p e)); most = omega arith }

  module _ (z : is_some h.z ≡ true) {n : ℕ} (up : UpLength h.cycle h.back n) where
    deep_length : (level : Len) (p : Point) → length (pass_to h level p) ≡ 3 + length (dwelling h.dwell) + n
    deep_length level p =
        ap length (with_z h level p z) ∙ omega (arith, length-append (dwelling h.dwell) (leaving h.cycle h p), up.is h p refl)

    pub length_dwell : is_some h.dwell ≡ true → PassLength h (4 + n)
    length_dwell e =
        record {
          is = λ level p. omega (arith, deep_length level p, ap length (dwell_is h.dwell e));
          most = omega (arith, up.most);
        }

    pub length_deep : is_some h.dwell ≡ false → PassLength h (3 + n)
    length_deep e =
        record {
          is = λ level p. omega (arith, deep_length level p, ap length (no_dwell_is h.dwell e));
          most = omega (arith, up.most);
        }

-- ---- the way back up

second_up : (back : Return) (h : Hole) (p : Point) → 0 < length (up_under back h p) → up_under back h p ≡ RP (at_height p h.initial) ∷ []
unfolding up_under
second_up ToInitial h p some = refl
second_up ToR h p some = absurd (omega arith)

module _ (h : Hole) (p : Point) where
  pub up_second : (cycle : Cycle) {i : ℕ} {q : Point} → i ≡ 1 → i < length (leaving cycle h p) → q ≡ at_height p h.initial → Stands (leaving cycle h p) i (RP q)
  unfolding leaving
  up_second G81 e some f = absurd (omega arith)
  up_second G82 e some f = absurd (omega arith)
  up_second G85 e some f = rw (e, f, second_up h.back h p (omega (arith, e, some)))
  up_second G89 e some f = rw (e, f, second_up h.back h p (omega (arith, e, some)))

  module _ (cycle : Cycle) (i : ℕ) (some : i < length (leaving cycle h p)) (not : i ≡ 1 → ⊥) where
    at_first : i ≡ 0
    at_first = omega (arith, leaving_few cycle h p)

    -- the first one, by what the code that is on begins with
    pub up_first : {r : Record} {rs : List Record} → leaving cycle h p ≡ r ∷ rs → Stands (leaving cycle h p) i r
    up_first {r} {rs} e = stands_as i e (stands_first r rs i at_first)

pub begins_81 : (h : Hole) (p : Point) {cycle : Cycle} {q : Point} {l : Len} → cycle ≡ G81 → l ≡ return_level h → q ≡ at_height p l → leaving cycle h p ≡ RP q ∷ []
unfolding leaving
begins_81 h p e f g = rw (e, g, f)

pub begins_82 : (h : Hole) (p : Point) {cycle : Cycle} {q : Point} {l : Len} → cycle ≡ G82 → l ≡ return_level h → q ≡ at_height p l → leaving cycle h p ≡ RP q ∷ []
unfolding leaving
begins_82 h p e f g = rw (e, g, f)

pub begins_85 : (h : Hole) (p : Point) {cycle : Cycle} {q : Point} → cycle ≡ G85 → q ≡ at_height p h.r → leaving cycle h p ≡ LN q h.feed ∷ up_under h.back h p
unfolding leaving
begins_85 h p e g = rw (e, g)

pub begins_89 : (h : Hole) (p : Point) {cycle : Cycle} {q : Point} → cycle ≡ G89 → q ≡ at_height p h.r → leaving cycle h p ≡ LN q h.feed ∷ up_under h.back h p
unfolding leaving
begins_89 h p e g = rw (e, g)

-- ---- after the cut to Z

module _ (h : Hole) (p : Point) (i : ℕ) where
  abbrev after : List Record
  after = dwelling h.dwell ++ leaving h.cycle h p

  module _ (e : is_some h.dwell ≡ false) where
    no_dwell : after ≡ leaving h.cycle h p
    no_dwell = rw (no_dwell_is h.dwell e)

    pub up_there : i < length after → i < length (leaving h.cycle h p)
    up_there some = rw no_dwell at some

    pub after_up : {r : Record} → Stands (leaving h.cycle h p) i r → Stands after i r
    after_up s = stands_as i no_dwell s

  module _ (e : is_some h.dwell ≡ true) where
    dwells : after ≡ DW (worth h.dwell) ∷ leaving h.cycle h p
    dwells = rw (dwell_is h.dwell e)

    pub after_dwell : i ≡ 0 → Stands after i (DW (worth h.dwell))
    after_dwell f = stands_as i dwells (stands_first (DW (worth h.dwell)) (leaving h.cycle h p) i f)

    module _ (some : i ≡ 0 → ⊥) where
      pub up_left : i < length after → i - 1 < length (leaving h.cycle h p)
      up_left most = let f = rw dwells at most in omega (arith, f)

      pub after_rest : {r : Record} → Stands (leaving h.cycle h p) (i - 1) r → Stands after i r
      after_rest s = stands_as i dwells (stands_rest (DW (worth h.dwell)) (leaving h.cycle h p) _ i (omega (arith, some)) s)

-- ---- the whole pass

module _ (h : Hole) (level : Len) (p : Point) (i : ℕ) {q : Point} where
  pub row_flat : is_some h.z ≡ false → i < length (pass_to h level p) → q ≡ at_height p h.stood → Stands (pass_to h level p) i (RP q)
  row_flat e most f =
      let one : i < 1 = rw (without_z h level p e) at most in
      stands_as i (without_z h level p e) (rw f (stands_first (RP (at_height p h.stood)) [] i (omega (arith, one))))

  module _ (e : is_some h.z ≡ true) where
    pub row_first : i ≡ 0 → q ≡ at_height p level → Stands (pass_to h level p) i (RP q)
    row_first f g = stands_as i (with_z h level p e) (rw (f, g))

    pub row_second : i ≡ 1 → q ≡ at_height p h.r → Stands (pass_to h level p) i (RP q)
    row_second f g = stands_as i (with_z h level p e) (rw (f, g))

    pub row_third : i ≡ 2 → q ≡ at_height p (worth h.z) → Stands (pass_to h level p) i (LN q h.feed)
    row_third f g = stands_as i (with_z h level p e) (rw (f, g))

module _ (h : Hole) (level : Len) (p : Point) (i : ℕ) (e : is_some h.z ≡ true) (more : 2 < i) where
  pub row_left : i < length (pass_to h level p) → i - 3 < length (dwelling h.dwell ++ leaving h.cycle h p)
  row_left most = let f = rw (with_z h level p e) at most in omega (arith, f)

  pub row_rest : {r : Record} → Stands (dwelling h.dwell ++ leaving h.cycle h p) (i - 3) r → Stands (pass_to h level p) i r
  row_rest {r} s =
      let rest = dwelling h.dwell ++ leaving h.cycle h p in
      let n : i - 1 - 1 - 1 ≡ i - 3 = omega arith in
      stands_as i (with_z h level p e)
      (stands_rest (RP (at_height p level)) (RP (at_height p h.r) ∷ LN (at_height p (worth h.z)) h.feed ∷ rest) r i (omega (arith, more))
      (stands_rest (RP (at_height p h.r)) (LN (at_height p (worth h.z)) h.feed ∷ rest) r (i - 1) (omega (arith, more))
      (stands_rest (LN (at_height p (worth h.z)) h.feed) rest r (i - 1 - 1) (omega (arith, more)) (rw n s))))

-- a pass has six records at most
pub pass_few : (h : Hole) (level : Len) (p : Point) → length (pass_to h level p) ≤ 6
unfolding dwelling
pass_few h level p = by (is_some h.z) refl
  where
    dwell_few : (t : Bool) → length (if t then DW (worth h.dwell) ∷ [] else []) ≤ 1
    dwell_few true = omega arith
    dwell_few false = omega arith

    by : (s : Bool) → is_some h.z ≡ s → length (pass_to h level p) ≤ 6
    by true e =
        rw (with_z h level p e)
        (omega (arith, length-append (dwelling h.dwell) (leaving h.cycle h p), dwell_few (is_some h.dwell), leaving_few h.cycle h p))
    by false e = rw (without_z h level p e) (omega arith)
