-- Laws of the passes of a cycle: what one pass does, and how the next follows on it. Assumes nothing.
use Rattle.std.specs.Prelude.{if◌then◌else◌, is_some}
use Rattle.terms.proofs.Common.{ℕ, zero, suc, ◌≡◌, refl, sym, ◌∙◌, ap, ap₂, Bool, true, false, Option, List, [], ◌∷◌, ◌++◌}
use Rattle.lengths.specs.{declared.Len.Len, declared.Point.Point, Points.at_height}
use Rattle.codes.specs.declared.Cycle.{Cycle, TheVariants.G81, TheVariants.G82, TheVariants.G85, TheVariants.G89}
use Rattle.codes.specs.declared.{Return.Return, Return.TheVariants.ToInitial, Return.TheVariants.ToR, Distance.Distance}
use Rattle.words.specs.{declared.Values.Values, Values.worth}
use Rattle.records.specs.{declared.Record.Record, declared.Record.TheVariants.RP, declared.Record.TheVariants.LN, declared.Record.TheVariants.DW, Path.path_of, Path.path_end, Path.end_of}
use Rattle.settings.specs.Target.{aimed, target}
use Rattle.cycles.specs.{declared.Hole.Hole, Cycles.level_for, Cycles.return_level, Cycles.dwelling, Cycles.up_under, Cycles.leaving, Cycles.pass_to, Cycles.passes_at}

-- ---- the records of one pass, by whether Z stands

chosen : {A : Type 0} (s : Bool) (a b : A) → s ≡ true → (if s then a else b) ≡ a
chosen s a b e = rw e

other : {A : Type 0} (s : Bool) (a b : A) → s ≡ false → (if s then a else b) ≡ b
other s a b e = rw e

module _ (h : Hole) (level : Len) (p : Point) where
  pub with_z :
      is_some h.z ≡ true
      → pass_to h level p
      ≡ RP (at_height p level) ∷ RP (at_height p h.r) ∷ LN (at_height p (worth h.z)) h.feed ∷ dwelling h.dwell ++ leaving h.cycle h p
  unfolding pass_to
  with_z e = chosen (is_some h.z) _ _ e

  pub without_z : is_some h.z ≡ false → pass_to h level p ≡ RP (at_height p h.stood) ∷ []
  unfolding pass_to
  without_z e = other (is_some h.z) _ _ e

pub dwell_is : (g : Option Len) → is_some g ≡ true → dwelling g ≡ DW (worth g) ∷ []
unfolding dwelling
dwell_is g e = chosen (is_some g) (DW (worth g) ∷ []) [] e

pub no_dwell_is : (g : Option Len) → is_some g ≡ false → dwelling g ≡ []
unfolding dwelling
no_dwell_is g e = other (is_some g) (DW (worth g) ∷ []) [] e

-- ---- where one pass goes

-- a dwell leads nowhere
dwelling_ends : (g : Option Len) (from : Point) (rs : List Record) → end_of from (dwelling g ++ rs) ≡ end_of from rs
unfolding end_of path_end path_of dwelling
dwelling_ends g from rs =
    elim (is_some g) as (λ s. end_of from ((if s then DW (worth g) ∷ [] else []) ++ rs) ≡ end_of from rs) [ true ↦ refl | false ↦ refl ]

-- the level where a pass leaves the tool
abbrev pub last_level : Hole → Len
last_level h = if is_some h.z then return_level h else h.stood

module _ (h : Hole) (p : Point) where
  up_ends : (b : Return) → end_of (at_height p h.r) (up_under b h p) ≡ at_height p (level_for b h)
  unfolding end_of path_end path_of up_under level_for
  up_ends ToInitial = refl
  up_ends ToR = refl

  leaving_ends : (cycle : Cycle) (from : Point) → end_of from (leaving cycle h p) ≡ at_height p (return_level h)
  unfolding end_of path_end path_of leaving return_level
  leaving_ends G81 from = refl
  leaving_ends G82 from = refl
  leaving_ends G85 from = up_ends h.back
  leaving_ends G89 from = up_ends h.back

  pub ends_with_z : (level : Len) (from : Point) → is_some h.z ≡ true → end_of from (pass_to h level p) ≡ at_height p (return_level h)
  unfolding end_of path_end path_of
  ends_with_z level from e =
      ap (end_of from) (with_z h level p e)
      ∙ dwelling_ends h.dwell (at_height p (worth h.z)) (leaving h.cycle h p)
      ∙ leaving_ends h.cycle (at_height p (worth h.z))

  pub ends_without_z : (level : Len) (from : Point) → is_some h.z ≡ false → end_of from (pass_to h level p) ≡ at_height p h.stood
  unfolding end_of path_end path_of
  ends_without_z level from e = ap (end_of from) (without_z h level p e)

  pub ends_at : (level : Len) (from : Point) → end_of from (pass_to h level p) ≡ at_height p (last_level h)
  ends_at level from = by (is_some h.z) refl
    where
      by : (s : Bool) → is_some h.z ≡ s → end_of from (pass_to h level p) ≡ at_height p (last_level h)
      by true e = ends_with_z level from e ∙ ap (at_height p) (sym (chosen (is_some h.z) (return_level h) h.stood e))
      by false e = ends_without_z level from e ∙ ap (at_height p) (sym (other (is_some h.z) (return_level h) h.stood e))

-- ---- how passes follow each other

-- the height that a pass comes from decides nothing
module _ (h : Hole) (p : Point) (l : Len) where
  up_place : (b : Return) → up_under b h (at_height p l) ≡ up_under b h p
  unfolding up_under at_height
  up_place ToInitial = refl
  up_place ToR = refl

  leaving_place : (cycle : Cycle) → leaving cycle h (at_height p l) ≡ leaving cycle h p
  unfolding leaving at_height
  leaving_place G81 = refl
  leaving_place G82 = refl
  leaving_place G85 = rw (up_place h.back)
  leaving_place G89 = rw (up_place h.back)

  pass_place : (level : Len) → pass_to h level (at_height p l) ≡ pass_to h level p
  unfolding pass_to at_height
  pass_place level = rw (leaving_place h.cycle)

-- nor does the Z of the block: other values with the same X and Y lead to the same passes
abbrev pub with_place : Values → Values → Values
with_place v w =
    record {
      x = v.x;
      y = v.y;
      z = w.z;
      i = w.i;
      j = w.j;
      k = w.k;
      r = w.r;
      p = w.p;
      f = w.f;
      s = w.s;
    }

module _ (h : Hole) (d : Distance) (origin : Point) (v : Values) where
  pub same_place :
      (w : Values) (k : ℕ) (level : Len) (p : Point) (l : Len)
      → passes_at k h (λ q. target d origin q (with_place v w)) level (at_height p l) ≡ passes_at k h (λ q. target d origin q v) level p
  unfolding passes_at at_height target
  same_place w zero level p l = refl
  same_place w (suc k) level p l =
      let z = aimed d origin.z l w.z in
      ap₂ ◌++◌ (pass_place h (target d origin p v) z level) (same_place w k (return_level h) (target d origin p v) z)
