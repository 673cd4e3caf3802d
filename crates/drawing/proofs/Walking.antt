-- Reading a list record by record, as the loops do it. Assumes nothing.
use Rattle.terms.proofs.Common.{ℕ, zero, suc, ◌+◌, ◌-◌, ◌≤◌, ◌≡◌, refl, ap, ◌∙◌, Bool, List, [], ◌∷◌, arith, length}
use denote.Enum.Declared.{tag_of}
use types.Run.{OneOf, miss}
use Rattle.records.specs.declared.{Record.Record, Listed.Listed, Listed.TheVariants.Next, Listed.TheVariants.End, Listed.TheVariants.Faulty}
use Rattle.records.{specs.Path.path_of, specs.Path.path_end, specs.contracts.Listed.the_type, proofs.Again.read_on}
use Rattle.records.specs.Reading.{read_at, read_all, onward, after, trail, Trail}
use Rattle.lengths.specs.declared.Point.{Point}
use Rattle.svg.{specs.declared.View.View, specs.Text.Fills, proofs.Filled.fills_then, proofs.Filled.fills_none}
use Rattle.drawing.specs.{Shapes.drawn, Shapes.path, Walks.records_from, Walks.end_from}

module _ (l : List ℕ) where
  -- as many steps as there are bytes left are enough, and more change nothing
  enough : (m n at : ℕ) → length l ≤ at + m → length l ≤ at + n → read_all m l at ≡ read_all n l at
  unfolding read_all onward
  enough zero zero at h k = refl
  enough zero (suc n) at h k = by (read_at l at) refl
    where
      by : (x : Listed) → read_at l at ≡ x → trail [] x ≡ onward x (read_all n l)
      by (Next r next) e = let f = read_on l at r next e in absurd (omega arith)
      by End e = refl
      by (Faulty fault place) e = refl
  enough (suc m) zero at h k = by (read_at l at) refl
    where
      by : (x : Listed) → read_at l at ≡ x → onward x (read_all m l) ≡ trail [] x
      by (Next r next) e = let f = read_on l at r next e in absurd (omega arith)
      by End e = refl
      by (Faulty fault place) e = refl
  enough (suc m) (suc n) at h k = by (read_at l at) refl (λ next f g. enough m n next f g)
    where
      by :
          (x : Listed) → read_at l at ≡ x
          → ((next : ℕ) → length l ≤ next + m → length l ≤ next + n → read_all m l next ≡ read_all n l next)
          → onward x (read_all m l) ≡ onward x (read_all n l)
      by (Next r next) e rest = let f = read_on l at r next e in ap (after (r ∷ [])) (rest next (omega arith) (omega arith))
      by End e rest = refl
      by (Faulty fault place) e rest = refl

  -- one step from a place where a record stands
  one : (m at : ℕ) (r : Record) (next : ℕ) → read_at l at ≡ Next r next → read_all (suc m) l at ≡ after (r ∷ []) (read_all m l next)
  unfolding read_all onward
  one m at r next e = rw e

  step : (at : ℕ) (r : Record) (next : ℕ) → read_at l at ≡ Next r next → read_all (length l - at) l at ≡ after (r ∷ []) (read_all (length l - next) l next)
  step at r next e =
      let f = read_on l at r next e in
      let m = length l - at - 1 in
      let g : length l - at ≡ suc (length l - at - 1) = omega arith in
      ap (λ (n : ℕ). read_all n l at) g ∙ one m at r next e ∙ ap (after (r ∷ [])) (enough m (length l - next) next (omega arith) (omega arith))

  -- no step from a place where none stands
  stopped : (at k : ℕ) → OneOf (1 ∷ 2 ∷ []) (tag_of the_type (read_at l at)) → read_all k l at ≡ trail [] (read_at l at)
  unfolding read_all onward
  stopped at zero h = refl
  stopped at (suc k) h = by (read_at l at) h
    where
      by : (x : Listed) → OneOf (1 ∷ 2 ∷ []) (tag_of the_type x) → onward x (read_all k l) ≡ trail [] x
      by (Next r next) g = absurd (miss (1 ∷ 2 ∷ []) 0 tt g)
      by End g = refl
      by (Faulty fault place) g = refl

  pub records_next : (at : ℕ) {r : Record} {next : ℕ} → read_at l at ≡ Next r next → records_from l at ≡ r ∷ records_from l next
  unfolding records_from
  records_next at {r} {next} e = ap (λ (t : Trail). t.records) (step at r next e)

  pub end_next : (at : ℕ) {r : Record} {next : ℕ} → read_at l at ≡ Next r next → end_from l at ≡ end_from l next
  unfolding end_from
  end_next at {r} {next} e = ap (λ (t : Trail). t.last) (step at r next e)

  pub records_none : (at : ℕ) → OneOf (1 ∷ 2 ∷ []) (tag_of the_type (read_at l at)) → records_from l at ≡ []
  unfolding records_from
  records_none at h = ap (λ (t : Trail). t.records) (stopped at (length l - at) h)

  pub end_here : (at : ℕ) → OneOf (1 ∷ 2 ∷ []) (tag_of the_type (read_at l at)) → end_from l at ≡ read_at l at
  unfolding end_from
  end_here at h = ap (λ (t : Trail). t.last) (stopped at (length l - at) h)

module _ (l : List ℕ) (view : View) (rapids : Bool) (from : Point) where
  -- a record drawn, and then the rest of the path
  pub path_on :
      {out mid is : List ℕ} {next k last : ℕ} (place : ℕ) {r : Record} {after' : ℕ} {from' : Point}
      → read_at l place ≡ Next r after'
      → Fills out next (drawn view rapids from r) mid k
      → from' ≡ path_end from (path_of r)
      → Fills mid k (path view rapids from' (records_from l after')) is last
      → Fills out next (path view rapids from (records_from l place)) is last
  unfolding path
  path_on place e p g q = rw (records_next l place e, ← g) (fills_then p q)

  pub path_end_lem :
      (out : List ℕ) (next place : ℕ) → OneOf (1 ∷ 2 ∷ []) (tag_of the_type (read_at l place))
      → Fills out next (path view rapids from (records_from l place)) out next
  unfolding path
  path_end_lem out next place h = rw (records_none l place h) (fills_none out next)
