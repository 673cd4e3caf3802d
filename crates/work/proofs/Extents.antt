-- Where records lead and what they come to, one after the other. Assumes nothing.
use Rattle.terms.proofs.Common.{ℕ, ◌+◌, ◌*◌, ◌≤◌, ◌<◌, ◌≡◌, refl, sym, ◌∙◌, ap, Bool, true, false, ◌&&◌, None, Some, List, [], ◌∷◌, ◌++◌, arith, length, drop, drop_of_length-le, length-append}
use Rattle.lengths.specs.{declared.Len.Len, declared.Point.Point, declared.Travel.Travel, Points.inside}
use Rattle.records.specs.{declared.Record.Record, Layout.kind_of, Layout.kind_length, Layout.room_of, Path.path_of, Path.path_end, Path.end_of, Path.path_stays_in}
use Rattle.records.proofs.Moved.{room_append, kind_few}
use Rattle.arcs.{specs.Arcs.path_stays, specs.Staying.stays_in, proofs.Paths.end_append, proofs.Paths.stays_append}
use Rattle.cycles.specs.declared.Row.{Row, TheVariants.Rapid, TheVariants.Cut, TheVariants.Dwell}
use Rattle.cycles.{specs.Bounds.Stands, specs.Bounds.row_record, proofs.Rows.pass_few}
use Rattle.work.specs.declared.{Pass.Pass, Pass.TheVariants.One, Pass.TheVariants.Drill, Extent.Extent}
use Rattle.work.specs.Work.{rows_of, grown, way_of}

-- ---- what records come to

pub grown_none : (e : Extent) → grown e [] ≡ e
unfolding grown end_of room_of
grown_none e =
    let a : e.room + 0 ≡ e.room = omega arith in
    let b : e.count + 0 ≡ e.count = omega arith in
    rw (a, b)

pub grown_one :
    (e : Extent) (r : Record) {end : Point} {n : ℕ} → end ≡ path_end e.end (path_of r) → n ≡ kind_length (kind_of r)
    → record { end = end; room = e.room + n; count = e.count + 1 } ≡ grown e (r ∷ [])
unfolding grown end_of room_of
grown_one e r f g =
    let a : kind_length (kind_of r) + 0 ≡ kind_length (kind_of r) = omega arith in
    rw (f, g, a)

module _ (t : Travel) (e : Extent) where
  pub way_none : way_of t e [] ≡ Some e
  unfolding way_of path_stays_in
  way_none = ap Some (grown_none e)

  module _ (a b : List Record) where
    pub way_on : stays_in t e.end a ≡ true → way_of t e (a ++ b) ≡ way_of t (grown e a) b
    unfolding way_of grown
    way_on f =
        let r : e.room + room_of (a ++ b) ≡ e.room + room_of a + room_of b = omega (arith, room_append a b) in
        let n : e.count + length (a ++ b) ≡ e.count + length a + length b = omega (arith, length-append a b) in
        rw (stays_append t e.end a b, f, r, n, end_append e.end a b)

    -- the first that leaves the travel decides, whatever follows
    pub way_stops : stays_in t e.end a ≡ false → way_of t e (a ++ b) ≡ None
    unfolding way_of
    way_stops f = rw (stays_append t e.end a b, f)

  module _ (rs : List Record) where
    pub record Comes (x : Extent) : Type 0 where
      pub stays : stays_in t e.end rs ≡ true
      pub is : x ≡ grown e rs

    pub way_ends : {x : Extent} → Some x ≡ way_of t e rs → Comes x
    unfolding way_of
    way_ends {x} f = go (stays_in t e.end rs) refl
      where
        go : (s : Bool) → stays_in t e.end rs ≡ s → Comes x
        go true g =
            let h : Some x ≡ Some (grown e rs) = f ∙ rw g in
            record { stays = g; is = cc }
        go false g =
            let h : Some x ≡ None = f ∙ rw g in
            let no : ◌≡◌ {A = ℕ} 0 1 = cc in
            absurd (omega arith)

    pub way_leaves : None ≡ way_of t e rs → stays_in t e.end rs ≡ false
    unfolding way_of
    way_leaves f = go (stays_in t e.end rs) refl
      where
        go : (s : Bool) → stays_in t e.end rs ≡ s → stays_in t e.end rs ≡ false
        go true g =
            let h : None ≡ Some (grown e rs) = f ∙ rw g in
            let no : ◌≡◌ {A = ℕ} 0 1 = cc in
            absurd (omega arith)
        go false g = g

-- ---- one record

one_stays : (t : Travel) (end : Point) (r : Record) → stays_in t end (r ∷ []) ≡ path_stays t end (path_of r)
unfolding path_stays_in
one_stays t end r = go (path_stays t end (path_of r))
  where
    go : (b : Bool) → (b && true) ≡ b
    go true = refl
    go false = refl

module _ (t : Travel) (e : Extent) (r : Record) where
  pub one_leaves : path_stays t e.end (path_of r) ≡ false → None ≡ way_of t e (r ∷ [])
  unfolding way_of
  one_leaves f = rw (one_stays t e.end r, f)

  pub one_ends :
      path_stays t e.end (path_of r) ≡ true → {end : Point} {n : ℕ} → end ≡ path_end e.end (path_of r) → n ≡ kind_length (kind_of r)
      → Some (record { end = end; room = e.room + n; count = e.count + 1 }) ≡ way_of t e (r ∷ [])
  unfolding way_of
  one_ends f g k = rw (one_stays t e.end r, f) (ap Some (grown_one e r g k))

-- ---- one pass, record by record

-- the tool is at a point after the first i records, which take some bytes: what is left leads to where all lead
pub record Tested (t : Travel) (e : Extent) (rs : List Record) (i : ℕ) (end : Point) (room : ℕ) : Type 0 where
  pub most : i ≤ length rs
  pub little : room ≤ e.room + 27 * i
  pub way : way_of t e rs ≡ way_of t (record { end = end; room = room; count = e.count + i }) (drop i rs)

module _ (t : Travel) (e : Extent) (rs : List Record) where
  pub tested_starts : Tested t e rs 0 e.end e.room
  tested_starts =
      record {
        most = omega arith;
        little = omega arith;
        way = let n : e.count + 0 ≡ e.count = omega arith in rw n;
      }

  module _ (i : ℕ) {end : Point} {room : ℕ} (h : Tested t e rs i end room) where
    abbrev so_far : Extent
    so_far = record { end = end; room = room; count = e.count + i }

    pub tested_ends : {n : ℕ} → n ≡ length rs → n ≤ i → Some (record { end = end; room = room; count = e.count + n }) ≡ way_of t e rs
    tested_ends {n} f g =
        let same : i ≡ n = omega (arith, f, g, h.most) in
        let gone : drop i rs ≡ [] = drop_of_length-le rs {i = i} (omega (arith, f, g)) in
        rw (← same) (sym (h.way ∙ rw gone (way_none t so_far)))

    module _ {r : Record} (s : Stands rs i r) where
      pub tested_leaves : path_stays t end (path_of r) ≡ false → None ≡ way_of t e rs
      tested_leaves f = sym (h.way ∙ rw s (way_stops t so_far (r ∷ []) (drop (i + 1) rs) (one_stays t end r ∙ f)))

      pub tested_next :
          path_stays t end (path_of r) ≡ true → i < length rs → {end' : Point} {n : ℕ} → end' ≡ path_end end (path_of r) → n ≡ kind_length (kind_of r)
          → Tested t e rs (i + 1) end' (room + n)
      tested_next f some g k =
          record {
            most = omega (arith, some);
            little = omega (arith, h.little, k, kind_few r);
            way =
                let more : e.count + i + 1 ≡ e.count + (i + 1) = omega arith in
                h.way ∙ rw s (way_on t so_far (r ∷ []) (drop (i + 1) rs) (one_stays t end r ∙ f))
                ∙ ap (λ (x : Extent). way_of t x (drop (i + 1) rs)) (sym (grown_one so_far r g k) ∙ rw more);
          }

-- a record of a hole is no arc: its path stays where it ends inside
pub row_stays :
    (t : Travel) (end : Point) → inside t end ≡ true → (row : Row)
    → path_stays t end (path_of (row_record row)) ≡ inside t (path_end end (path_of (row_record row)))
unfolding path_stays path_of path_end
row_stays t end h (Rapid p) = refl
row_stays t end h (Cut p feed) = refl
row_stays t end h (Dwell ms) = sym h

-- a pass has six records at most
pub rows_few : (pass : Pass) (level : Len) (to : Point) → length (rows_of pass level to) ≤ 6
unfolding rows_of
rows_few (One r) level to = omega arith
rows_few (Drill h) level to = pass_few h level to
