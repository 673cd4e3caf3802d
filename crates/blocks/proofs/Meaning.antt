-- What the words of a block say in a state that a run can reach: an origin of the table, and values within their limits. Assumes
-- nothing.
use Rattle.std.specs.Prelude.{if◌then◌else◌}
use Rattle.terms.proofs.Common.{ℕ, ◌<◌, ◌≡◌, refl, Bool, true, false, None, List, [], ◌∷◌, eqb, ltb, ltb-true}
use Rattle.terms.{specs.Terms.all, specs.Terms.lookup, proofs.Laws.both_left, proofs.Laws.both_right}
use Rattle.codes.specs.{declared.Code.Code, Codes.g_table, Codes.code_of}
use Rattle.codes.specs.declared.Code.TheVariants.{GroupA, GroupB, GroupC, GroupD, GroupE, GroupF, G04, Unknown}
use Rattle.words.specs.{declared.Word.Word, Values.is_plain}
use Rattle.setup.specs.{declared.Bed.Bed, Fair.Fair}
use Rattle.settings.specs.{declared.Modes.Modes, declared.State.State, Settings.switched}
use Rattle.letters.{specs.Letters.is_g, specs.Letters.code_in, specs.Letters.modes_in, specs.Letters.block_code, specs.Letters.first_bad_value, proofs.Sizes.sizes}
use Rattle.blocks.specs.{Machine.machine_of, Exec.said_by, Reach.Reachable, Reach.Meant}

-- "E: G54 to G59.": a code names an origin of the table, if it names one
abbrev names_origin : Code → Bool
names_origin (GroupA motion) = true
names_origin (GroupB plane) = true
names_origin (GroupC unit) = true
names_origin (GroupD distance) = true
names_origin (GroupE origin) = ltb origin 6
names_origin (GroupF back) = true
names_origin G04 = true
names_origin Unknown = true

found_passes :
    {A : Type 0} (test : A → Bool) (n : ℕ) (rows : List (ℕ × A)) (other : A)
    → all (λ row. test row.1) rows ≡ true → test other ≡ true → test (lookup n rows other) ≡ true
unfolding lookup all
found_passes test n [] other e f = f
found_passes test n (row ∷ rows) other e f =
    go (eqb n row.0) (found_passes test n rows other (both_right (test row.1) (all (λ r. test r.1) rows) e) f)
  where
    go : (t : Bool) → test (lookup n rows other) ≡ true → test (if t then row.1 else lookup n rows other) ≡ true
    go true rest = both_left (test row.1) (all (λ r. test r.1) rows) e
    go false rest = rest

code_names : (w : Word) → names_origin (code_in w) ≡ true
unfolding code_in code_of all
code_names w =
    elim (is_plain w.number) as (λ t. names_origin (if t then code_of w.number.digits else Unknown) ≡ true)
    [ true ↦ found_passes names_origin w.number.digits g_table Unknown refl refl | false ↦ refl ]

switched_kept : (m : Modes) (c : Code) → names_origin c ≡ true → m.origin < 6 → (switched m c).origin < 6
unfolding switched
switched_kept m (GroupA motion) e h = h
switched_kept m (GroupB plane) e h = h
switched_kept m (GroupC unit) e h = h
switched_kept m (GroupD distance) e h = h
switched_kept m (GroupE origin) e h = ltb-true origin 6 e
switched_kept m (GroupF back) e h = h
switched_kept m G04 e h = h
switched_kept m Unknown e h = h

pub origin_kept : (m : Modes) (ws : List Word) → m.origin < 6 → (modes_in m ws).origin < 6
unfolding modes_in
origin_kept m [] h = h
origin_kept m (w ∷ ws) h = origin_kept (if is_g w then switched m (code_in w) else m) ws (one (is_g w))
  where
    one : (t : Bool) → (if t then switched m (code_in w) else m).origin < 6
    one true = switched_kept m (code_in w) (code_names w) h
    one false = h

pub meant :
    (bed : Bed) (s : State) (ws : List Word) → Fair bed → Reachable bed s
    → (let m = modes_in s.modes ws in first_bad_value (machine_of bed).speeds m (block_code m ws) ws ≡ None)
    → Meant (said_by (machine_of bed) s.modes ws)
unfolding said_by machine_of
meant bed s ws fair state fine =
    let m = modes_in s.modes ws in
    record {
      sizes = sizes (machine_of bed).speeds m (block_code m ws) ws fair.lowest fair.highest fine;
      origin = origin_kept s.modes ws state.origin;
    }
