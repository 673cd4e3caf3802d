-- How large the values of a block's words are, none of them being refused: each is within the limit of its letter's use. Assumes
-- nothing.
use Rattle.std.specs.Prelude.{if◌then◌else◌}
use Rattle.terms.proofs.Common.{ℕ, ◌≤◌, min, ◌≡◌, refl, ◌∙◌, ap, Bool, true, false, not, ◌&&◌, Option, None, Some, List, [], ◌∷◌, arith, leb, eqb, ℤ, pos, lt_z, leb-true, eqb-true}
use Rattle.terms.specs.Terms.{byte, bytes, first, lookup, between}
use Rattle.terms.proofs.Laws.{both_left, both_right, every_place, every_place_lem}
use Rattle.lengths.{specs.declared.Len.Len, specs.Units.len, specs.View.Within, proofs.Tests.between_near}
use Rattle.codes.specs.declared.Cycle.{Cycle, TheVariants.G81, TheVariants.G82, TheVariants.G85, TheVariants.G89}
use Rattle.codes.specs.declared.{Motion.Motion, Plane.Plane, Plane.TheVariants.G17, Plane.TheVariants.G18, Plane.TheVariants.G19, Unit.Unit}
use Rattle.codes.specs.declared.Motion.TheVariants.{Off, G00, G01, G02, G03, Drilling}
use Rattle.words.specs.declared.{Number.Number, Word.Word, Use.Use, Values.Values}
use Rattle.words.specs.Values.{is_plain, signed, count_of, value_of, worth, no_values}
use Rattle.words.proofs.Bounds.{tested, length_near, feed_near, dwell_between}
use Rattle.words.specs.declared.Use.TheVariants.{Nothing, Codes, Label, Program, Length, Feed, Speed, Dwell, Count}
use Rattle.settings.specs.declared.Modes.{Modes}
use Rattle.letters.specs.{declared.Speeds.Speeds, declared.BlockCode.BlockCode, Sizes.Sizes}
use Rattle.letters.specs.declared.BlockCode.TheVariants.{Calling, Returning, Dwelling, Moving}
use Rattle.letters.specs.Letters.{end_letters, centre_letters, arc_letters, drilling_letters, motion_letters, letters_of, use_of, word_value, is_bad, first_bad_value, with_value, values_after, values_of}

-- ---- by a letter's use

-- no value of this use is more than n away from 0; a label and a program's number are bound by their digits alone
abbrev limits : ℕ → Use → Bool
limits n Nothing = true
limits n Codes = true
limits n Label = false
limits n Program = false
limits n Length = leb 1_000_000_000 n
limits n Feed = leb 1_000_000_000 n
limits n Speed = leb 99_999 n
limits n Dwell = leb 3_600_000 n
limits n Count = leb 9_999 n

count_near : (n : Number) → Within 9_999 (pos (count_of n))
unfolding count_of
count_near n =
    elim (lt_z (signed n.sign n.digits) (pos 0)) as (λ t. Within 9_999 (pos (if t then 0 else min n.digits 9_999)))
    [ true ↦ omega arith | false ↦ omega arith ]

more_within : {m n : ℕ} (z : ℤ) → leb m n ≡ true → Within m z → Within n z
more_within {m} {n} z e h = let f : m ≤ n = leb-true m n e in omega arith

module _ (u : Unit) (lowest highest : ℤ) (low : Within 99_999 lowest) (high : Within 99_999 highest) (n : ℕ) (number : Number) (v : Len) where
  speed_near : value_of u lowest highest Speed number ≡ Some v → Within 99_999 v.v
  unfolding value_of
  speed_near e =
      let z = pos number.digits in
      let t = tested (is_plain number && between lowest highest z) z v e in
      rw t.is (between_near 99_999 lowest highest z low high (both_right (is_plain number) (between lowest highest z) t.passed))

  counted_near : value_of u lowest highest Count number ≡ Some v → Within 9_999 v.v
  unfolding value_of
  counted_near e =
      let t = tested (not number.point) (pos (count_of number)) v e in
      rw t.is (count_near number)

  dwell_near : value_of u lowest highest Dwell number ≡ Some v → Within 3_600_000 v.v
  dwell_near e =
      between_near 3_600_000 (pos 0) (pos 3_600_000) v.v (omega arith) (omega arith)
      (dwell_between u lowest highest number v e)

  nothing_near : Some (len (pos 0)) ≡ Some v → Within n v.v
  nothing_near e = let f : v ≡ len (pos 0) = cc in rw f (omega arith)

  never : false ≡ true → Within n v.v
  never e = let no : ◌≡◌ {A = ℕ} 0 1 = cc in absurd (omega arith)

  limited : (meaning : Use) → limits n meaning ≡ true → value_of u lowest highest meaning number ≡ Some v → Within n v.v
  unfolding value_of
  limited Nothing h e = nothing_near e
  limited Codes h e = nothing_near e
  limited Label h e = never h
  limited Program h e = never h
  limited Length h e = more_within v.v h (length_near u lowest highest number v e)
  limited Feed h e = more_within v.v h (feed_near u lowest highest number v e).0
  limited Speed h e = more_within v.v h (speed_near e)
  limited Dwell h e = more_within v.v h (dwell_near e)
  limited Count h e = more_within v.v h (counted_near e)

-- ---- by a letter, word after word

module _ (speeds : Speeds) (m : Modes) (code : BlockCode) (low : Within 99_999 speeds.lowest.v) (high : Within 99_999 speeds.highest.v) where
  -- one value of a block, `get`, is that of the letter k
  module _
      (get : Values → Option Len) (k n : ℕ)
      (is : (v : Values) (letter : ℕ) (g : Option Len) → get (with_value v letter g) ≡ (if eqb letter k then g else get v))
      (fits : limits n (use_of code m.plane k) ≡ true)
    where
      chosen_near :
          (letter : ℕ) (g old : Option Len) → (letter ≡ k → Within n (worth g).v) → Within n (worth old).v
          → Within n (worth (if eqb letter k then g else old)).v
      chosen_near letter g old new was = go (eqb letter k) refl
        where
          go : (t : Bool) → eqb letter k ≡ t → Within n (worth (if t then g else old)).v
          go true e = new (eqb-true letter k e)
          go false e = was

      word_near : (w : Word) (x : Len) → word_value speeds m code w ≡ Some x → w.letter ≡ k → Within n x.v
      unfolding word_value
      word_near w x e f =
          limited m.unit speeds.lowest.v speeds.highest.v low high n w.number x (use_of code m.plane w.letter)
          (ap (λ (l : ℕ). limits n (use_of code m.plane l)) f ∙ fits) e

      all_near :
          (ws : List Word) (v : Values) → first_bad_value speeds m code ws ≡ None → Within n (worth (get v)).v
          → Within n (worth (get (values_after v speeds m code ws))).v
      unfolding first_bad_value first values_after is_bad
      all_near [] v e was = was
      all_near (w ∷ ws) v e was = go (word_value speeds m code w) refl e (all_near ws)
        where
          go :
              (x : Option Len) → word_value speeds m code w ≡ x → (if is_bad x then Some w else first_bad_value speeds m code ws) ≡ None
              → ((u : Values) → first_bad_value speeds m code ws ≡ None → Within n (worth (get u)).v → Within n (worth (get (values_after u speeds m code ws))).v)
              → Within n (worth (get (values_after (with_value v w.letter x) speeds m code ws))).v
          go (Some x) f g rest =
              let now : Option Len = Some x in
              rest (with_value v w.letter now) g
              (rw (is v w.letter now) (chosen_near w.letter now (get v) (word_near w x f) was))
          go None f g rest = let no : ◌≡◌ {A = ℕ} 0 1 = cc in absurd (omega arith)

-- ---- what each letter means in a block

-- how far from 0 the value of a letter can be: P as a dwell, and any other but S as a length
abbrev limit_for : ℕ → ℕ
limit_for letter = if eqb letter (byte "S") then 99_999 else (if eqb letter (byte "P") then 3_600_000 else 1_000_000_000)

module _ (code : BlockCode) (plane : Plane) where
  abbrev keeps : ℕ → ℕ → Bool
  keeps place letter = limits (limit_for letter) (use_of code plane letter)

  -- the letters of all values but P, which calls a program in one code
  abbrev alike : Bool
  alike = every_place keeps 0 (bytes "XYZIJKRFS")

  abbrev alike_p : Bool
  alike_p = every_place keeps 0 (bytes "PXYZIJKRFS")

arc_alike : (plane : Plane) → alike_p (Moving G02) plane ≡ true
unfolding use_of letters_of motion_letters end_letters centre_letters arc_letters lookup
arc_alike G17 = refl
arc_alike G18 = refl
arc_alike G19 = refl

cycle_alike : (cycle : Cycle) (plane : Plane) → alike_p (Moving (Drilling cycle)) plane ≡ true
unfolding use_of letters_of motion_letters drilling_letters lookup
cycle_alike G81 plane = refl
cycle_alike G82 plane = refl
cycle_alike G85 plane = refl
cycle_alike G89 plane = refl

motion_alike : (motion : Motion) (plane : Plane) → alike_p (Moving motion) plane ≡ true
unfolding use_of letters_of motion_letters lookup
motion_alike Off plane = refl
motion_alike G00 plane = refl
motion_alike G01 plane = refl
motion_alike G02 plane = arc_alike plane
motion_alike G03 plane = arc_alike plane
motion_alike (Drilling cycle) plane = cycle_alike cycle plane

code_alike : (code : BlockCode) (plane : Plane) → alike code plane ≡ true
unfolding use_of letters_of lookup
code_alike Calling plane = refl
code_alike Returning plane = refl
code_alike Dwelling plane = refl
code_alike (Moving motion) plane =
    both_right (keeps (Moving motion) plane 0 (byte "P")) (alike (Moving motion) plane) (motion_alike motion plane)

dwell_limits : (plane : Plane) → limits 3_600_000 (use_of Dwelling plane (byte "P")) ≡ true
unfolding use_of letters_of lookup
dwell_limits plane = refl

-- K counts in a cycle
count_limits : (cycle : Cycle) (plane : Plane) → limits 9_999 (use_of (Moving (Drilling cycle)) plane (byte "K")) ≡ true
unfolding use_of letters_of motion_letters drilling_letters lookup
count_limits G81 plane = refl
count_limits G82 plane = refl
count_limits G85 plane = refl
count_limits G89 plane = refl

module _ (speeds : Speeds) (m : Modes) (code : BlockCode) (ws : List Word) where
  pub sizes :
      Within 99_999 speeds.lowest.v → Within 99_999 speeds.highest.v → first_bad_value speeds m code ws ≡ None
      → Sizes code (values_of speeds m code ws)
  unfolding with_value
  sizes low high fine =
      let near = all_near speeds m code low high in
      let at = every_place_lem (keeps code m.plane) (bytes "XYZIJKRFS") (code_alike code m.plane) in
      let dwells : limits 3_600_000 (use_of code m.plane (byte "P")) ≡ true → Within 3_600_000 (worth (values_of speeds m code ws).p).v =
      λ e. near (λ v. v.p) (byte "P") 3_600_000 (λ v l g. refl) e ws no_values fine (omega arith)
      in
      record {
        x = near (λ v. v.x) (byte "X") 1_000_000_000 (λ v l g. refl) (at 0 (omega arith)) ws no_values fine (omega arith);
        y = near (λ v. v.y) (byte "Y") 1_000_000_000 (λ v l g. refl) (at 1 (omega arith)) ws no_values fine (omega arith);
        z = near (λ v. v.z) (byte "Z") 1_000_000_000 (λ v l g. refl) (at 2 (omega arith)) ws no_values fine (omega arith);
        i = near (λ v. v.i) (byte "I") 1_000_000_000 (λ v l g. refl) (at 3 (omega arith)) ws no_values fine (omega arith);
        j = near (λ v. v.j) (byte "J") 1_000_000_000 (λ v l g. refl) (at 4 (omega arith)) ws no_values fine (omega arith);
        k = near (λ v. v.k) (byte "K") 1_000_000_000 (λ v l g. refl) (at 5 (omega arith)) ws no_values fine (omega arith);
        r = near (λ v. v.r) (byte "R") 1_000_000_000 (λ v l g. refl) (at 6 (omega arith)) ws no_values fine (omega arith);
        f = near (λ v. v.f) (byte "F") 1_000_000_000 (λ v l g. refl) (at 7 (omega arith)) ws no_values fine (omega arith);
        s = near (λ v. v.s) (byte "S") 99_999 (λ v l g. refl) (at 8 (omega arith)) ws no_values fine (omega arith);
        dwell = λ e. dwells (rw e (dwell_limits m.plane));
        moving = λ motion e.
            dwells (rw e (both_left (keeps (Moving motion) m.plane 0 (byte "P")) (alike (Moving motion) m.plane) (motion_alike motion m.plane)));
        count = λ cycle e.
            near (λ v. v.k) (byte "K") 9_999 (λ v l g. refl) (rw e (count_limits cycle m.plane)) ws no_values fine (omega arith);
      }
