-- The promises tried on small data sets: what each of them asks can be met, and what it says is what the rules compute.
use Rattle.terms.proofs.Common.{ℕ, ◌≡◌, refl, Bool, true, false, false≢true, not, ◌&&◌, ◌||◌, ◌⊎◌, inl, inr, List, [], ◌∷◌, map, arith, eqb-true, eqb-false, eqb, get_or}
use Rattle.terms.{specs.Terms.any, proofs.Laws.every_place_lem}
use Rattle.refusals.specs.{Answers.refused_with, Answers.report_of, declared.Answer.TheVariants.Done}
use Rattle.programs.specs.Openings.{place_of}
use Rattle.lines.specs.Comments.{inside_at}
use Rattle.records.specs.{declared.Listed.TheVariants.End, Layout.list_bytes, Reading.trail, Reading.read_all}
use Rattle.setup.specs.{declared.Setup.Setup, Examples.setup_t}
use Rattle.runs.specs.{Examples.room_t, Examples.sample, Examples.sample_records, Run.answer_of, Run.records_of, Run.standing_of}
use Rattle.runs.specs.declared.Budget.{Budget, TheVariants.Whole, TheVariants.First}
use Rattle.promises.specs.{Duplicates.Twice, Duplicates.NoList, Duplicates.openings_of, Comments.MayBecome, Comments.SameRun, ReadBack.ReadsBack}
use Rattle.promises.specs.Examples.{two_subprograms, first_one, second_one, main_again, main_opening, other_opening, main_number_again, commented, commented_else}
use Rattle.promises.proofs.{Opened.opened, Duplicates.first_duplicate, Comments.comment_bytes_replaced, ReadBack.read_back}

-- ---- two openings of one number

subprograms_twice : Twice (openings_of two_subprograms) second_one
unfolding opened
subprograms_twice =
    record { before = []; first = first_one; between = []; number = 1; are = refl; one = refl; other = refl }

pub subprograms_refused : (room : ℕ) (budget : Budget) → NoList setup_t two_subprograms room budget 8 (place_of second_one)
unfolding opened subprograms_twice
subprograms_refused room budget =
    first_duplicate setup_t two_subprograms room budget [] (1 ∷ []) (omega arith) refl refl refl subprograms_twice
    (record { good = refl; different = refl; few = omega arith })

main_twice : Twice (openings_of main_again) main_number_again
unfolding opened
main_twice =
    record { before = []; first = main_opening; between = other_opening ∷ []; number = 7; are = refl; one = refl; other = refl }

pub main_refused : (room : ℕ) (budget : Budget) → NoList setup_t main_again room budget 8 (place_of main_number_again)
unfolding opened main_twice
main_refused room budget =
    first_duplicate setup_t main_again room budget [] (7 ∷ 20 ∷ []) (omega arith) refl refl refl main_twice
    (record { good = refl; different = refl; few = omega arith })

-- the same by computation alone
pub main_refused_computed : report_of (answer_of setup_t main_again 0 (First 0)) ≡ refused_with 8 (record { block = 6; byte = 17 }) 0
unfolding opened
main_refused_computed = refl

-- ---- comments

-- one test of a byte and its place that tells whether it is the same, or may be replaced so
test : List ℕ → List ℕ → ℕ → ℕ → Bool
test x y i b = eqb b (get_or y i 0) || inside_at false x i && not (any (eqb (get_or y i 0)) (41 ∷ 10 ∷ 13 ∷ []))

tested : (x y : List ℕ) (i b : ℕ) → test x y i b ≡ true → (b ≡ get_or y i 0) ⊎ MayBecome false x i (get_or y i 0)
unfolding test any
tested x y i b = go (eqb b c) (inside_at false x i) (eqb c 41) (eqb c 10) (eqb c 13) refl refl refl refl refl
  where
    c : ℕ
    c = get_or y i 0

    go :
        (same inside paren lf cr : Bool) → eqb b c ≡ same → inside_at false x i ≡ inside → eqb c 41 ≡ paren → eqb c 10 ≡ lf → eqb c 13 ≡ cr
        → (same || inside && not (paren || (lf || (cr || false)))) ≡ true → (b ≡ c) ⊎ MayBecome false x i c
    go true inside paren lf cr e f g h k p = inl (eqb-true b c e)
    go false true false false false e f g h k p =
        inr (record { inside = f; paren = eqb-false c 41 g; lf = eqb-false c 10 h; cr = eqb-false c 13 k })
    go false true false false true e f g h k p = absurd (false≢true p)
    go false true false true cr e f g h k p = absurd (false≢true p)
    go false true true lf cr e f g h k p = absurd (false≢true p)
    go false false paren lf cr e f g h k p = absurd (false≢true p)

-- all of the comment's bytes replaced, whatever the setup is
pub comment_bytes : (s : Setup) (room : ℕ) (budget : Budget) → SameRun s room budget commented commented_else
unfolding opened test
comment_bytes s room budget =
    comment_bytes_replaced s room budget commented commented_else
    (record {
      size = refl;
      each = λ i h. tested commented commented_else i (get_or commented i 0) (every_place_lem (test commented commented_else) commented refl i h);
    })

-- the same by computation; the parenthesis before the comment is not inside it
pub comment_records : records_of setup_t commented room_t Whole ≡ records_of setup_t commented_else room_t Whole
unfolding opened
comment_records = refl

pub comment_standing : standing_of setup_t commented room_t Whole ≡ standing_of setup_t commented_else room_t Whole
unfolding opened
comment_standing = refl

pub comment_answer : map (λ x. answer_of setup_t x room_t Whole) (commented ∷ commented_else ∷ []) ≡ Done 2 ∷ Done 2 ∷ []
unfolding opened
comment_answer = refl

pub before_the_comment : inside_at false commented 11 ≡ false
unfolding opened
before_the_comment = refl

-- ---- the list read back

pub sample_read_back : read_all 20 (list_bytes (records_of setup_t sample room_t Whole)) 0 ≡ trail sample_records End
unfolding opened
sample_read_back = refl

pub sample_reads_back : ReadsBack (records_of setup_t sample room_t Whole) (answer_of setup_t sample room_t Whole) room_t
sample_reads_back = read_back setup_t refl sample room_t Whole
