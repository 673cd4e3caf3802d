-- Demand 3, both halves, of the whole and of the first n blocks where the program ends within them. In the frame of the common
-- offset the two setups have the same start and the same computation, and differ in the travel alone.
use Rattle.std.specs.Prelude.{if◌then◌else◌}
use Rattle.terms.proofs.Common.{ℕ, zero, suc, ◌≤◌, ◌≡◌, refl, sym, ◌∙◌, ap, subst, Bool, true, false, false≢true, ◌&&◌, ◌⊎◌, inl, inr, ⊎_elim, List, [], ◌∷◌, ◌++◌, map, append-nil, arith, length, length-map}
use Rattle.terms.{proofs.Laws.both_left, proofs.Laws.both_right}
use Rattle.lengths.{specs.Units.len, specs.declared.Point.Point, specs.Points.moved, specs.Points.moved_back, proofs.Ring.shift}
use Rattle.refusals.specs.declared.{Refusal.Refusal, Refusal.TheVariants.LeavesTravel, Place.Place}
use Rattle.refusals.specs.{Numbers.number_of, Answers.refused_with, Answers.report_of, declared.Answer.TheVariants.Done}
use Rattle.setup.specs.declared.{Axes.Axes, Setup.Setup}
use Rattle.setup.specs.{Limits.valid_setup, Frame.point_of, Frame.offset, Frame.start_of, Frame.bed_of, Frame.origin_at, Frame.switch_on, declared.Bed.Bed, Fair.Fair}
use Rattle.records.specs.{declared.Record.Record, Path.end_of, Path.path_stays_in, Path.record_moved}
use Rattle.settings.specs.{declared.State.State, Settings.first_state, Settings.state_moved}
use Rattle.blocks.specs.{Machine.machine_of, declared.Control.Control, Exec.Verdict, Exec.refused, Exec.accepted, Reach.Reachable}
use Rattle.blocks.specs.declared.Control.TheVariants.{On, Call, Back, Stop}
use Rattle.lines.specs.Blocks.{Block}
use Rattle.programs.specs.Openings.{place_of}
use Rattle.runs.specs.declared.Budget.{Budget, TheVariants.Whole, TheVariants.First}
use Rattle.runs.specs.Run.{first_of, outcome, records_of, answer_by, answer_of, standing_of}
use Rattle.runs.specs.Walk.{Job, How, unfinished, refused_at, Outcome, nowhere, verdict_on}
use Rattle.runs.proofs.Starting.{first_reached, start_is}
use Rattle.claims.specs.Travel.{in_travel}
use Rattle.claims.specs.Blockwise.{BlockDone, Stand, Turn, refuses, past, led, turn_by, verdict_in, turn_at, not_yet, at_refusal, Sofar, after_turn, one_more, more, records_by, how_sofar, next_sofar, outcome_sofar, job_for, begun, first_blocks}
use Rattle.claims.specs.Displaced.{displaced, all_moved, standing_moved, stay_in, LeavesFirst}
use Rattle.claims.proofs.{Verdicts.other_tests, Verdicts.accepts, Verdicts.twin, Answers.one_later, Answers.still_open, Answers.Allows, Answers.allowed}
use Rattle.claims.proofs.Turns.{done_with, with_machine, turn_cases, led_cases, Over, open_or_over, open_turn, one_over, records_last}
use Rattle.claims.proofs.Runs.{Suits, gives, first_n, suited, how_first, reach_kept, begun_with}
use Rattle.claims.proofs.Travel.{state_twice, records_twice, stays_both, run_stayed, same_stays}
use Rattle.setup.proofs.Valid as Valid

-- ---- one block on two machines that differ in their tests alone

module _ (bed : Bed) (fair : Fair bed) (fits : Record → Bool) (stays : Point → Record → Bool) (job : Job) (st : Stand) where
  abbrev job₁ : Job
  job₁ = with_machine (other_tests bed fits stays) job

  abbrev job₂ : Job
  job₂ = with_machine (machine_of bed) job

  -- a turn that executes a block, and what the bed's machine does there: the same, or it refuses for travel
  record Deed (t : Turn) : Type 0 where
    block : BlockDone
    adds : (x : Sofar) → (after_turn x t).executed ≡ x.executed ++ block ∷ []
    second :
        Reachable bed st.state → (u : Bool) → path_stays_in (machine_of bed).stays st.state.at block.made ≡ u
        → turn_at job₂ st ≡ (if u then t else refuses LeavesTravel (place_of block.block))

  by_path :
      (u : Bool) (b : Block) (bs : List Block) (s : State) (control : Control) (made : List Record)
      → turn_by (if u then accepted s control made else refused (record { refusal = LeavesTravel; byte = b.start })) job₂ st b bs
      ≡ (if u then led control job₁ (past st bs s made) (done_with b made) else refuses LeavesTravel (place_of b))
  unfolding turn_by led
  by_path true b bs s On made = refl
  by_path true b bs s (Call n) made = refl
  by_path true b bs s Back made = refl
  by_path true b bs s Stop made = refl
  by_path false b bs s control made = refl

  abbrev Refuses : Turn → Type 0
  Refuses t = (r : Refusal) × (place : Place) × (t ≡ refuses r place)

  twin_turn : Refuses (turn_at job₁ st) ⊎ Deed (turn_at job₁ st)
  unfolding verdict_in verdict_on after_turn turn_by path_stays_in
  twin_turn =
      turn_cases (λ t. Refuses t ⊎ Deed t) job₁ st (λ place e. inl (_, _, refl)) (λ b bs blame e v. inl (_, _, refl))
      (λ b bs e k.
      inr
      (record {
        block = done_with b [];
        adds = λ x. refl;
        second = λ reach u path. rw (← path) (k (machine_of bed));
      }))
      (λ b bs s control made e v k.
      inr
      (record {
        block = done_with b made;
        adds = λ x.
            led_cases (λ t. (after_turn x t).executed ≡ x.executed ++ done_with b made ∷ []) job₁ _ _ (λ ahead callers. refl) refl control;
        second = λ reach u path.
            k (machine_of bed)
            ∙ ap (λ (w : Verdict). turn_by w job₂ st b bs) (twin bed fair fits stays reach (accepts job₁ st b v) u path)
            ∙ by_path u b bs s control made;
      }))

-- ---- the two setups in the frame

module _ (by : Axes) (s : Setup) where
  abbrev t : Setup
  t = displaced by s

  start_same : start_of t ≡ start_of s
  unfolding start_of offset moved_back
  start_same = simp shift

  first_same : first_of t ≡ first_of s
  unfolding first_of
  first_same = ap (λ (p : Point). first_state p (len s.feed) (len s.speed)) start_same

  begun_same : (bytes : List ℕ) (room : ℕ) → valid_setup s ≡ true → valid_setup t ≡ true → begun t bytes room ≡ begun s bytes room
  unfolding begun
  begun_same bytes room v w = rw (v, w, first_same)

  -- records displaced from the first setup's machine units are those of the second
  moved_records : (rs : List Record) → all_moved by (map (record_moved (offset s)) rs) ≡ map (record_moved (offset t)) rs
  unfolding offset moved
  moved_records rs = records_twice (offset s) (point_of by) rs

  moved_settings : (q : State) → state_moved (point_of by) (state_moved (offset s) q) ≡ state_moved (offset t) q
  unfolding offset moved
  moved_settings q = state_twice (offset s) (point_of by) q

  -- and stay in the travel as they do in the frame
  moved_stays :
      (rs : List Record)
      → stay_in t (all_moved by (map (record_moved (offset s)) rs)) ≡ path_stays_in (machine_of (bed_of t)).stays (start_of t) rs
  unfolding stay_in
  moved_stays rs =
      ap (stay_in t) (moved_records rs)
      ∙ ap (λ (p : Point). path_stays_in (in_travel t) p (map (record_moved (offset t)) rs)) (start_is t)
      ∙ same_stays t (start_of t) rs

-- ---- a program that ends under the first setup

refused_over : {z : Sofar} (x : Sofar) (r : Refusal) (place : Place) → z ≡ after_turn x (refuses r place) → Over z
unfolding after_turn
refused_over x r place e k = let f = ap (λ (z : Sofar). z.over) e in let never : ◌≡◌ {A = ℕ} 0 1 = cc in omega arith

-- it ended: it is neither refused nor unfinished
done_ended :
    (how : How) (k count : ℕ) → answer_by how k ≡ Done count
    → (how ≡ unfinished → ⊥) × ((r : Refusal) (place : Place) → how ≡ refused_at r place → ⊥)
unfolding answer_by
done_ended how k count e =
    (λ f. let z : ◌≡◌ {A = ℕ} 0 1 = cc (rw f at e) in omega arith, λ r place f. let z : ◌≡◌ {A = ℕ} 0 1 = cc (rw f at e) in omega arith)

fewer_allowed : (budget : Budget) (m n : ℕ) (x : Sofar) → m ≤ n → Suits budget n x → Allows m budget
fewer_allowed Whole m n x h a = tt
fewer_allowed (First k) m n x h a = omega arith

module _ (by : Axes) (s : Setup) (bytes : List ℕ) (room : ℕ)
    (v : valid_setup s ≡ true) (w : valid_setup (displaced by s) ≡ true) (six : length s.origins ≡ 6)
    (budget : Budget) (count : ℕ) (done : answer_of s bytes room budget ≡ Done count)
  where
    abbrev second : Setup
    second = displaced by s

    abbrev x : ℕ → Sofar
    x = first_blocks s bytes room

    abbrev y : ℕ → Sofar
    y = first_blocks second bytes room

    abbrev there : Point → List Record → Bool
    there = path_stays_in (machine_of (bed_of second)).stays

    run : (n : ℕ) × Suits budget n (x n)
    run = suited s bytes room budget

    abbrev n : ℕ
    n = run.0

    -- the records of the first blocks, displaced, stay where they do in the frame
    abbrev stays : ℕ → Bool
    stays k = there (start_of second) (records_by (x k).executed)

    gives_stays :
        (b : Budget) (k : ℕ) → Suits b k (x k) → stay_in second (all_moved by (records_of s bytes room b)) ≡ stays k
    unfolding records_of outcome_sofar
    gives_stays b k suits =
        moved_stays by s (outcome s bytes room b).made
        ∙ ap (λ (o : Outcome). there (start_of second) o.made) (gives s bytes room k b suits)

    never_refused : (k : ℕ) → k ≤ n → (r : Refusal) (place : Place) → (x k).over ≡ at_refusal r place → ⊥
    unfolding answer_of how_sofar
    never_refused k few r place e =
        let how : (outcome s bytes room (First k)).how ≡ refused_at r place = how_first s bytes room k ∙ ap how_sofar e in
        let same =
        allowed s bytes room k budget (fewer_allowed budget k n (x n) few run.1)
        (λ open'. let z : ◌≡◌ {A = ℕ} 0 1 = cc in omega arith) in
        (done_ended (outcome s bytes room budget).how _ count done).1 r place (ap (λ (o : Outcome). o.how) same ∙ how)

    reached : (k : ℕ) → y k ≡ x k → Reachable (bed_of second) (x k).stand.state
    unfolding first_blocks job_for
    reached k alike =
        subst (λ (z : Sofar). Reachable (bed_of second) z.stand.state) alike
        (reach_kept (bed_of second) (Valid.fair second w six) (job_for second bytes) k (begun second bytes room)
        (begun_with second bytes room (λ ds q. Reachable (bed_of second) q) (first_reached second w)))

    -- one block more of the first run, and what it is in the second where both stand alike
    record Step (k : ℕ) : Type 0 where
      made : List Record
      adds : records_by (x (suc k)).executed ≡ records_by (x k).executed ++ made
      on : y k ≡ x k → there (x k).stand.state.at made ≡ true → y (suc k) ≡ x (suc k)
      off :
          y k ≡ x k → there (x k).stand.state.at made ≡ false
          → (block : BlockDone) × ((x (suc k)).executed ≡ (x k).executed ++ block ∷ [])
          × (y (suc k) ≡ after_turn (x k) (refuses LeavesTravel (place_of block.block)))

    step : (k : ℕ) → suc k ≤ n → Step k
    unfolding job_for machine_of bed_of origin_at switch_on after_turn path_stays_in
    step k few = go (open_or_over (x k))
      where
        now : x (suc k) ≡ one_more (job_for s bytes) (x k)
        now = one_later s bytes room k

        there_too : y k ≡ x k → y (suc k) ≡ one_more (job_for second bytes) (x k)
        there_too alike = one_later second bytes room k ∙ ap (one_more (job_for second bytes)) alike

        go : ((x k).over ≡ not_yet) ⊎ Over (x k) → Step k
        go (inl under) =
            let turn₁ = now ∙ open_turn (job_for s bytes) (x k) under in
            let turn₂ = open_turn (job_for second bytes) (x k) under in
            ⊎_elim
            (λ no. absurd (never_refused (suc k) few no.0 no.1 (ap (λ (z : Sofar). z.over) (turn₁ ∙ ap (after_turn (x k)) no.2))))
            (λ d.
            let next : (x (suc k)).executed ≡ (x k).executed ++ d.block ∷ [] = ap (λ (z : Sofar). z.executed) turn₁ ∙ d.adds (x k) in
            record {
              made = d.block.made;
              adds = ap records_by next ∙ records_last (x k).executed d.block;
              on = λ alike path. there_too alike ∙ turn₂ ∙ ap (after_turn (x k)) (d.second (reached k alike) true path) ∙ sym turn₁;
              off = λ alike path. (d.block, next, there_too alike ∙ turn₂ ∙ ap (after_turn (x k)) (d.second (reached k alike) false path));
            })
            (twin_turn (bed_of second) (Valid.fair second w six) (machine_of (bed_of s)).fits (machine_of (bed_of s)).stays (job_for s bytes)
            (x k).stand)
        go (inr over) =
            let same = now ∙ one_over (job_for s bytes) (x k) over in
            record {
              made = [];
              adds = ap (λ (z : Sofar). records_by z.executed) same ∙ sym (append-nil (records_by (x k).executed));
              on = λ alike path. there_too alike ∙ one_over (job_for second bytes) (x k) over ∙ sym same;
              off = λ alike path. absurd (false≢true (sym path));
            }

    stays_step : (k : ℕ) (p : Step k) → stays (suc k) ≡ (stays k && there (x k).stand.state.at p.made)
    stays_step k p =
        let at : (x k).stand.state.at ≡ end_of (start_of second) (records_by (x k).executed) =
        (run_stayed s bytes room k).ends ∙ ap (λ (q : Point). end_of q (records_by (x k).executed)) (sym (start_same by s)) in
        ap (there (start_of second)) p.adds
        ∙ stays_both (machine_of (bed_of second)).stays (start_of second) (records_by (x k).executed) p.made
        ∙ ap (λ (q : Point). stays k && there q p.made) (sym at)

    -- both run alike as long as the displaced path stays
    alike : (k : ℕ) → k ≤ n → stays k ≡ true → y k ≡ x k
    unfolding first_blocks more
    alike zero few e = begun_same by s bytes room v w
    alike (suc k) few e =
        let p = step k few in
        let both = sym (stays_step k p) ∙ e in
        p.on (alike k (omega arith) (both_left (stays k) _ both)) (both_right (stays k) _ both)

    -- and there is a first block at which it does not
    parting : (k : ℕ) → stays k ≡ false → (m : ℕ) × (suc m ≤ k) × (stays m ≡ true) × (stays (suc m) ≡ false)
    unfolding first_blocks more records_by path_stays_in
    parting zero e =
        absurd (false≢true (sym e ∙ begun_with s bytes room (λ ds q. there (start_of second) (records_by ds) ≡ true) refl))
    parting (suc k) e = go (stays k) refl (parting k)
      where
        go :
            (t : Bool) → stays k ≡ t → (stays k ≡ false → (m : ℕ) × (suc m ≤ k) × (stays m ≡ true) × (stays (suc m) ≡ false))
            → (m : ℕ) × (suc m ≤ suc k) × (stays m ≡ true) × (stays (suc m) ≡ false)
        go true f before = (k, omega arith, f, e)
        go false f before = let r = before f in (r.0, omega (arith, r.1), r.2, r.3)

    -- where so many blocks, which are not more, bring the second setup's run to its end or to a refusal, they give its outcome
    second_gives :
        (m : ℕ) → m ≤ n → Over (y m) → outcome second bytes room budget ≡ outcome_sofar (job_for second bytes) (y m)
    second_gives m few over =
        allowed second bytes room m budget (fewer_allowed budget m n (x n) few run.1) (λ e. over (still_open second bytes room m e))
        ∙ first_n second bytes room m

    second_told :
        (how : How) (made : List Record) (last : State) (next : Place)
        → outcome second bytes room budget ≡ record { how = how; made = made; last = last; next = next }
        → (records_of second bytes room budget ≡ all_moved by (map (record_moved (offset s)) made))
        × (standing_of second bytes room budget ≡ record { state = state_moved (point_of by) (state_moved (offset s) last); next = next })
    unfolding records_of standing_of
    second_told how made last next e = (rw e (sym (moved_records by s made)), rw (e, moved_settings by s last))

    -- where the second setup's run is refused at the first block that leaves the travel
    leaves_first :
        (m : ℕ) → suc m ≤ n → stays m ≡ true → stays (suc m) ≡ false
        → (block : BlockDone) → (x (suc m)).executed ≡ (x m).executed ++ block ∷ []
        → y (suc m) ≡ after_turn (x m) (refuses LeavesTravel (place_of block.block)) → LeavesFirst by s bytes room budget
    unfolding answer_of records_of answer_by standing_of outcome_sofar how_sofar next_sofar after_turn
    leaves_first m few stay leave block next refused-there =
        let o = outcome s bytes room (First m) in
        let is : outcome second bytes room budget
        ≡ record { how = refused_at LeavesTravel (place_of block.block); made = o.made; last = o.last; next = nowhere } =
        rw (first_n s bytes room m)
        (second_gives (suc m) few (refused_over (x m) LeavesTravel (place_of block.block) refused-there)
        ∙ ap (outcome_sofar (job_for second bytes)) refused-there) in
        record {
          before = m;
          block = block;
          executed = next;
          stays = gives_stays (First m) m refl ∙ stay;
          leaves = gives_stays (First (suc m)) (suc m) refl ∙ leave;
          answer =
              ap (λ (o : Outcome). report_of (answer_by o.how (length o.made))) is
              ∙ ap (refused_with (number_of LeavesTravel) (place_of block.block)) (sym (length-map o.made (record_moved (offset s))));
          records = (second_told _ o.made o.last nowhere is).0;
          standing = (second_told _ o.made o.last nowhere is).1;
        }

    leaves_at : (m : ℕ) → suc m ≤ n → stays m ≡ true → stays (suc m) ≡ false → LeavesFirst by s bytes room budget
    leaves_at m few stay leave =
        let p = step m few in
        let path = ap (◌&& there (x m).stand.state.at p.made) (sym stay) ∙ sym (stays_step m p) ∙ leave in
        let off = p.off (alike m (omega arith) stay) path in
        leaves_first m few stay leave off.0 off.1 off.2

    -- where both run alike to the end
    second_same : y n ≡ x n → outcome second bytes room budget ≡ outcome s bytes room budget
    unfolding answer_of outcome_sofar job_for how_sofar
    second_same same =
        let all = gives s bytes room n budget run.1 in
        second_gives n (omega arith)
        (λ e.
        (done_ended (outcome s bytes room budget).how _ count done).0
        (ap (λ (o : Outcome). o.how) all ∙ ap (λ (z : Sofar). how_sofar z.over) (sym same) ∙ ap how_sofar e))
        ∙ ap (outcome_sofar (job_for s bytes)) same
        ∙ sym all

    -- ---- the two halves, for every budget with which the program ends under the first

    -- "If a program ends under the first, and its whole path, so displaced, stays in the travel as document 01 measures it, it
    -- ends under the second with the same records, all points and arc centres displaced and every other number equal." It stands
    -- there with the same settings, their point displaced.
    pub moves_the_cut :
        stay_in (displaced by s) (all_moved by (records_of s bytes room budget)) ≡ true
        → (answer_of (displaced by s) bytes room budget ≡ Done count)
        × (records_of (displaced by s) bytes room budget ≡ all_moved by (records_of s bytes room budget))
        × (standing_of (displaced by s) bytes room budget ≡ standing_moved by (standing_of s bytes room budget))
    unfolding answer_of records_of standing_of
    moves_the_cut stay =
        let o = outcome s bytes room budget in
        let is = second_same (alike n (omega arith) (sym (gives_stays budget n run.1) ∙ stay)) in
        let told = second_told o.how o.made o.last o.next is in
        (ap (λ (o : Outcome). answer_by o.how (length o.made)) is ∙ done, told.0, told.1)

    -- "If it ends under the first and that path does not stay, the second refuses for travel at the first executed block whose
    -- displaced path leaves it, with the earlier records displaced."
    pub refuses_for_travel :
        stay_in (displaced by s) (all_moved by (records_of s bytes room budget)) ≡ false → LeavesFirst by s bytes room budget
    refuses_for_travel leave = let m = parting n (sym (gives_stays budget n run.1) ∙ leave) in leaves_at m.0 m.1 m.2 m.3
