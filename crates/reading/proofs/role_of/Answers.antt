use Rattle.terms.proofs.Common.{sym, ◌∙◌, ap, Bool, not, ◌||◌, eq-eqb, ne_eqb}
use Rattle.terms.proofs.Laws.{either_left}
use Rattle.reading.proofs.{Seeing.tells_wrong, Seeing.tells_other}
use Rattle.reading.proofs.role_of.Goals as goal

pub code_role-requires : goal.code_role-requires
code_role-requires c = eq-eqb c.args.w.letter 71 c.if-w-eq71.true

pub returns-then-w-eq71 : goal.returns-then-w-eq71
returns-then-w-eq71 c = c.code_role.ensures _ _ _

pub returns-then-stood-is_known : goal.returns-then-stood-is_known
returns-then-stood-is_known c =
    let a = c.args in
    record {
      is = λ done s e f.
          tells_wrong a.main done a.w (ne_eqb a.w.letter 71 c.if-w-eq71.false) a.stood e
          (ap (λ (t : Bool). c.args.stood || not t) (sym c.is_known.ensures) ∙ c.if-stood-is_known.true);
    }

pub misc_role-requires : goal.misc_role-requires
misc_role-requires c = eq-eqb c.args.w.letter 77 c.if-w-eq77.true

pub returns-then-w-eq77 : goal.returns-then-w-eq77
returns-then-w-eq77 c =
    let a = c.args in
    rw (either_left a.stood (not c.is_known.result) c.if-stood-is_known.false) (c.misc_role.ensures _ _)

pub returns : goal.returns
returns c =
    let a = c.args in
    let other = ne_eqb a.w.letter 71 c.if-w-eq71.false in
    let misc = ne_eqb a.w.letter 77 c.if-w-eq77.false in
    record {
      is = λ done s e f. (
        tells_other a.main done a.w other a.stood e
            (ap (λ (t : Bool). c.args.stood || not t) (sym c.is_known.ensures) ∙ c.if-stood-is_known.false) misc,
        rw (other, misc),
      );
    }
