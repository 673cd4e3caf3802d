use Rattle.terms.proofs.Common.{ℕ, sym, ◌∙◌, ap, false, get_or}
use Rattle.reading.proofs.{Seeing.group_most, Seeing.told_unknown, Seeing.told_group, Seeing.told_one, Seeing.told_seven, Seeing.told_rest}
use Rattle.reading.proofs.is_bad_code.Goals as goal

pub returns-then-g-eq0 : goal.returns-then-g-eq0
returns-then-g-eq0 c =
    let a = c.args in
    record { is = λ done s. told_unknown done a.groups a.m s a.c (sym c.group_of-g.ensures ∙ c.if-g-eq0.true) }

pub bounds-groups-g : goal.bounds-groups-g
bounds-groups-g c = rw c.group_of-g.ensures (group_most c.args.c)

pub returns-then-groups-g : goal.returns-then-groups-g
returns-then-groups-g c =
    let a = c.args in
    record {
      is = λ done s.
          told_group done a.groups a.m s a.c
          (ap (λ (g : ℕ). get_or c.args.groups g false) (sym c.group_of-g.ensures) ∙ c.if-groups-g.true);
    }

pub returns-then-g-eq1 : goal.returns-then-g-eq1
returns-then-g-eq1 c =
    let a = c.args in
    let is = c.group_of-g.ensures in
    record {
      is = λ done s.
          told_one done a.groups a.m s a.c _ c.stands_alone-alone.ensures
          (ap (λ (g : ℕ). get_or c.args.groups g false) (sym is) ∙ c.if-groups-g.false) (sym is ∙ c.if-g-eq1.true);
    }

pub returns-then-g-eq7 : goal.returns-then-g-eq7
returns-then-g-eq7 c =
    let a = c.args in
    let is = c.group_of-g.ensures in
    record {
      is = λ done s.
          told_seven done a.groups a.m s a.c _ c.stands_alone-alone.ensures
          (ap (λ (g : ℕ). get_or c.args.groups g false) (sym is) ∙ c.if-groups-g.false) (sym is ∙ c.if-g-eq7.true);
    }

pub returns : goal.returns
returns c =
    let a = c.args in
    let is = c.group_of-g.ensures in
    record {
      is = λ done s.
          told_rest done a.groups a.m s a.c _ c.stands_alone-alone.ensures (λ e. c.if-g-eq0.false (is ∙ e))
          (ap (λ (g : ℕ). get_or c.args.groups g false) (sym is) ∙ c.if-groups-g.false)
          (λ e. absurd (c.if-g-eq1.false (is ∙ e))) (λ e. absurd (c.if-g-eq7.false (is ∙ e)));
    }
