-- `programs::entry_of` meets its contract.
use Rattle.std.proofs.lemmas.Result.{err_from_is_err_and}
use Rattle.terms.proofs.Common.{refl, sym, ◌∙◌}
use Rattle.programs.specs.Openings.{entry_of}
use Rattle.programs.proofs.{Finding.missing, Finding.present, Entries.entry_taken, Entries.entry_full, Entries.entry_new}
use Rattle.programs.proofs.entry_of.Goals as goal

pub returns-in_err-n : goal.returns-in_err-n
unfolding entry_of
returns-in_err-n c =
    let p = err_from_is_err_and c.from_residual.result c.from_residual.ensures.1 in
    let m = missing c.args.o _ c.ok_or.ensures.value c.in_err-n.was in
    rw (p.1, p.2) (rw (m.0, m.1) refl)

pub returns-then-is_taken : goal.returns-then-is_taken
returns-then-is_taken c =
    rw (present c.ok_or.ensures.ok_part c.in_ok-n.was)
    (sym (entry_taken c.args.t c.in_ok-n.n (sym c.is_taken.ensures ∙ c.if-is_taken.true)))

pub returns-then-t-ge10 : goal.returns-then-t-ge10
returns-then-t-ge10 c =
    rw (present c.ok_or.ensures.ok_part c.in_ok-n.was)
    (sym (entry_full c.args.t c.in_ok-n.n (sym c.is_taken.ensures ∙ c.if-is_taken.false) c.if-t-ge10.true))

pub returns : goal.returns
returns c =
    rw (present c.ok_or.ensures.ok_part c.in_ok-n.was)
    (sym (entry_new c.args.t c.in_ok-n.n (sym c.is_taken.ensures ∙ c.if-is_taken.false) c.if-t-ge10.false))
