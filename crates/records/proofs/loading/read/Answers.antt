-- `records::loading::read` meets its contract: each answer is a case of the definition, in its order.
use Rattle.terms.proofs.Common.{sym, arith}
use Rattle.records.proofs.{Found.read_end, Found.read_cut, Found.read_unknown, Found.read_short, Found.read_other, Found.read_next}
use Rattle.records.proofs.loading.read.Goals as goal

pub returns-then-list-at : goal.returns-then-list-at
returns-then-list-at c =
    let x = c.args in
    sym (read_cut x.list.now x.at (λ e. omega arith) (omega arith))

pub returns-then-left-eq0 : goal.returns-then-left-eq0
returns-then-left-eq0 c =
    let x = c.args in
    sym (read_end x.list.now x.at (omega arith))

pub returns-then-left-lt2 : goal.returns-then-left-lt2
returns-then-left-lt2 c =
    let x = c.args in
    sym (read_cut x.list.now x.at (λ e. omega arith) (omega arith))

pub returns-in_default : goal.returns-in_default
returns-in_default c =
    let x = c.args in
    sym (read_unknown x.list.now x.at (omega arith) (sym c.in_default.ensures))

pub returns-then-left-length : goal.returns-then-left-length
returns-then-left-length c =
    let x = c.args in
    sym (read_short x.list.now x.at (omega arith) (sym c.in-Some.ensures) (omega arith))

pub returns-in_default-plane_for : goal.returns-in_default-plane_for
returns-in_default-plane_for c =
    let x = c.args in
    sym (read_other x.list.now x.at (omega arith) (sym c.in-Some.ensures) (omega arith) (sym c.in_default-plane_for.ensures))

pub returns : goal.returns
returns c =
    let x = c.args in
    rw (c.record_at.ensures, c.head_length.ensures.0, c.kind_length-length.ensures)
    (sym (read_next x.list.now x.at (omega arith) (sym c.in-Some.ensures) (omega arith) (sym c.in-Some-plane_for.ensures)))
