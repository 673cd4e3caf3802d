-- `files::names::fate_of` meets its contract, test by test.
use Rattle.terms.proofs.Common.{sym, ◌∙◌}
use Rattle.files.proofs.{Fates.is_first, Fates.is_second, Fates.is_link, Fates.is_found, Fates.is_there, Fates.is_new, Fates.is_unknown}
use Rattle.files.proofs.names.fate_of.Goals as goal
use Rattle.files.proofs.names.fate_of.Goals.{then-same_file-via-then-same_file, then-same_file-via-else-same_file+then-same_file-2}

pub returns-then-same_file : goal.returns-then-same_file
returns-then-same_file c =
    let a = c.args in
    elim c.then-same_file.branch [
      | then-same_file-via-then-same_file w ↦ is_first a.out a.first a.second (sym c.same_file.ensures ∙ w.if-same_file.true)
      | then-same_file-via-else-same_file+then-same_file-2 w ↦ is_second a.out a.first a.second (sym c.same_file.ensures ∙ w.if-same_file.false) (sym w.same_file-else-same_file.ensures ∙ w.if-same_file-2.true)
    ]

pub returns-then-out : goal.returns-then-out
returns-then-out c =
    let a = c.args in
    is_link a.out a.first a.second (sym c.same_file.ensures ∙ c.if-same_file.false) (sym c.same_file-else-same_file.ensures ∙ c.if-same_file-2.false) c.if-out.true

pub returns-in-Ok : goal.returns-in-Ok
returns-in-Ok c =
    let a = c.args in
    let found = is_found a.out a.first a.second (sym c.same_file.ensures ∙ c.if-same_file.false) (sym c.same_file-else-same_file.ensures ∙ c.if-same_file-2.false) c.if-out.false in
    c.kind_fate.ensures ∙ is_there a.out.locked c.in-Ok.is ∙ found

pub returns-in-Err-Missing : goal.returns-in-Err-Missing
returns-in-Err-Missing c =
    let a = c.args in
    let found = is_found a.out a.first a.second (sym c.same_file.ensures ∙ c.if-same_file.false) (sym c.same_file-else-same_file.ensures ∙ c.if-same_file-2.false) c.if-out.false in
    let why = rw c.in-Err-Missing.is at c.in-Err-Missing.field-0-is in
    is_new a.out.locked c.in-Err-Missing.is why ∙ found

pub returns-in-Err-Failed : goal.returns-in-Err-Failed
returns-in-Err-Failed c =
    let a = c.args in
    let found = is_found a.out a.first a.second (sym c.same_file.ensures ∙ c.if-same_file.false) (sym c.same_file-else-same_file.ensures ∙ c.if-same_file-2.false) c.if-out.false in
    let why = rw c.in-Err-Failed.is at c.in-Err-Failed.field-0-is in
    is_unknown a.out.locked c.in-Err-Failed.is why ∙ found
