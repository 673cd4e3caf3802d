-- `interpreter::run_within` meets its contract, in the order of document 01.
use Rattle.terms.proofs.Common.{sym, ◌∙◌, arith, length}
use Rattle.interpreter.proofs.Starting.{some_byte, gives_too_long, gives_bad_setup, gives_first_block, gives_opening, programs_opened, gives_main}
use Rattle.interpreter.proofs.run_within.Goals as goal

pub returns-then-bytes-gt65535 : goal.returns-then-bytes-gt65535
returns-then-bytes-gt65535 c =
    let a = c.args in
    gives_too_long a.setup a.bytes.now a.budget a.list.now c.if-bytes-gt65535.true c.refused.ensures

pub returns-then-not-is_valid : goal.returns-then-not-is_valid
returns-then-not-is_valid c =
    let a = c.args in
    gives_bad_setup a.setup a.bytes.now a.budget a.list.now (omega (arith, c.if-bytes-gt65535.false))
    (sym c.is_valid.ensures ∙ c.if-not-is_valid.true) c.refused-then-not-is_valid.ensures

pub returns-then-not-is_percent : goal.returns-then-not-is_percent
returns-then-not-is_percent c =
    let a = c.args in
    gives_first_block a.setup a.bytes.now a.budget a.list.now (omega (arith, c.if-bytes-gt65535.false))
    (sym c.is_valid.ensures ∙ c.if-not-is_valid.false)
    (sym c.is_percent.ensures ∙ c.if-not-is_percent.true) c.refused-then-not-is_percent.ensures

pub find_programs-requires : goal.find_programs-requires
find_programs-requires c =
    let a = c.args in
    some_byte a.setup a.bytes.now (length a.list.now) a.budget (omega arith) (sym c.is_valid.ensures ∙ c.if-not-is_valid.false) (sym c.is_percent.ensures ∙ c.if-not-is_percent.false)

pub run_main-requires : goal.run_main-requires
run_main-requires c =
    let a = c.args in
    record { setup_value = sym c.is_valid.ensures ∙ c.if-not-is_valid.false; opened = programs_opened a.setup a.bytes.now a.budget a.list.now (omega arith) (sym c.is_valid.ensures ∙ c.if-not-is_valid.false) (sym c.is_percent.ensures ∙ c.if-not-is_percent.false) c.find_programs.ensures c.in-Ok.is }

pub returns-in-Err : goal.returns-in-Err
returns-in-Err c =
    let a = c.args in
    gives_opening a.setup a.bytes.now a.budget a.list.now (omega arith) (sym c.is_valid.ensures ∙ c.if-not-is_valid.false) (sym c.is_percent.ensures ∙ c.if-not-is_percent.false) c.find_programs.ensures c.in-Err.is c.refused-in-Err.ensures

pub returns-in-Ok : goal.returns-in-Ok
returns-in-Ok c =
    let a = c.args in
    gives_main a.setup a.bytes.now a.budget a.list.now (omega arith) (sym c.is_valid.ensures ∙ c.if-not-is_valid.false) (sym c.is_percent.ensures ∙ c.if-not-is_percent.false) c.find_programs.ensures c.in-Ok.is
    c.run_main.ensures
