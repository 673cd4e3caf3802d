-- `cases::run_cases` meets its contract: each case brings the place nearer to the end of the input, and the list keeps its length.
use Rattle.terms.proofs.Common.{arith, rules}
use Rattle.cases.proofs.{Laws.case_inside}
use Rattle.cases.proofs.run_cases.Goals as goal

pub run_case-requires : goal.run_case-requires
run_case-requires g c =
    let h = case_inside _ _ _ c.case_at.ensures c.in-Some.is in
    (h.ends, omega arith, h.room)

pub overflow_add-at : goal.overflow_add-at
overflow_add-at g c =
    let h = case_inside _ _ _ c.case_at.ensures c.in-Some.is in
    let good = c.well_formed in
    omega arith

pub loop-at-smaller : goal.loop-at-smaller
loop-at-smaller g c =
    let h = case_inside _ _ _ c.case_at.ensures c.in-Some.is in
    omega arith

pub loop-at-preserved : goal.loop-at-preserved
loop-at-preserved g c =
    let h = case_inside _ _ _ c.case_at.ensures c.in-Some.is in
    (omega arith, search rules)
