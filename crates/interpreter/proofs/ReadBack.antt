-- Demand 2 of what `run` and `run_blocks` leave: what satisfies their statement reads back as the run's records. Assumes nothing.
use Rattle.terms.proofs.Common.{ℕ, ◌≡◌, ◌∙◌, ap, List, length, take, drop, take-append_seam}
use Rattle.refusals.specs.Answers.{count_of}
use Rattle.setup.specs.declared.Setup.{Setup}
use Rattle.records.specs.Layout.{list_bytes}
use Rattle.runs.specs.{declared.Budget.Budget, declared.Report.Report, Run.records_of}
use Rattle.promises.proofs.ReadBack.{read_back}
use Rattle.interpreter.specs.Owing.{Owes, ReadsAs}

pub owed_reads_back :
    {s : Setup} {l was is : List ℕ} {budget : Budget} {r : Report}
    → length s.origins ≡ 6 → Owes s l budget was is r → ReadsAs (records_of s l (length was) budget) is r.answer
owed_reads_back {s} {l} {was} {is} {budget} {r} six owes =
    let rs = records_of s l (length was) budget in
    let end = length (list_bytes rs) in
    let back = read_back s six l (length was) budget in
    let count : count_of r.answer ≡ length rs = ap count_of owes.answer ∙ back.count in
    let part : take end is ≡ list_bytes rs =
    ap (take end) owes.bytes ∙ take-append_seam (list_bytes rs) (drop end was) in
    record {
      buffer = λ n. rw (count, owes.bytes) (back.buffer was n);
      written = λ n. rw (count, part) (back.list n);
    }
