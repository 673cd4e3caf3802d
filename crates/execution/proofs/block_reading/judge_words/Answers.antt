-- `execution::block_reading::judge_words` meets its contract: by the judgement of the words.
use Rattle.std.specs.Prelude.{Err}
use Rattle.terms.proofs.Common.{refl, sym, ◌∙◌, ap}
use Rattle.words.specs.Packed.{words_in}
use Rattle.blocks.specs.{declared.Said.Said, Machine.machine_of, Calling.freely}
use Rattle.execution.specs.Steps.{judged_from}
use Rattle.execution.proofs.{Verdicts.values_past, Verdicts.unused_stops, Verdicts.bad_stops, Judged.judged_is, Judged.said_is, Judged.steady}
use Rattle.execution.proofs.block_reading.judge_words.Goals as goal

pub returns-in-Err-Unused : goal.returns-in-Err-Unused
returns-in-Err-Unused c =
    let a = c.args in
    λ s ws says left room start.
    let is = judged_is a.bed s a.read ws (words_in a.words.now a.places.now) says c.block_code-code.ensures c.has_centre-centred.ensures (ap Err (sym c.in-Err-Unused.field-0-is) ∙ sym c.in-Err-Unused.is ∙ c.judge.ensures) in
    rw c.in-Err-Unused.byte-is (unused_stops (machine_of a.bed) (freely left) room s start ws is)

pub returns-in-Err-Bad : goal.returns-in-Err-Bad
returns-in-Err-Bad c =
    let a = c.args in
    λ s ws says left room start.
    let is = judged_is a.bed s a.read ws (words_in a.words.now a.places.now) says c.block_code-code.ensures c.has_centre-centred.ensures (ap Err (sym c.in-Err-Bad.field-0-is) ∙ sym c.in-Err-Bad.is ∙ c.judge.ensures) in
    rw c.in-Err-Bad.byte-is (bad_stops (machine_of a.bed) (freely left) room s start ws is)

pub returns-in-Ok : goal.returns-in-Ok
returns-in-Ok c =
    let a = c.args in
    let held = words_in a.words.now a.places.now in
    let code = c.block_code-code.ensures in (
      record {
        steady =
            λ s ws says fair state.
            let is = judged_is a.bed s a.read ws held says code c.has_centre-centred.ensures (sym c.in-Ok.is ∙ c.judge.ensures) in
            steady a.bed s a.read ws held says code is fair state (freely 0) 0 0;
        goes =
            λ s ws says left room start.
            let is = judged_is a.bed s a.read ws held says code c.has_centre-centred.ensures (sym c.in-Ok.is ∙ c.judge.ensures) in
            let same = said_is a.bed s a.read ws held says code is (freely left) 0 0 in
            (values_past (machine_of a.bed) (freely left) room s start ws is).0
            ∙ ap (λ (b : Said). judged_from 3 (machine_of a.bed) (freely left) room s start ws b) (sym same);
      },
      refl,
    )
