-- What only serves the code of the run: its progress and what it tells, by the words of the rules.
use Rattle.std.specs.Prelude.{◌+◌}
use Rattle.terms.specs.Common.{length}
use Rattle.lengths.specs.declared.Point.{Point}
use Rattle.records.specs.Layout.{room_of}
use Rattle.settings.specs.Settings.{state_moved}
use Rattle.blocks.specs.declared.Done.{Done}
use Rattle.runs.specs.{declared.Progress.Progress, declared.Report.Report, Walk.one_less, Walk.Outcome, Run.answer_by}

-- the progress after an accepted block, by the code's answer
unfoldable pub progress_by : Progress → Done → Progress
progress_by p d = record { state = d.state; next = d.next; count = p.count + d.count; budget = one_less p.budget }

-- what an outcome tells the caller, the point in machine units
unfoldable pub report_by : Point → Outcome → Report
report_by offset o =
    record {
      answer = answer_by o.how (length o.made);
      standing = record { state = state_moved offset o.last; next = o.next };
      end = room_of o.made;
    }
