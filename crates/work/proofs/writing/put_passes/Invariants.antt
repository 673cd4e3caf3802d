use Rattle.terms.proofs.Common.{ℕ, ◌-◌, List}
use Rattle.lengths.specs.declared.Point.{Point}
use Rattle.cycles.specs.declared.Hole.{Hole}
use Rattle.records.specs.declared.Record.{Record}
use Rattle.work.specs.{declared.Aim.Aim, declared.Pass.TheVariants.Drill, Work.passes_of, Work.leads}
use Rattle.work.proofs.Passing.{Going, Inside}
use Rattle.work.proofs.writing.put_passes.Given as goal

abbrev pub rest : Hole → Aim → ℕ → Point → List Record
rest h aim left tool = passes_of left (Drill h) (leads aim) tool

abbrev pub invariant-loop : goal.invariant-loop
invariant-loop l =
    Going l.offset l.initial.list l.at (rest l.h l.aim l.passes l.initial.tool) l.list l.next (rest l.h l.aim (l.passes - l.counter) l.tool)
    × Inside l.initial.tool (rest l.h l.aim l.passes l.initial.tool) l.tool (rest l.h l.aim (l.passes - l.counter) l.tool)
