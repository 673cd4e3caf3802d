-- What the functions of this layer answer, in the types of the code.
use Rattle.std.specs.Prelude.{Result, Ok, Err, if◌then◌else◌}
use Rattle.terms.specs.Common.{ℕ, Option, None, Some, eqb}
use Rattle.refusals.specs.declared.{Refusal.Refusal, Refusal.TheVariants.NumberNotFound, Refusal.TheVariants.NestOver}
use Rattle.programs.specs.declared.Program.{Program}

-- "5; 6": what a call of a number leads to, by the subprogram that has it
unfoldable pub callee_by : Option Program → ℕ → Result Program Refusal
callee_by None left = Err NumberNotFound
callee_by (Some program) left = if eqb left 0 then Err NestOver else Ok program
