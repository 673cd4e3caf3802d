-- `reading::is_known` meets its contract: the known letters, neighbours together, and the gaps between them.
use Rattle.terms.proofs.Common.{refl, arith, ℕ_discrete}
use Rattle.terms.specs.Terms.{any, all}
use Rattle.letters.specs.Letters.{is_known}
use Rattle.reading.proofs.Letters.{known_at, known_two, known_three, known_not}
use Rattle.reading.proofs.is_known.Goals as goal

pub returns-in-70 : goal.returns-in-70
unfolding any is_known
returns-in-70 c = known_at 80 refl c.in-70.is

pub returns-in-70-2 : goal.returns-in-70-2
unfolding any is_known
returns-in-70-2 c = known_two 70 c.args.b refl refl (omega arith) (omega arith)

pub returns-in-70-3 : goal.returns-in-70-3
unfolding any is_known
returns-in-70-3 c = known_three 73 c.args.b refl refl refl (omega arith) (omega arith)

pub returns-in-70-4 : goal.returns-in-70-4
unfolding any is_known
returns-in-70-4 c = known_two 77 c.args.b refl refl (omega arith) (omega arith)

pub returns-in-70-5 : goal.returns-in-70-5
unfolding any is_known
returns-in-70-5 c = known_two 82 c.args.b refl refl (omega arith) (omega arith)

pub returns-in-70-6 : goal.returns-in-70-6
unfolding any is_known
returns-in-70-6 c = known_three 88 c.args.b refl refl refl (omega arith) (omega arith)

pub returns-in_default : goal.returns-in_default
unfolding all
returns-in_default c = known_not 0 69 c.args.b refl (omega arith) (omega arith)

pub returns-in_default-2 : goal.returns-in_default-2
unfolding all
returns-in_default-2 c = known_not 72 72 c.args.b refl (omega arith) (omega arith)

pub returns-in_default-3 : goal.returns-in_default-3
unfolding all
returns-in_default-3 c = known_not 76 76 c.args.b refl (omega arith) (omega arith)

pub returns-in_default-4 : goal.returns-in_default-4
unfolding all
returns-in_default-4 c =
    let other = c.in_default.in_default-own.rest in
    elim (ℕ_discrete c.args.b 79) [
      | yes e ↦ known_not 79 79 c.args.b refl (omega arith) (omega arith)
      | no f ↦ known_not 81 81 c.args.b refl (omega arith) (omega arith)
    ]

pub returns-in_default-5 : goal.returns-in_default-5
unfolding all
returns-in_default-5 c = known_not 84 87 c.args.b refl (omega arith) (omega arith)

pub returns-in_default-6 : goal.returns-in_default-6
unfolding all
returns-in_default-6 c = known_not 91 255 c.args.b refl (omega arith) (omega arith)
