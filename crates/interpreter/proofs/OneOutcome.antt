-- "no two different outcomes may satisfy one statement": for each entry point, two outcomes that satisfy its statement for the same
-- input are equal. Assumes nothing.
use Rattle.terms.proofs.Common.{ℕ, ◌≡◌, sym, ◌∙◌, List}
use Rattle.setup.specs.declared.Setup.{Setup}
use Rattle.records.specs.{declared.Listed.Listed, Reading.read_at}
use Rattle.runs.specs.declared.{Budget.Budget, Budget.TheVariants.Whole, Budget.TheVariants.First, Report.Report}
use Rattle.interpreter.specs.Owing.{Owes}

one :
    {s : Setup} {l : List ℕ} {budget : Budget} {was is is' : List ℕ} {r r' : Report}
    → Owes s l budget was is r → Owes s l budget was is' r' → (r ≡ r') × (is ≡ is')
one o u = (
  λ i. record { answer = (o.answer ∙ sym u.answer) i; standing = (o.standing ∙ sym u.standing) i; end = (o.end ∙ sym u.end) i },
  o.bytes ∙ sym u.bytes,
)

-- `run`: the answer, where it stands, and the list's last bytes
pub run_one :
    {s : Setup} {l was is is' : List ℕ} {r r' : Report}
    → Owes s l Whole was is r → Owes s l Whole was is' r' → (r ≡ r') × (is ≡ is')
run_one o u = one o u

-- `run_blocks`
pub run_blocks_one :
    {s : Setup} {l was is is' : List ℕ} {r r' : Report} {n : ℕ}
    → Owes s l (First n) was is r → Owes s l (First n) was is' r' → (r ≡ r') × (is ≡ is')
run_blocks_one o u = one o u

-- `read_record`
pub read_one : (list : List ℕ) (at : ℕ) {r r' : Listed} → r ≡ read_at list at → r' ≡ read_at list at → r ≡ r'
read_one list at e f = e ∙ sym f
