-- `records::kinds::mark_of` meets its contract: each arm is its row of the table.
use Rattle.records.proofs.kinds.mark_of.Goals as goal

pub returns-in-RP : goal.returns-in-RP
returns-in-RP c = rw c.in-RP.is

pub returns-in-LN : goal.returns-in-LN
returns-in-LN c = rw c.in-LN.is

pub returns-in-AR : goal.returns-in-AR
returns-in-AR c = rw c.in-AR.is

pub returns-in-AL : goal.returns-in-AL
returns-in-AL c = rw c.in-AL.is

pub returns-in-DW : goal.returns-in-DW
returns-in-DW c = rw c.in-DW.is

pub returns-in-SP : goal.returns-in-SP
returns-in-SP c = rw c.in-SP.is

pub returns-in-SO : goal.returns-in-SO
returns-in-SO c = rw c.in-SO.is

pub returns-in-PA : goal.returns-in-PA
returns-in-PA c = rw c.in-PA.is

pub returns-in-EN : goal.returns-in-EN
returns-in-EN c = rw c.in-EN.is
