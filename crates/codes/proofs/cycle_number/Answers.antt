-- `codes::cycle_number` meets its contract: arm by arm, the variant's number.
use Rattle.terms.proofs.Common.{rules}
use Rattle.codes.specs.Codes.{cycle_number}
use Rattle.codes.proofs.cycle_number.Goals as goal

pub enum_told-1 : goal.enum_told-1
unfolding cycle_number
enum_told-1 c = search rules

pub enum_told-in-G82 : goal.enum_told-in-G82
unfolding cycle_number
enum_told-in-G82 c = search rules

pub enum_told-in-G85 : goal.enum_told-in-G85
unfolding cycle_number
enum_told-in-G85 c = search rules

pub enum_told-in-G89 : goal.enum_told-in-G89
unfolding cycle_number
enum_told-in-G89 c = search rules

pub returns-in-G81 : goal.returns-in-G81
unfolding cycle_number
returns-in-G81 c = cc

pub returns-in-G82 : goal.returns-in-G82
unfolding cycle_number
returns-in-G82 c = cc

pub returns-in-G85 : goal.returns-in-G85
unfolding cycle_number
returns-in-G85 c = cc

pub returns-in-G89 : goal.returns-in-G89
unfolding cycle_number
returns-in-G89 c = cc
