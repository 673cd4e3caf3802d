-- `codes::group_of` meets its contract: arm by arm, the variant's number.
use Rattle.terms.proofs.Common.{rules}
use Rattle.codes.specs.Codes.{group_of}
use Rattle.codes.proofs.group_of.Goals as goal

pub enum_told-1 : goal.enum_told-1
unfolding group_of
enum_told-1 c = search rules

pub enum_told-in-GroupB : goal.enum_told-in-GroupB
unfolding group_of
enum_told-in-GroupB c = search rules

pub enum_told-in-GroupC : goal.enum_told-in-GroupC
unfolding group_of
enum_told-in-GroupC c = search rules

pub enum_told-in-GroupD : goal.enum_told-in-GroupD
unfolding group_of
enum_told-in-GroupD c = search rules

pub enum_told-in-GroupE : goal.enum_told-in-GroupE
unfolding group_of
enum_told-in-GroupE c = search rules

pub enum_told-in-GroupF : goal.enum_told-in-GroupF
unfolding group_of
enum_told-in-GroupF c = search rules

pub enum_told-in-G04 : goal.enum_told-in-G04
unfolding group_of
enum_told-in-G04 c = search rules

pub enum_told-in-Unknown : goal.enum_told-in-Unknown
unfolding group_of
enum_told-in-Unknown c = search rules

pub returns-in-GroupA : goal.returns-in-GroupA
unfolding group_of
returns-in-GroupA c = cc

pub returns-in-GroupB : goal.returns-in-GroupB
unfolding group_of
returns-in-GroupB c = cc

pub returns-in-GroupC : goal.returns-in-GroupC
unfolding group_of
returns-in-GroupC c = cc

pub returns-in-GroupD : goal.returns-in-GroupD
unfolding group_of
returns-in-GroupD c = cc

pub returns-in-GroupE : goal.returns-in-GroupE
unfolding group_of
returns-in-GroupE c = cc

pub returns-in-GroupF : goal.returns-in-GroupF
unfolding group_of
returns-in-GroupF c = cc

pub returns-in-G04 : goal.returns-in-G04
unfolding group_of
returns-in-G04 c = cc

pub returns-in-Unknown : goal.returns-in-Unknown
unfolding group_of
returns-in-Unknown c = cc
