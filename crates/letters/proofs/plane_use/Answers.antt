-- `letters::plane_use` meets its contract, plane by plane.
use Rattle.terms.proofs.Common.{rules}
use Rattle.letters.specs.Letters.{end_letters, centre_letters}
use Rattle.letters.proofs.plane_use.Goals as goal

pub enum_told-1 : goal.enum_told-1
unfolding end_letters centre_letters
enum_told-1 c = search rules

pub length_among-requires : goal.length_among-requires
unfolding end_letters centre_letters
length_among-requires c = search rules

pub enum_told-in-G18 : goal.enum_told-in-G18
unfolding end_letters centre_letters
enum_told-in-G18 c = search rules

pub length_among-requires-in-G18 : goal.length_among-requires-in-G18
unfolding end_letters centre_letters
length_among-requires-in-G18 c = search rules

pub enum_told-in-G19 : goal.enum_told-in-G19
unfolding end_letters centre_letters
enum_told-in-G19 c = search rules

pub length_among-requires-in-G19 : goal.length_among-requires-in-G19
unfolding end_letters centre_letters
length_among-requires-in-G19 c = search rules

pub returns-in-G17 : goal.returns-in-G17
unfolding end_letters centre_letters
returns-in-G17 c = rw c.in-G17.is c.length_among.ensures

pub returns-in-G18 : goal.returns-in-G18
unfolding end_letters centre_letters
returns-in-G18 c = rw c.in-G18.is c.length_among-in-G18.ensures

pub returns-in-G19 : goal.returns-in-G19
unfolding end_letters centre_letters
returns-in-G19 c = rw c.in-G19.is c.length_among-in-G19.ensures
