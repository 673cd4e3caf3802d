-- `letters::names_centre` meets its contract, plane by plane.
use Rattle.terms.proofs.Common.{rules}
use Rattle.terms.specs.Terms.{byte}
use Rattle.letters.specs.Letters.{centre_letters, names_centre}
use Rattle.letters.proofs.{Centred.two_seen}
use Rattle.letters.proofs.names_centre.Goals as goal

pub enum_told-1 : goal.enum_told-1
unfolding names_centre centre_letters
enum_told-1 c = search rules

pub enum_told-in-G18 : goal.enum_told-in-G18
unfolding names_centre centre_letters
enum_told-in-G18 c = search rules

pub enum_told-in-G19 : goal.enum_told-in-G19
unfolding names_centre centre_letters
enum_told-in-G19 c = search rules

pub returns-in-G17 : goal.returns-in-G17
unfolding names_centre centre_letters
returns-in-G17 c = λ ws seen. rw c.in-G17.is (two_seen (byte "I") (byte "J") ws seen.has_i seen.has_j)

pub returns-in-G18 : goal.returns-in-G18
unfolding names_centre centre_letters
returns-in-G18 c = λ ws seen. rw c.in-G18.is (two_seen (byte "K") (byte "I") ws seen.has_k seen.has_i)

pub returns-in-G19 : goal.returns-in-G19
unfolding names_centre centre_letters
returns-in-G19 c = λ ws seen. rw c.in-G19.is (two_seen (byte "J") (byte "K") ws seen.has_j seen.has_k)
