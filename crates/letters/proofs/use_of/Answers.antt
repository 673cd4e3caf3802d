-- `letters::use_of` meets its contract: N, G and M, and the letters of the code after them in the table.
use Rattle.terms.proofs.Common.{rules}
use Rattle.terms.specs.Terms.{byte, lookup}
use Rattle.letters.specs.Letters.{letters_of, use_of}
use Rattle.letters.proofs.{Uses.use_at, Uses.use_past}
use Rattle.letters.proofs.use_of.Goals as goal

pub returns-in-Calling : goal.returns-in-Calling
unfolding letters_of
returns-in-Calling c =
    let a = c.args in
    use_past a.code a.plane a.letter c.in_default.in_default-own.rest (rw c.in-Calling.is c.call_use.ensures)

pub returns-in-Returning : goal.returns-in-Returning
unfolding letters_of lookup
returns-in-Returning c =
    let a = c.args in
    use_past a.code a.plane a.letter c.in_default.in_default-own.rest (rw c.in-Returning.is)

pub returns-in-Dwelling : goal.returns-in-Dwelling
unfolding letters_of
returns-in-Dwelling c =
    let a = c.args in
    use_past a.code a.plane a.letter c.in_default.in_default-own.rest (rw c.in-Dwelling.is c.dwell_use.ensures)

pub returns-in-Moving : goal.returns-in-Moving
unfolding letters_of
returns-in-Moving c =
    let a = c.args in
    use_past a.code a.plane a.letter c.in_default.in_default-own.rest (rw c.in-Moving.is c.moving_use.ensures)

pub enum_told-1 : goal.enum_told-1
unfolding lookup use_of
enum_told-1 c = search rules

pub call_use-requires : goal.call_use-requires
unfolding lookup use_of
call_use-requires c = search rules

pub enum_told-in-Returning : goal.enum_told-in-Returning
unfolding lookup use_of
enum_told-in-Returning c = search rules

pub enum_told-in-Dwelling : goal.enum_told-in-Dwelling
unfolding lookup use_of
enum_told-in-Dwelling c = search rules

pub dwell_use-requires : goal.dwell_use-requires
unfolding lookup use_of
dwell_use-requires c = search rules

pub enum_known-code : goal.enum_known-code
unfolding lookup use_of
enum_known-code c = search rules

pub moving_use-requires : goal.moving_use-requires
unfolding lookup use_of
moving_use-requires c = search rules

pub returns-in-78 : goal.returns-in-78
unfolding lookup use_of
returns-in-78 c = use_at c.args.code c.args.plane (byte "N") c.in-78.is

pub returns-in-71 : goal.returns-in-71
unfolding lookup use_of
returns-in-71 c = use_at c.args.code c.args.plane (byte "G") c.in-71.is

pub returns-in-77 : goal.returns-in-77
unfolding lookup use_of
returns-in-77 c = use_at c.args.code c.args.plane (byte "M") c.in-77.is
