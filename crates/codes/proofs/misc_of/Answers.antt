-- `codes::misc_of` meets its contract: each arm is a row of the table, and the last is every number that it does not have.
--
use Rattle.terms.specs.Terms.{lookup}
use Rattle.codes.specs.Codes.{misc_of}
use Rattle.codes.proofs.{Tables.misc_at, Tables.misc_none}
use Rattle.codes.proofs.misc_of.Goals as goal

pub returns-in-0 : goal.returns-in-0
unfolding misc_of lookup
returns-in-0 c = misc_at 0 c.in-0.is

pub returns-in-2 : goal.returns-in-2
unfolding misc_of lookup
returns-in-2 c = misc_at 2 c.in-2.is

pub returns-in-3 : goal.returns-in-3
unfolding misc_of lookup
returns-in-3 c = misc_at 3 c.in-3.is

pub returns-in-5 : goal.returns-in-5
unfolding misc_of lookup
returns-in-5 c = misc_at 5 c.in-5.is

pub returns-in-30 : goal.returns-in-30
unfolding misc_of lookup
returns-in-30 c = misc_at 30 c.in-30.is

pub returns-in-98 : goal.returns-in-98
unfolding misc_of lookup
returns-in-98 c = misc_at 98 c.in-98.is

pub returns-in-99 : goal.returns-in-99
unfolding misc_of lookup
returns-in-99 c = misc_at 99 c.in-99.is

pub returns-in_default : goal.returns-in_default
unfolding misc_of lookup
returns-in_default c = misc_none c.args.n c.in_default.in_default-own.rest
