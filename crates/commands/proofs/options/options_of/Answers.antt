-- `commands::options::options_of` meets its contract: one option after the other.
use Rattle.terms.proofs.Common.{arith, rules, sym, ◌∙◌, ◌≡◌, None}
use Rattle.commands.proofs.{Choosing.fits_as, Choosing.fits_in, Choosing.first_fits, Choosing.next_fits, Choosing.first_wrong, Choosing.second_wrong, Choosing.third_wrong, Choosing.options_are}
use Rattle.commands.proofs.options.options_of.Goals as goal

pub with_next-requires : goal.with_next-requires
with_next-requires c =
    omega (arith, (fits_as c.first_options-none.ensures (first_fits c.is_listed.result)).near)

pub with_next-requires-2 : goal.with_next-requires-2
with_next-requires-2 c =
    let a = c.args in
    let none = fits_as c.first_options-none.ensures (first_fits c.is_listed.result) in
    let one = fits_in c.in_ok-one.was c.with_next.ensures (next_fits c.first_options-none.result none a.line.now a.count) in
    omega (arith, one.near)

pub with_next-requires-3 : goal.with_next-requires-3
with_next-requires-3 c =
    let a = c.args in
    let none = fits_as c.first_options-none.ensures (first_fits c.is_listed.result) in
    let one = fits_in c.in_ok-one.was c.with_next.ensures (next_fits c.first_options-none.result none a.line.now a.count) in
    let two = fits_in c.in_ok-two.was c.with_next-2.ensures (next_fits c.in_ok-one.one one a.line.now a.count) in
    omega (arith, two.near)

pub returns-in_err-one : goal.returns-in_err-one
returns-in_err-one c =
    let a = c.args in
    let none : c.from_residual.result ≡ None = search rules in
    none
    ∙ first_wrong a.line.now a.count c.is_listed.ensures c.first_options-none.ensures (sym c.in_err-one.was ∙ c.with_next.ensures)

pub returns-in_err-two : goal.returns-in_err-two
returns-in_err-two c =
    let a = c.args in
    let none : c.from_residual-in_err-two.result ≡ None = search rules in
    none
    ∙ second_wrong a.line.now a.count c.is_listed.ensures c.first_options-none.ensures (sym c.in_ok-one.was ∙ c.with_next.ensures) (sym c.in_err-two.was ∙ c.with_next-2.ensures)

pub returns-in_err-three : goal.returns-in_err-three
returns-in_err-three c =
    let a = c.args in
    let none : c.from_residual-in_err-three.result ≡ None = search rules in
    none
    ∙ third_wrong a.line.now a.count c.is_listed.ensures c.first_options-none.ensures (sym c.in_ok-one.was ∙ c.with_next.ensures) (sym c.in_ok-two.was ∙ c.with_next-2.ensures) (sym c.in_err-three.was ∙ c.with_next-3.ensures)

pub returns : goal.returns
returns c =
    let a = c.args in
    options_are a.line.now a.count c.is_listed.ensures c.first_options-none.ensures (sym c.in_ok-one.was ∙ c.with_next.ensures) (sym c.in_ok-two.was ∙ c.with_next-2.ensures) (sym c.in_ok-three.was ∙ c.with_next-3.ensures) c.with_no_more.ensures
