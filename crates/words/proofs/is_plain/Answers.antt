-- `words::is_plain` meets its contract: the sign that is no sign, and no point.
use denote.Enum.Bare.{sameb}
use Rattle.terms.proofs.Common.{◌≡◌, refl, sym, ◌∙◌}
use Rattle.words.specs.{Values.unsigned, Values.is_plain, declared.Sign.Sign, declared.Sign.TheVariants.Plain, declared.Sign.TheVariants.Plus, declared.Sign.TheVariants.Minus, contracts.Sign.the_type}
use Rattle.words.proofs.is_plain.Goals as goal

same_plain : (sign : Sign) → sameb the_type sign Plain ≡ unsigned sign
unfolding unsigned
same_plain Plain = refl
same_plain Plus = refl
same_plain Minus = refl

pub returns-then-eq : goal.returns-then-eq
unfolding is_plain
returns-then-eq c = rw (sym (same_plain c.args.n.sign) ∙ sym c.if-eq.ensures)

pub returns-else-eq : goal.returns-else-eq
unfolding is_plain
returns-else-eq c = c.if-eq.false ∙ rw (sym (same_plain c.args.n.sign) ∙ sym c.eq.ensures ∙ c.if-eq.false)
