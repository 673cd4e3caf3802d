-- The measure is how many digits there may be.
use Rattle.svg.proofs.forms.+put_digits.Given as goal

abbrev pub decreases-put_digits : goal.decreases-put_digits
decreases-put_digits l = l.most
