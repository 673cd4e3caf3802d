-- What only serves the code: a word in one number, its place apart, and the words of two lists that hold them so.
use Rattle.std.specs.Prelude.{◌+◌, ◌*◌, ◌/◌, ◌%◌, ◌∷◌, if◌then◌else◌}
use Rattle.terms.specs.Common.{ℕ, List, [], eqb}
use mir.Val.{bool_byte}
use Rattle.words.specs.declared.{Sign.Sign, Sign.TheVariants.Plain, Sign.TheVariants.Plus, Sign.TheVariants.Minus, Word.Word}

unfoldable pub sign_number : Sign → ℕ
sign_number Plain = 0
sign_number Plus = 1
sign_number Minus = 2

unfoldable pub sign_at : ℕ → Sign
sign_at n = if eqb n 0 then Plain else (if eqb n 1 then Plus else Minus)

unfoldable pub packed : Word → ℕ
packed w =
    w.number.digits * 32768 + w.number.decimals * 2048 + sign_number w.number.sign * 512 + bool_byte w.number.point * 256
    + w.letter

unfoldable pub unpacked : ℕ → ℕ → Word
unpacked n at =
    record {
      at = at;
      number = record { digits = n / 32768; decimals = n / 2048 % 16; sign = sign_at (n / 512 % 4); point = eqb (n / 256 % 2) 1 };
      letter = n % 256;
    }

unfoldable pub words_in : List ℕ → List ℕ → List Word
words_in [] places = []
words_in (n ∷ ns) [] = []
words_in (n ∷ ns) (at ∷ places) = unpacked n at ∷ words_in ns places
