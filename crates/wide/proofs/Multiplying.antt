-- Multiplying as by hand, in digits of 32 bits.
use Rattle.terms.proofs.Common.{ℕ, ◌+◌, ◌*◌, ◌/◌, ◌%◌, ◌^◌, ◌≤◌, ◌<◌, ◌≡◌, sym, ap₂, ◌∙◌, mul-le-mul, div-add-mod', arith}

-- the largest digit times itself
abbrev most : ℕ
most = 4_294_967_295 * 4_294_967_295

two_digits : {x y : ℕ} → x < 2 ^ 32 → y < 2 ^ 32 → x * y ≤ most
two_digits g h = mul-le-mul {n₂ = 4_294_967_295} {m₂ = 4_294_967_295} (omega arith) (omega arith)

-- the four products of a digit of a and one of b are small
pub record Small (a b : ℕ) : Type 0 where
  pub highs : a / 2 ^ 32 * (b / 2 ^ 32) ≤ most
  pub high_low : a / 2 ^ 32 * (b % 2 ^ 32) ≤ most
  pub low_high : a % 2 ^ 32 * (b / 2 ^ 32) ≤ most
  pub lows : a % 2 ^ 32 * (b % 2 ^ 32) ≤ most

pub small : (a b : ℕ) → a < 2 ^ 64 → b < 2 ^ 64 → Small a b
small a b g h =
    record {
      highs = two_digits (omega arith) (omega arith);
      high_low = two_digits (omega arith) (omega arith);
      low_high = two_digits (omega arith) (omega arith);
      lows = two_digits (omega arith) (omega arith);
    }

-- a product by the digits of its two numbers
pub four_products :
    (a b : ℕ)
    → a * b
    ≡ a / 2 ^ 32 * (b / 2 ^ 32) * 2 ^ 64 + (a / 2 ^ 32 * (b % 2 ^ 32) + a % 2 ^ 32 * (b / 2 ^ 32)) * 2 ^ 32 + a % 2 ^ 32 * (b % 2 ^ 32)
four_products a b =
    sym (ap₂ ◌*◌ (div-add-mod' a (2 ^ 32)) (div-add-mod' b (2 ^ 32))) ∙ out (a / 2 ^ 32) (a % 2 ^ 32) (b / 2 ^ 32) (b % 2 ^ 32)
  where
    out : (a₁ a₀ b₁ b₀ : ℕ) → (a₁ * 2 ^ 32 + a₀) * (b₁ * 2 ^ 32 + b₀) ≡ a₁ * b₁ * 2 ^ 64 + (a₁ * b₀ + a₀ * b₁) * 2 ^ 32 + a₀ * b₀
    out a₁ a₀ b₁ b₀ = omega arith
