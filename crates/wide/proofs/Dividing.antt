-- Long division by hand, one binary digit at a time.
use Rattle.terms.proofs.Common.{ℕ, suc, ◌+◌, ◌-◌, ◌*◌, ◌/◌, ◌%◌, ◌^◌, ◌≤◌, ◌<◌, ◌≡◌, sym, ap, ◌∙◌, pow-succ', div-add-mod', mod-lt, mul-le-mul_right, arith, pow_pos, digits_div, digits_mod}

-- what the word holds when k digits of n are not brought down yet: they are its upper digits, and the quotient's are the
-- others, below `place`
pub record Digits (n by rest word k : ℕ) : Type 0 where
  pub quotient : ℕ
  pub upper : ℕ
  pub place : ℕ
  pub full : 2 ^ k * place ≡ 2 ^ 64
  pub both : upper * place + quotient ≡ word
  pub short : quotient < place
  pub few : upper < 2 ^ k
  pub whole : (quotient * by + rest) * 2 ^ k + upper ≡ n

-- under a name that `omega` does not look into: with these products in reach its numbers get too large where only the rest
-- counts
unfoldable pub Held : (n by rest word k : ℕ) → Type 0
Held n by rest word k = Digits n by rest word k

-- what is reached then
pub record Brought (n by rest word k : ℕ) : Type 0 where
  pub below : rest < by
  pub fits : word < 2 ^ 64
  pub held : Held n by rest word k

-- with as many digits as a word has, none is brought down
pub none_brought : (high low by : ℕ) {k : ℕ} → 2 ^ k ≡ 2 ^ 64 → low < 2 ^ 64 → high < by → Brought (high * 2 ^ 64 + low) by high low k
unfolding Held
none_brought high low by e h g =
    record {
      below = g;
      fits = h;
      held =
          record {
            quotient = 0;
            upper = low;
            place = 1;
            full = omega (arith, e);
            both = omega arith;
            short = omega arith;
            few = omega (arith, e, h);
            whole = omega (arith, ap (high *◌) e);
          };
    }

module _ {n by rest word k : ℕ} (reached : Brought n by rest word k) (some : 0 < k) where
  -- the word's top digit brought down, where the quotient gets the digit d
  pub next_digit : (d : ℕ) {more less : ℕ} → d ≤ 1 → more ≡ word * 2 % 2 ^ 64 + d → less + d * by ≡ 2 * rest + word / 2 ^ 63 → less < by → Brought n by less more (k - 1)
  unfolding Held
  next_digit d {more} {less} one e f g =
      let was = reached.held in
      let m = 2 ^ (k - 1) in
      let q = was.quotient in
      let p = was.place in
      let top = was.upper / m in
      let others = was.upper % m in
      let j : k ≡ suc (k - 1) = omega arith in
      let twice : 2 ^ k ≡ 2 * m = ap (2 ^◌) j ∙ pow-succ' 2 (k - 1) in
      let split : top * m + others ≡ was.upper = div-add-mod' was.upper m in
      let fewer : others < m = mod-lt was.upper (pow_pos (k - 1)) in
      let half : m * p ≡ 2 ^ 63 = omega (arith, was.full, ap (◌* p) twice) in
      let parts : word ≡ top * 2 ^ 63 + (others * p + q) = omega (arith, was.both, ap (◌* p) split, ap (top *◌) half) in
      let under : others * p + q < 2 ^ 63 = omega (arith, was.short, half, mul-le-mul_right p fewer) in
      let digit : word / 2 ^ 63 ≡ top = omega (arith, parts, under) in
      record {
        below = g;
        fits = omega (arith, e, one);
        held =
            record {
              quotient = 2 * q + d;
              upper = others;
              place = 2 * p;
              full = omega (arith, half);
              both = omega (arith, e, parts, under);
              short = omega (arith, was.short);
              few = fewer;
              whole = omega (arith, was.whole, split, ap (◌* m) f, ap (◌* m) digit, ap ((q * by + rest) *◌) twice);
            };
      }

module _ {n by rest word : ℕ} (reached : Brought n by rest word 0) where
  sums : word * by + rest ≡ n
  unfolding Held
  sums =
      let all = reached.held in
      let none : all.upper ≡ 0 = omega (arith, all.few) in
      let e : all.quotient ≡ word = omega (arith, all.both, ap (◌* all.place) none) in
      omega (arith, all.whole, none, ap (◌* by) e)

  pub quotient_is : word ≡ n / by
  quotient_is = rw (sym sums) (sym (digits_div word reached.below))

  pub rest_is : rest ≡ n % by
  rest_is = rw (sym sums) (sym (digits_mod word reached.below))
