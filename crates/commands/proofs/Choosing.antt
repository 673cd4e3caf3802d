-- The options by the words of a command. Assumes nothing.
use Rattle.std.specs.Prelude.{if◌then◌else◌, is_some, option_and_then, IfSome}
use Rattle.terms.proofs.Common.{ℕ, ◌+◌, ◌≤◌, ◌<◌, ◌≡◌, refl, sym, ap, ◌∙◌, Bool, true, false, not, ◌&&◌, Option, None, Some, List, arith, leb, ltb, length, take, length-take, slice, take-length, leb-true, le-leb, lt-leb, le-ltb, lt-ltb}
use Rattle.terms.specs.Terms.{bytes}
use Rattle.texts.specs.{Texts.same_bytes, Figures.digits_in}
use Rattle.texts.proofs.Places.{same_lengths}
use Rattle.commands.specs.{Words.word_of, declared.options.Options.Options}
use Rattle.commands.specs.Options.{no_options, room_of, with_blocks, with_room, with_partial, with_option, with_next, with_no_more, is_listed, first_options, options_of}

-- ---- the room is never above the largest, and each option takes two words at most

pub record Fits (k : ℕ) (o : Options) : Type 0 where
  pub most : room_of o ≤ 1048576
  pub near : o.next ≤ k

-- the same of options that there may be
pub record Fit (k : ℕ) (r : Option Options) : Type 0 where
  pub fits : IfSome r (Fits k)

pub fits_as : {k : ℕ} {a b : Options} → a ≡ b → Fits k b → Fits k a
fits_as e h = rw e h

pub fits_in : {k : ℕ} {r s : Option Options} {o : Options} → r ≡ Some o → r ≡ s → Fit k s → Fits k o
fits_in {k} e g h = (rw (sym g ∙ e) at h).fits

no_fit : {k : ℕ} → Fit k None
no_fit = record { fits = tt }

either_fit : {k : ℕ} (t : Bool) {a b : Option Options} → Fit k a → Fit k b → Fit k (if t then a else b)
either_fit true h g = h
either_fit false h g = g

pub first_fits : (listed : Bool) → Fits 4 (first_options listed)
unfolding first_options
first_fits true = record { most = omega arith; near = omega arith }
first_fits false = record { most = omega arith; near = omega arith }

module _ {k : ℕ} (o : Options) (h : Fits k o) where
  blocks_fit : (d : Option ℕ) → Fit (k + 2) (with_blocks o d)
  unfolding with_blocks
  blocks_fit (Some n) =
      either_fit (is_some o.blocks) no_fit (record { fits = record { most = h.most; near = omega (arith, h.near) } })
  blocks_fit None = no_fit

  room_fit : (d : Option ℕ) → Fit (k + 2) (with_room o d)
  unfolding with_room
  room_fit (Some n) = go (not (is_some o.room)) (leb n 1048576) refl
    where
      go :
          (first low : Bool) → leb n 1048576 ≡ low
          → Fit (k + 2) (if first && low
          then Some (record { listed = o.listed; blocks = o.blocks; room = Some n; partial = o.partial; next = o.next + 2 })
          else None)
      go true true e = record { fits = record { most = leb-true n 1048576 e; near = omega (arith, h.near) } }
      go true false e = no_fit
      go false low e = no_fit
  room_fit None = no_fit

  partial_fit : Fit (k + 2) (with_partial o)
  unfolding with_partial
  partial_fit = either_fit o.partial no_fit (record { fits = record { most = h.most; near = omega (arith, h.near) } })

  pub next_fits : (line : List ℕ) (count : ℕ) → Fit (k + 2) (with_next line count o)
  unfolding with_next with_option
  next_fits line count =
      let name = word_of o.next line in
      let d = digits_in (word_of (o.next + 1) line) in
      either_fit (ltb o.next count)
      (either_fit (same_bytes name (bytes "--blocks")) (blocks_fit d)
      (either_fit (same_bytes name (bytes "--room")) (room_fit d)
      (either_fit (same_bytes name (bytes "--partial")) partial_fit no_fit)))
      (record { fits = record { most = h.most; near = omega (arith, h.near) } })

  no_more_fits : (count : ℕ) → Fit k (with_no_more count o)
  unfolding with_no_more
  no_more_fits count = either_fit (ltb o.next count) no_fit (record { fits = h })

then_fits :
    {k m : ℕ} (f : Options → Option Options) → ((o : Options) → Fits k o → Fit m (f o))
    → (r : Option Options) → Fit k r → Fit m (option_and_then f r)
then_fits f step None h = no_fit
then_fits f step (Some o) h = step o h.fits

most_of : (r : Option Options) → Fit 10 r → IfSome r (λ o. room_of o ≤ 1048576)
most_of None h = tt
most_of (Some o) h = h.fits.most

pub room_fits : (line : List ℕ) (count : ℕ) → IfSome (options_of line count) (λ o. room_of o ≤ 1048576)
unfolding options_of
room_fits line count =
    let next = with_next line count in
    let none = first_options (is_listed line count) in
    let one_fits : Fit 6 (next none) = next_fits none (first_fits (is_listed line count)) line count in
    let two_fits : Fit 8 (option_and_then next (next none)) = then_fits next (λ o h. next_fits o h line count) (next none) one_fits in
    let three = option_and_then next (option_and_then next (next none)) in
    let three_fits : Fit 10 three = then_fits next (λ o h. next_fits o h line count) (option_and_then next (next none)) two_fits in
    most_of (option_and_then (with_no_more count) three) (then_fits (with_no_more count) (λ o h. no_more_fits o h count) three three_fits)

pub room_in :
    (line : List ℕ) (count : ℕ) {r : Option Options} {o : Options} → r ≡ options_of line count → r ≡ Some o → room_of o ≤ 1048576
room_in line count e h = rw (sym e ∙ h) at (room_fits line count)

-- ---- one option and its number

-- the digits of all bytes of a word
pub digits_known : (l : List ℕ) {d e : Option ℕ} → d ≡ digits_in (slice 0 (length l) l) → d ≡ e → digits_in l ≡ e
digits_known l h g = sym (ap digits_in (take-length l)) ∙ sym h ∙ g

-- where an option was given before, nothing is right; else its number decides
module _ (o : Options) where
  pub blocks_twice : (d : Option ℕ) → is_some o.blocks ≡ true → with_blocks o d ≡ None
  unfolding with_blocks
  blocks_twice (Some n) e = rw e
  blocks_twice None e = refl

  pub blocks_none : {d : Option ℕ} → d ≡ None → with_blocks o d ≡ None
  unfolding with_blocks
  blocks_none h = rw h

  pub blocks_are :
      {d : Option ℕ} {n : ℕ} → d ≡ Some n → is_some o.blocks ≡ false
      → with_blocks o d ≡ Some (record { listed = o.listed; blocks = Some n; room = o.room; partial = o.partial; next = o.next + 2 })
  unfolding with_blocks
  blocks_are h e = rw (h, e)

  pub room_twice : (d : Option ℕ) → is_some o.room ≡ true → with_room o d ≡ None
  unfolding with_room
  room_twice (Some n) e = rw e
  room_twice None e = refl

  pub room_none : {d : Option ℕ} → d ≡ None → with_room o d ≡ None
  unfolding with_room
  room_none h = rw h

  module _ {d : Option ℕ} {n : ℕ} (h : d ≡ Some n) (e : is_some o.room ≡ false) where
    pub room_above : 1048576 < n → with_room o d ≡ None
    unfolding with_room
    room_above g = rw (h, e, lt-leb n 1048576 g)

    pub room_is :
        n ≤ 1048576
        → with_room o d ≡ Some (record { listed = o.listed; blocks = o.blocks; room = Some n; partial = o.partial; next = o.next + 2 })
    unfolding with_room
    room_is g = rw (h, e, le-leb n 1048576 g)

  pub partial_twice : o.partial ≡ true → None ≡ with_partial o
  unfolding with_partial
  partial_twice e = rw e

  pub partial_once :
      o.partial ≡ false
      → Some (record { listed = o.listed; blocks = o.blocks; room = o.room; partial = true; next = o.next + 1 }) ≡ with_partial o
  unfolding with_partial
  partial_once e = rw e

-- ---- which option it is

module _ (name number : List ℕ) (o : Options) where
  pub option_blocks : same_bytes name (bytes "--blocks") ≡ true → with_blocks o (digits_in number) ≡ with_option name number o
  unfolding with_option
  option_blocks e = rw e

  module _ (n : same_bytes name (bytes "--blocks") ≡ false) where
    pub option_room : same_bytes name (bytes "--room") ≡ true → with_room o (digits_in number) ≡ with_option name number o
    unfolding with_option
    option_room e = rw (n, e)

    module _ (m : same_bytes name (bytes "--room") ≡ false) where
      pub option_partial : same_bytes name (bytes "--partial") ≡ true → with_partial o ≡ with_option name number o
      unfolding with_option
      option_partial e = rw (n, m, e)

      pub option_other : same_bytes name (bytes "--partial") ≡ false → None ≡ with_option name number o
      unfolding with_option
      option_other e = rw (n, m, e)

-- ---- whether one is left

module _ (line : List ℕ) (count : ℕ) (o : Options) where
  pub next_none : count ≤ o.next → Some o ≡ with_next line count o
  unfolding with_next
  next_none h = rw (le-ltb o.next count h)

  pub next_is : o.next < count → with_option (word_of o.next line) (word_of (o.next + 1) line) o ≡ with_next line count o
  unfolding with_next
  next_is h = rw (lt-ltb o.next count h)

  pub no_more_left : count ≤ o.next → Some o ≡ with_no_more count o
  unfolding with_no_more
  no_more_left h = rw (le-ltb o.next count h)

  pub more_left : o.next < count → None ≡ with_no_more count o
  unfolding with_no_more
  more_left h = rw (lt-ltb o.next count h)

-- ---- whether a list is named

module _ (listed : Bool) where
  pub first_listed : listed ≡ true → no_options true 4 ≡ first_options listed
  unfolding first_options
  first_listed e = rw e

  pub first_unlisted : listed ≡ false → no_options false 3 ≡ first_options listed
  unfolding first_options
  first_unlisted e = rw e

module _ (line : List ℕ) (count : ℕ) where
  pub few_words : count ≤ 3 → false ≡ is_listed line count
  unfolding is_listed
  few_words h = rw (le-ltb 3 count h)

  pub short_word : {list : List ℕ} → 3 < count → list ≡ word_of 3 line → length list < 2 → true ≡ is_listed line count
  unfolding is_listed
  short_word {list} h e g =
      rw (lt-ltb 3 count h, ← e, same_lengths (take 2 list) (bytes "--") (λ k. omega (arith, k, length-take 2 list)))

  pub long_word :
      {list : List ℕ} → 3 < count → list ≡ word_of 3 line → not (same_bytes (slice 0 2 list) (bytes "--")) ≡ is_listed line count
  unfolding is_listed
  long_word h e = rw (lt-ltb 3 count h, ← e)

-- ---- all of them

module _
    (line : List ℕ) (count : ℕ) {listed : Bool} {none : Options} (l : listed ≡ is_listed line count) (n : none ≡ first_options listed)
  where
    pub first_wrong : None ≡ with_next line count none → None ≡ options_of line count
    unfolding options_of
    first_wrong a = rw (← l, ← n, ← a)

    module _ {one : Options} (a : Some one ≡ with_next line count none) where
      pub second_wrong : None ≡ with_next line count one → None ≡ options_of line count
      unfolding options_of
      second_wrong b = rw (← l, ← n, ← a, ← b)

      module _ {two : Options} (b : Some two ≡ with_next line count one) where
        pub third_wrong : None ≡ with_next line count two → None ≡ options_of line count
        unfolding options_of
        third_wrong d = rw (← l, ← n, ← a, ← b, ← d)

        pub options_are :
            {three : Options} {all : Option Options} → Some three ≡ with_next line count two → all ≡ with_no_more count three
            → all ≡ options_of line count
        unfolding options_of
        options_are d e = rw (← l, ← n, ← a, ← b, ← d) e
