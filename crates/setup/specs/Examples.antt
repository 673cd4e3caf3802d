-- Document 01, "Numbers to try": setup T. And setups at each limit of "Lengths and the setup" and one past it, each made
-- from setup T by one change.
use Rattle.std.specs.Prelude.{◌∷◌, ◌++◌}
use Rattle.terms.specs.Common.{ℕ, Bool, true, false, List, [], ℤ, pos, negsuc, neg_ℤ, get_or, set}
use Rattle.setup.specs.declared.{Axes.Axes, Setup.Setup}

abbrev axes : ℤ → ℤ → ℤ → Axes
axes x y z = record { x = x; y = y; z = z }

abbrev nought : Axes
nought = axes (pos 0) (pos 0) (pos 0)

-- "Setup T: travel X 0 to 20,000,000, Y 0 to 15,000,000, Z −6,000,000 to 0; start 0 0 0; EXOFS 0; G54 at 1,000,000 1,000,000
-- −4,000,000, others 0; feed 30,000,000; speeds 3000 to 8000, speed 5000; switch off"
abbrev pub setup_t : Setup
setup_t =
    record {
      low = axes (pos 0) (pos 0) (negsuc 5_999_999);
      high = axes (pos 20_000_000) (pos 15_000_000) (pos 0);
      start = nought;
      exofs = nought;
      origins =
          axes (pos 1_000_000) (pos 1_000_000) (negsuc 3_999_999) ∷ nought ∷ nought ∷ nought ∷ nought ∷ nought ∷ [];
      feed = pos 30_000_000;
      lowest = pos 3_000;
      highest = pos 8_000;
      speed = pos 5_000;
      skip = pos 0;
    }

-- ---- setup T with one change

-- one axis with another number
abbrev at_x : ℤ → Axes → Axes
at_x n a = axes n a.y a.z

abbrev at_y : ℤ → Axes → Axes
at_y n a = axes a.x n a.z

abbrev at_z : ℤ → Axes → Axes
at_z n a = axes a.x a.y n

-- another travel and start on one axis
abbrev travelling : (ℤ → Axes → Axes) → ℤ → ℤ → ℤ → Setup
travelling at low high start =
    record {
      low = at low setup_t.low;
      high = at high setup_t.high;
      start = at start setup_t.start;
      exofs = setup_t.exofs;
      origins = setup_t.origins;
      feed = setup_t.feed;
      lowest = setup_t.lowest;
      highest = setup_t.highest;
      speed = setup_t.speed;
      skip = setup_t.skip;
    }

-- another common offset and other origins
abbrev displaced : Axes → List Axes → Setup
displaced exofs origins =
    record {
      low = setup_t.low;
      high = setup_t.high;
      start = setup_t.start;
      exofs = exofs;
      origins = origins;
      feed = setup_t.feed;
      lowest = setup_t.lowest;
      highest = setup_t.highest;
      speed = setup_t.speed;
      skip = setup_t.skip;
    }

abbrev offset_on : (ℤ → Axes → Axes) → ℤ → Setup
offset_on at n = displaced (at n setup_t.exofs) setup_t.origins

abbrev origin_on : ℕ → (ℤ → Axes → Axes) → ℤ → Setup
origin_on k at n = displaced setup_t.exofs (set setup_t.origins k (at n (get_or setup_t.origins k nought)))

-- another feed, other speeds, another switch
abbrev running : ℤ → ℤ → ℤ → ℤ → ℤ → Setup
running feed lowest highest speed skip =
    record {
      low = setup_t.low;
      high = setup_t.high;
      start = setup_t.start;
      exofs = setup_t.exofs;
      origins = setup_t.origins;
      feed = feed;
      lowest = lowest;
      highest = highest;
      speed = speed;
      skip = skip;
    }

abbrev feeding : ℤ → Setup
feeding feed = running feed setup_t.lowest setup_t.highest setup_t.speed setup_t.skip

abbrev turning : ℕ → ℕ → ℕ → Setup
turning lowest highest speed = running setup_t.feed (pos lowest) (pos highest) (pos speed) setup_t.skip

abbrev switched : ℤ → Setup
switched skip = running setup_t.feed setup_t.lowest setup_t.highest setup_t.speed skip

-- ---- which of them are valid

pub record Row : Type 0 where
  pub setup : Setup
  pub valid : Bool

abbrev yes : Setup → Row
yes s = record { setup = s; valid = true }

abbrev no : Setup → Row
no s = record { setup = s; valid = false }

abbrev minus : ℕ → ℤ
minus n = neg_ℤ (pos n)

abbrev travel_rows : (ℤ → Axes → Axes) → List Row
travel_rows at =
    yes (travelling at (minus 100_000_000) (pos 100_000_000) (pos 0))
    ∷ no (travelling at (minus 100_000_001) (pos 100_000_000) (pos 0))
    ∷ no (travelling at (minus 100_000_000) (pos 100_000_001) (pos 0))
    -- a travel of one place, at both limits
    ∷ yes (travelling at (pos 100_000_000) (pos 100_000_000) (pos 100_000_000))
    ∷ no (travelling at (pos 100_000_001) (pos 100_000_001) (pos 100_000_001))
    ∷ yes (travelling at (minus 100_000_000) (minus 100_000_000) (minus 100_000_000))
    ∷ no (travelling at (minus 100_000_001) (minus 100_000_001) (minus 100_000_001))
    -- "low not above high", wherever the start is
    ∷ no (travelling at (pos 1) (pos 0) (pos 0))
    ∷ no (travelling at (pos 1) (pos 0) (pos 1))
    -- "a start point inside the travel"
    ∷ no (travelling at (minus 10) (pos 20) (minus 11))
    ∷ yes (travelling at (minus 10) (pos 20) (minus 10))
    ∷ yes (travelling at (minus 10) (pos 20) (pos 20))
    ∷ no (travelling at (minus 10) (pos 20) (pos 21)) ∷ []

-- of one number of the common offset or of an origin
abbrev offset_rows : (ℤ → Setup) → List Row
offset_rows with' =
    no (with' (minus 1_000_000_001)) ∷ yes (with' (minus 1_000_000_000))
    ∷ yes (with' (pos 1_000_000_000)) ∷ no (with' (pos 1_000_000_001)) ∷ []

abbrev origin_rows : ℕ → List Row
origin_rows k = offset_rows (origin_on k at_x) ++ offset_rows (origin_on k at_y) ++ offset_rows (origin_on k at_z)

abbrev feed_rows : List Row
feed_rows =
    no (feeding (minus 1)) ∷ no (feeding (pos 0)) ∷ yes (feeding (pos 1))
    ∷ yes (feeding (pos 1_000_000_000)) ∷ no (feeding (pos 1_000_000_001)) ∷ []

-- lowest, highest and set speed
abbrev speed_rows : List Row
speed_rows =
    no (turning 0 8_000 5_000) ∷ yes (turning 1 8_000 5_000)
    ∷ yes (turning 3_000 99_999 5_000) ∷ no (turning 3_000 100_000 5_000)
    -- one speed only, at both limits
    ∷ no (turning 0 0 0) ∷ yes (turning 1 1 1)
    ∷ yes (turning 99_999 99_999 99_999) ∷ no (turning 100_000 100_000 100_000)
    -- "lowest not above highest", "a speed between them"
    ∷ no (turning 5_001 4_999 5_000)
    ∷ no (turning 3_000 8_000 2_999) ∷ yes (turning 3_000 8_000 3_000)
    ∷ yes (turning 3_000 8_000 8_000) ∷ no (turning 3_000 8_000 8_001) ∷ []

abbrev switch_rows : List Row
switch_rows = no (switched (minus 1)) ∷ yes (switched (pos 0)) ∷ yes (switched (pos 1)) ∷ no (switched (pos 2)) ∷ []

abbrev pub rows : List Row
rows =
    yes setup_t
    ∷ travel_rows at_x ++ travel_rows at_y ++ travel_rows at_z
    ++ offset_rows (offset_on at_x) ++ offset_rows (offset_on at_y) ++ offset_rows (offset_on at_z)
    ++ origin_rows 0 ++ origin_rows 1 ++ origin_rows 2 ++ origin_rows 3 ++ origin_rows 4 ++ origin_rows 5
    ++ feed_rows ++ speed_rows ++ switch_rows
