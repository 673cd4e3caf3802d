-- The walk through the blocks of a program: executed blocks, calls, budget and room.
use Rattle.std.specs.Prelude.{◌+◌, ◌-◌, ◌&&◌, ◌||◌, ◌∷◌, ◌++◌, if◌then◌else◌}
use Rattle.terms.specs.Common.{ℕ, zero, suc, Bool, true, false, Option, None, Some, List, [], eqb, drop}
use Rattle.refusals.specs.declared.{Refusal.Refusal, Refusal.TheVariants.NoEnd, Place.Place}
use Rattle.records.specs.{declared.Record.Record, Layout.room_of}
use Rattle.settings.specs.declared.State.{State}
use Rattle.blocks.specs.{Machine.Machine, declared.Control.Control, Exec.Verdict, Exec.refused, Exec.accepted, Exec.exec, Exec.calls_in}
use Rattle.blocks.specs.declared.Control.TheVariants.{On, Call, Back, Stop}
use Rattle.lines.specs.Blocks.{Block, closes, opens, is_slashed}
use Rattle.programs.specs.{Openings.place_of, Openings.known, Openings.blocks_at, declared.Program.Program}
use Rattle.runs.specs.declared.Budget.{Budget, TheVariants.Whole, TheVariants.First}

-- What stays as it is while a data set runs; `finish` is one past the last block, at the data length.
pub record Job : Type 0 where
  pub machine : Machine
  pub skips : Bool
  pub blocks : List Block
  pub finish : Place
  pub programs : List Program

-- What changes from block to block: the settings, the room left in the list, and the blocks that may still be executed.
pub record Going : Type 0 where
  pub state : State
  pub room : ℕ
  pub budget : Budget

unfoldable pub is_spent : Budget → Bool
is_spent Whole = false
is_spent (First n) = eqb n 0

unfoldable pub one_less : Budget → Budget
one_less Whole = Whole
one_less (First n) = First (n - 1)

-- How a walk ends: the program's end, a return with what goes on, the budget's end, or a refusal with its place.
pub data How : Type 0 where
  ended : How
  returned : Going → How
  unfinished : How
  refused_at : Refusal → Place → How

-- What a walk leaves: how it ended, its records, the settings where it stands, and, where the budget is spent, the place of
-- the block that comes next.
pub record Outcome : Type 0 where
  pub how : How
  pub made : List Record
  pub last : State
  pub next : Place

abbrev pub nowhere : Place
nowhere = record { block = 0; byte = 0 }

-- an end with no record more: "the settings are those before the block" also where it is refused
abbrev pub just : How → State → Outcome
just how s = record { how = how; made = []; last = s; next = nowhere }

-- the budget is spent before the block at a place
abbrev pub spent_at : State → Place → Outcome
spent_at s place = record { how = unfinished; made = []; last = s; next = place }

-- an outcome that comes after records
unfoldable pub after : List Record → Outcome → Outcome
after made o = record { how = o.how; made = made ++ o.made; last = o.last; next = o.next }

-- "every block reached counting, empty and skipped ones too": the block's unit of the budget, and its records' room
unfoldable pub going_on : Going → State → List Record → Going
going_on g s made = record { state = s; room = g.room - room_of made; budget = one_less g.budget }

-- what follows a call: "M99: returns", to the block after the call
unfoldable pub then_rest : How → State → Place → (Going → Outcome) → Outcome
then_rest ended s next rest = just ended s
then_rest (returned g) s next rest = rest g
then_rest unfinished s next rest = spent_at s next
then_rest (refused_at refusal place) s next rest = just (refused_at refusal place) s

unfoldable pub follow : Control → (ℕ → Going → Outcome) → (Going → Outcome) → Going → Outcome
follow On callee rest g = rest g
follow (Call n) callee rest g = let o = callee n g in after o.made (then_rest o.how o.last o.next rest)
follow Back callee rest g = just (returned g) g.state
follow Stop callee rest g = just ended g.state

unfoldable pub obey : Verdict → Block → (ℕ → Going → Outcome) → (Going → Outcome) → Going → Outcome
obey (refused blame) b callee rest g =
    just (refused_at blame.refusal (record { block = b.number; byte = blame.byte })) g.state
obey (accepted s control made) b callee rest g = after made (follow control callee rest (going_on g s made))

-- "`/` as first byte: the block is skipped unread when the switch is on, and the slash ignored when off."
unfoldable pub is_skipped : Job → Block → Bool
is_skipped job b = is_slashed b && job.skips

unfoldable pub slash_length : Block → ℕ
slash_length b = if is_slashed b then 1 else 0

unfoldable pub verdict_on : Job → ℕ → Block → Going → Verdict
verdict_on job left b g =
    exec job.machine (calls_in job.programs left) g.room g.state b.start (b.start + slash_length b)
    (drop (slash_length b) b.text)

unfoldable pub run_block : Bool → Job → ℕ → (ℕ → Going → Outcome) → Block → (Going → Outcome) → Going → Outcome
run_block true job left callee b rest g = rest (going_on g g.state [])
run_block false job left callee b rest g = obey (verdict_on job left b g) b callee rest g

-- A block that is reached: nothing where the budget is spent; 14 where the program has no more blocks, at the next opening
-- or `%`; else the block.
unfoldable pub reached : Bool → Bool → Place → (Going → Outcome) → Going → Outcome
reached true is_end place run g = spent_at g.state place
reached false true place run g = just (refused_at NoEnd place) g.state
reached false false place run g = run g

unfoldable pub walk : Job → ℕ → (ℕ → Going → Outcome) → List Block → Going → Outcome
walk job left callee [] g = reached (is_spent g.budget) true job.finish (λ g'. just unfinished g'.state) g
walk job left callee (b ∷ bs) g =
    reached (is_spent g.budget) (opens b || closes b) (place_of b)
    (run_block (is_skipped job b) job left callee b (walk job left callee bs)) g

-- the blocks of the subprogram of a number; a block that calls an unknown number is refused before
unfoldable pub blocks_for : List Block → Option Program → List Block
blocks_for bs None = []
blocks_for bs (Some p) = blocks_at bs p

-- "Main may call a first level, down to a fourth." The callees of a program from which so many levels are left; a block
-- that calls where none is left is refused before.
unfoldable pub callees : Job → ℕ → ℕ → Going → Outcome
callees job zero n g = just unfinished g.state
callees job (suc left) n g = walk job left (callees job left) (blocks_for job.blocks (known job.programs n)) g
