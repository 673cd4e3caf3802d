-- What the functions on a block's work count on.
use Rattle.std.specs.Prelude.{◌≤◌, ◌≡◌}
use Rattle.terms.specs.Common.{ℕ, Bool, true}
use Rattle.lengths.specs.{View.Within, declared.Point.Point, declared.Travel.Travel, Points.inside, Near.Near}
use Rattle.codes.specs.declared.{Cycle.Cycle, Motion.TheVariants.Drilling}
use Rattle.words.specs.{declared.Values.Values, Values.worth}
use Rattle.records.specs.{declared.Arc.Arc, declared.Record.Record, Path.path_of, Displacing.Loose}
use Rattle.records.specs.declared.Record.TheVariants.{RP, LN, AR, AL, DW, SP, SO, PA, EN}
use Rattle.settings.specs.{declared.State.State, Bounds.Aims, Bounds.KeptNear, Target.target}
use Rattle.letters.specs.declared.BlockCode.{BlockCode, TheVariants.Moving}
use Rattle.arcs.specs.{Arcs.arc_holds, Staying.stays_in}
use Rattle.blocks.specs.Motions.{Moves, centre_words, radius_fits, arc_to}
use Rattle.work.specs.declared.{Pass.Pass, Pass.TheVariants.One, Pass.TheVariants.Drill, Work.Work, Aim.Aim, Extent.Extent}
use Rattle.work.specs.Work.{work_records, aim_of}
use Rattle.arcs.specs.Bounds as Arcs

-- ---- planning

-- what the words of a block lead from, and how large they are
pub record Poised (s : State) (origin : Point) (v : Values) : Type 0 where
  pub aims : Aims origin s.at v
  pub words : Near 1_000_000_000 (centre_words v)
  pub radius : Within 1_000_000_000 (worth v.r).v
  pub kept : KeptNear s.kept

-- what the radius of an arc is tested with: the R word, the start, and the end that the words lead to
pub record Aiming (s : State) (v : Values) (end : Point) : Type 0 where
  pub radius : Within 1_000_000_000 (worth v.r).v
  pub at : Near 1_100_000_000 s.at
  pub near : Near 2_100_000_000 end

-- an arc whose radius has been accepted, where R stands
pub record Fitting (s : State) (v : Values) (end : Point) : Type 0 where
  pub aiming : Aiming s v end
  pub words : Near 1_000_000_000 (centre_words v)
  pub fits : radius_fits s v end ≡ true

-- in a cycle K is a count
pub record Counted (code : BlockCode) (v : Values) : Type 0 where
  pub k : (cycle : Cycle) → code ≡ Moving (Drilling cycle) → Within 9_999 (worth v.k).v

-- where the records of a pass come from: the words of the block. An arc leads to the end that they lead to, on one side or the other
pub record ArcFrom (s : State) (origin : Point) (v : Values) (sound : Bool) (a : Arc) : Type 0 where
  pub left : Bool
  pub fits : radius_fits s v (target s.modes.distance origin s.at v) ≡ true
  pub is : a ≡ arc_to left s v (target s.modes.distance origin s.at v)
  pub holds : sound ≡ arc_holds s.at a

abbrev pub RecordFrom : State → Point → Values → Bool → Record → Type 0
RecordFrom s origin v sound (RP p) = p ≡ target s.modes.distance origin s.at v
RecordFrom s origin v sound (LN p feed) = p ≡ target s.modes.distance origin s.at v
RecordFrom s origin v sound (AR a) = ArcFrom s origin v sound a
RecordFrom s origin v sound (AL a) = ArcFrom s origin v sound a
RecordFrom s origin v sound (DW ms) = Unit
RecordFrom s origin v sound (SP speed) = Unit
RecordFrom s origin v sound SO = Unit
RecordFrom s origin v sound PA = Unit
RecordFrom s origin v sound EN = Unit

-- a pass of one record is made once at most
abbrev pub PassFrom : State → Point → Values → Bool → ℕ → Pass → Type 0
PassFrom s origin v sound passes (One r) = RecordFrom s origin v sound r × (passes ≤ 1)
PassFrom s origin v sound passes (Drill h) = Unit

-- a work that stands for a block's motion
pub record Makes (moves : Moves) (s : State) (origin : Point) (v : Values) (w : Work) : Type 0 where
  pub records : moves.records ≡ work_records w (aim_of s origin v) s.at
  pub sound : moves.sound ≡ w.sound
  pub few : w.passes ≤ 9_999
  pub from : PassFrom s origin v w.sound w.passes w.pass

-- ---- testing and writing

-- a pass whose record can be displaced
abbrev pub PassLoose : Pass → Type 0
PassLoose (One r) = Loose (path_of r)
PassLoose (Drill h) = Unit

-- a pass of which it is asked whether it stays: an arc has been accepted from where the tool is
abbrev pub PassReady : Travel → Point → Pass → Type 0
PassReady t from (One r) = Arcs.PathBounds t from (path_of r)
PassReady t from (Drill h) = Unit

-- so little that what is added to it fits
pub record Little (e : Extent) : Type 0 where
  pub room : e.room ≤ 4_000_000_000
  pub count : e.count ≤ 4_000_000_000

abbrev pub Once : ℕ → Pass → Type 0
Once passes (One r) = passes ≤ 1
Once passes (Drill h) = Unit

-- what passes lead from: the tool is inside a travel near the machine's zero
pub record Leading (t : Travel) (aim : Aim) (from : Point) : Type 0 where
  pub low : Near 1_100_000_000 t.low
  pub high : Near 1_100_000_000 t.high
  pub inside : inside t from ≡ true
  pub origin : Near 1_000_000_000 aim.origin
  pub x : Within 1_000_000_000 (worth aim.values.x).v
  pub y : Within 1_000_000_000 (worth aim.values.y).v
  pub z : Within 1_000_000_000 (worth aim.values.z).v

pub record Testable (t : Travel) (w : Work) (aim : Aim) (e : Extent) : Type 0 where
  pub leading : Leading t aim e.end
  pub few : w.passes ≤ 9_999
  pub once : Once w.passes w.pass
  pub ready : PassReady t e.end w.pass
  pub room : e.room ≤ 1_000
  pub count : e.count ≤ 1_000

-- work that stays in such a travel
pub record Writable (w : Work) (aim : Aim) (from : Point) : Type 0 where
  pub travel : Travel
  pub leading : Leading travel aim from
  pub once : Once w.passes w.pass
  pub stays : stays_in travel from (work_records w aim from) ≡ true
