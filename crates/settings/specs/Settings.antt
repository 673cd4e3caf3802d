-- The settings of a run, and how codes and words change them.
use Rattle.std.specs.Prelude.{unwrap_or}
use Rattle.terms.specs.Common.{false, pos, Option}
use Rattle.lengths.specs.{declared.Len.Len, Units.len, Units.◌⊕◌, declared.Point.Point, Points.moved}
use Rattle.codes.specs.declared.{Motion.TheVariants.Off, Plane.TheVariants.G17, Unit.TheVariants.Millimetre, Distance.TheVariants.Absolute, Return.TheVariants.ToInitial, Code.Code}
use Rattle.codes.specs.declared.Code.TheVariants.{GroupA, GroupB, GroupC, GroupD, GroupE, GroupF, G04, Unknown}
use Rattle.settings.specs.declared.{Modes.Modes, Kept.Kept, State.State}

-- "A run starts with no motion code, G17, G21, G54, G90, G98, spindle off. (H)"
unfoldable pub first_modes : Modes
first_modes =
    record { motion = Off; plane = G17; unit = Millimetre; distance = Absolute; origin = 0; back = ToInitial }

-- document 02, #102: no word of a cycle is kept, the initial level being a height
unfoldable pub none_kept : Len → Kept
none_kept initial =
    record {
      initial = initial;
      z = len (pos 0);
      r = len (pos 0);
      dwell = len (pos 0);
      stands = record { z = false; r = false; dwell = false };
      under = record { z = Absolute; r = Absolute };
    }

unfoldable pub first_state : Point → Len → Len → State
first_state start feed speed =
    record { at = start; modes = first_modes; feed = feed; speed = speed; turning = false; kept = none_kept start.z }

-- what is kept, displaced: the initial level is a height, and kept words are numbers
unfoldable pub kept_moved : Len → Kept → Kept
kept_moved by k = record { initial = k.initial ⊕ by; z = k.z; r = k.r; dwell = k.dwell; stands = k.stands; under = k.under }

-- the settings with their point displaced
unfoldable pub state_moved : Point → State → State
state_moved by s =
    record {
      at = moved by s.at;
      modes = s.modes;
      feed = s.feed;
      speed = s.speed;
      turning = s.turning;
      kept = kept_moved by.z s.kept;
    }

-- a code of the groups A to F is on from its block
unfoldable pub switched : Modes → Code → Modes
switched m (GroupA motion) =
    record { motion = motion; plane = m.plane; unit = m.unit; distance = m.distance; origin = m.origin; back = m.back }
switched m (GroupB plane) =
    record { motion = m.motion; plane = plane; unit = m.unit; distance = m.distance; origin = m.origin; back = m.back }
switched m (GroupC unit) =
    record { motion = m.motion; plane = m.plane; unit = unit; distance = m.distance; origin = m.origin; back = m.back }
switched m (GroupD distance) =
    record { motion = m.motion; plane = m.plane; unit = m.unit; distance = distance; origin = m.origin; back = m.back }
switched m (GroupE origin) =
    record { motion = m.motion; plane = m.plane; unit = m.unit; distance = m.distance; origin = origin; back = m.back }
switched m (GroupF back) =
    record { motion = m.motion; plane = m.plane; unit = m.unit; distance = m.distance; origin = m.origin; back = back }
switched m G04 = m
switched m Unknown = m

-- the value of a word, or else what holds without it
unfoldable pub or_else : Option Len → Len → Len
or_else g other = unwrap_or g other
