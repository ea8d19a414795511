-- The numbers and places of a plan's refusals. Assumes nothing.
use Rattle.std.specs.Prelude.{ℕ}
use Rattle.plan.specs.declared.faults.PlanFault.{PlanFault}
use Rattle.plan.specs.declared.faults.PlanFault.TheVariants.{ImageLength, NoStations, TooManyStations, FieldOutOfRange, WindowConflict}

-- the number of the rule that is broken
abbrev pub number : PlanFault → ℕ
number ImageLength = 6
number NoStations = 6
number (TooManyStations position) = 6
number (FieldOutOfRange position field) = 6
number (WindowConflict earlier later) = 7

-- the position of the station at fault, the later of two; 0 where it is no station
abbrev pub place : PlanFault → ℕ
place ImageLength = 0
place NoStations = 0
place (TooManyStations position) = position.0
place (FieldOutOfRange position field) = position.0
place (WindowConflict earlier later) = later.0
