-- What forbids a station, in the order in which it is looked at. Assumes nothing.
use Rattle.std.specs.Prelude.{ℕ, Bool, not, List, [], ◌∷◌, length, is_some, Some, None, Option, nat_le}
use Rattle.std.specs.Bool.{then_some}
use Rattle.std.specs.List.{list_any, position_from}
use Rattle.std.specs.Option.{option_map, option_or}
use Rattle.units.specs.declared.LinePosition.{LinePosition}
use Rattle.plan.specs.declared.faults.StationField.{StationField}
use Rattle.plan.specs.declared.faults.StationField.TheVariants.{Outputs, Inputs, Mailbox}
use Rattle.plan.specs.declared.faults.PlanFault.{PlanFault}
use Rattle.plan.specs.declared.faults.PlanFault.TheVariants.{ImageLength, NoStations, TooManyStations, FieldOutOfRange, WindowConflict}
use Rattle.plan.specs.declared.stations.PlannedStation.{PlannedStation}
use Rattle.plan.specs.Limits.{max_stations, image_in_range, window_in_range, mailbox_in_range}
use Rattle.plan.specs.Windows.{image_bits, any_leaves, pair_meets}
use Rattle.plan.specs.Stations.{windows, stations_meet}

abbrev pub position : ℕ → LinePosition
position n = record { 0 = n }

-- the first field of the station that is out of range
abbrev pub field_out_of_range : PlannedStation → Option StationField
field_out_of_range s = option_or (then_some (not (window_in_range s.outputs)) Outputs) (option_or (then_some (not (window_in_range s.inputs)) Inputs) (then_some (not (mailbox_in_range s.mailbox)) Mailbox))

-- some station has a field out of range
abbrev pub any_out_of_range : List PlannedStation → Bool
any_out_of_range ss = list_any (λ s. is_some (field_out_of_range s)) ss

-- the position of the first station that shares a bit with the new one
abbrev pub first_met : List PlannedStation → PlannedStation → Option ℕ
first_met ss s = position_from (λ t. stations_meet t s) 0 ss

-- what forbids an image of so many bytes
abbrev pub image_verdict : ℕ → Option PlanFault
image_verdict bytes = then_some (not (image_in_range bytes)) ImageLength

-- a plan that is to be used has a station
abbrev pub empty_verdict : List PlannedStation → Option PlanFault
empty_verdict [] = Some NoStations
empty_verdict (s ∷ ss) = None

-- what forbids a new station s behind the stations ss: first rule 6, then rule 7, which holds it
-- against the image, then against earlier positions upward, then against its own windows
abbrev pub verdict : ℕ → List PlannedStation → PlannedStation → Option PlanFault
verdict bytes ss s =
    let here = position (length ss) in
    option_or (then_some (nat_le max_stations (length ss)) (TooManyStations here))
    (option_or (option_map (λ field. FieldOutOfRange here field) (field_out_of_range s))
    (option_or (then_some (any_leaves (image_bits bytes) (windows s)) (WindowConflict here here))
    (option_or (option_map (λ earlier. WindowConflict (position earlier) here) (first_met ss s))
    (then_some (pair_meets (windows s)) (WindowConflict here here)))))
