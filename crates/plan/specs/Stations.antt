-- A planned station and its windows. Assumes nothing.
use Rattle.std.specs.Prelude.{ℕ, Bool, List, [], ◌∷◌, ◌++◌}
use Rattle.plan.specs.declared.windows.Window.{Window}
use Rattle.plan.specs.declared.windows.Direction.TheVariants.{Output, Input}
use Rattle.plan.specs.declared.windows.MappedWindow.{MappedWindow}
use Rattle.plan.specs.declared.stations.PlannedStation.{PlannedStation}
use Rattle.plan.specs.Windows.{any_meet}

-- what a station says
abbrev pub outputs_of : PlannedStation → Window
outputs_of s = s.outputs

abbrev pub inputs_of : PlannedStation → Window
inputs_of s = s.inputs

abbrev pub mailbox_of : PlannedStation → ℕ
mailbox_of s = s.mailbox

-- a station with no window and no mailbox, and one with another field
abbrev pub bare : PlannedStation
bare = record { outputs = record { first = record { 0 = 0 }; bits = 0 }; inputs = record { first = record { 0 = 0 }; bits = 0 }; mailbox = 0 }

abbrev pub with_outputs : PlannedStation → Window → PlannedStation
with_outputs s w = record { outputs = w; inputs = s.inputs; mailbox = s.mailbox }

abbrev pub with_inputs : PlannedStation → Window → PlannedStation
with_inputs s w = record { outputs = s.outputs; inputs = w; mailbox = s.mailbox }

abbrev pub with_mailbox : PlannedStation → ℕ → PlannedStation
with_mailbox s bytes = record { outputs = s.outputs; inputs = s.inputs; mailbox = bytes }

-- the windows of a station, in the order in which they are looked at
abbrev pub windows : PlannedStation → List MappedWindow
windows s = record { direction = Output; window = s.outputs } ∷ (record { direction = Input; window = s.inputs } ∷ [])

-- the windows of a list of stations
abbrev pub all_windows : List PlannedStation → List MappedWindow
all_windows [] = []
all_windows (s ∷ ss) = windows s ++ all_windows ss

-- two stations share a bit
abbrev pub stations_meet : PlannedStation → PlannedStation → Bool
stations_meet s t = any_meet (windows s) (windows t)
