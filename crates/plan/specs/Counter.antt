-- The working counter that a plan expects. Assumes nothing.
use Rattle.std.specs.Prelude.{ℕ, ◌+◌, Bool, true, false, cond, not, ◌&&◌, List, [], ◌∷◌, nat_lt}
use Rattle.std.specs.List.{list_any}
use Rattle.plan.specs.declared.windows.Direction.{Direction}
use Rattle.plan.specs.declared.windows.Direction.TheVariants.{Output, Input}
use Rattle.plan.specs.declared.stations.PlannedStation.{PlannedStation}
use Rattle.plan.specs.Stations.{windows}

abbrev pub is_output : Direction → Bool
is_output Output = true
is_output Input = false

-- some window of inputs has bits
abbrev pub has_inputs : PlannedStation → Bool
has_inputs s = list_any (λ w. not (is_output w.direction) && nat_lt 0 w.window.bits) (windows s)

-- some window of outputs has bits
abbrev pub has_outputs : PlannedStation → Bool
has_outputs s = list_any (λ w. is_output w.direction && nat_lt 0 w.window.bits) (windows s)

-- some window of that direction has bits
abbrev pub has_bits : Direction → PlannedStation → Bool
has_bits Output s = has_outputs s
has_bits Input s = has_inputs s

-- what a station in SafeOp or Op adds to the working counter of an exchange
abbrev pub weight : PlannedStation → ℕ
weight s = cond (has_inputs s) 1 0 + cond (has_outputs s) 2 0

-- 1 for each station with inputs, 2 for each with outputs
abbrev pub expected_counter : List PlannedStation → ℕ
expected_counter [] = 0
expected_counter (s ∷ ss) = weight s + expected_counter ss
