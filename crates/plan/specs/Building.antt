-- What the calls that build a plan leave. Assumes nothing.
use Rattle.std.specs.Prelude.{◌≡◌, ℕ, List, [], ◌∷◌, ◌++◌, Some, None, Ok, Err, vec_items, Result}
use Rattle.plan.specs.declared.faults.PlanFault.{PlanFault}
use Rattle.plan.specs.declared.faults.PlanError.{PlanError}
use Rattle.plan.specs.declared.faults.PlanError.TheVariants.{Refused, Memory}
use Rattle.plan.specs.declared.stations.PlannedStation.{PlannedStation}
use Rattle.plan.specs.declared.plans.Plan.{Plan}
use Rattle.plan.specs.Verdict.{image_verdict, verdict}

-- the bytes of the plan's image
abbrev pub image_bytes : Plan → ℕ
image_bytes p = p.bytes

-- the plan's stations, by position
abbrev pub stations_of : Plan → List PlannedStation
stations_of p = vec_items p.stations

-- a plan holds that image and those stations
abbrev pub Holds : Plan → ℕ → List PlannedStation → Type 0
Holds p bytes ss = (image_bytes p ≡ bytes) × (stations_of p ≡ ss)

-- a new plan has no station; it is refused as the verdict says
abbrev pub Started : ℕ → Result Plan PlanFault → Type 0
Started bytes (Ok p) = (image_verdict bytes ≡ None) × Holds p bytes []
Started bytes (Err fault) = image_verdict bytes ≡ Some fault

-- a station is added at the end; a refusal and want of memory leave the plan as it was
abbrev pub Added : Plan → PlannedStation → Result Unit PlanError → Plan → Type 0
Added before s (Ok _) after = (verdict (image_bytes before) (stations_of before) s ≡ None) × Holds after (image_bytes before) (stations_of before ++ s ∷ [])
Added before s (Err (Refused fault)) after = (verdict (image_bytes before) (stations_of before) s ≡ Some fault) × Holds after (image_bytes before) (stations_of before)
Added before s (Err Memory) after = (verdict (image_bytes before) (stations_of before) s ≡ None) × Holds after (image_bytes before) (stations_of before)
