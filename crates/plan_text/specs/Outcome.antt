-- What a whole text gives: a plan with names, or the first thing that is wrong. Assumes nothing.
use Rattle.std.specs.Prelude.{◌≡◌, ℕ, ◌+◌, List, [], ◌∷◌, ◌++◌, map, Some, None, Ok, Err, vec_items, Option, Result}
use Rattle.std.specs.Option.{option_map}
use Rattle.text.specs.Lines.{lines}
use Rattle.plan.specs.declared.stations.PlannedStation.{PlannedStation}
use Rattle.plan.specs.declared.faults.PlanFault.{PlanFault}
use Rattle.plan.specs.Verdict.{image_verdict, empty_verdict, verdict}
use Rattle.plan.specs.Building.{image_bytes, stations_of, Holds}
use Rattle.plan_text.specs.declared.expected.Expected.{Expected}
use Rattle.plan_text.specs.declared.expected.Expected.TheVariants.{ImageFirst, OneImage}
use Rattle.plan_text.specs.declared.said.StationLine.{StationLine}
use Rattle.plan_text.specs.declared.named.NamedPlan.{NamedPlan}
use Rattle.plan_text.specs.declared.reading.ReadError.{ReadError}
use Rattle.plan_text.specs.declared.reading.ReadError.TheVariants.{Unread, ImageRefused, StationRefused, Empty, NoMemory}
use Rattle.plan_text.specs.Said.{Said, nothing, image, station, line_of}

abbrev pub Name : Type 0
Name = Option (List ℕ)

pub data Outcome : Type 0 where
  accepted : ℕ → List PlannedStation → List Name → Outcome
  unread : ℕ → Expected → Outcome
  image_refused : ℕ → PlanFault → Outcome
  -- the fault; the image, stations and names before; the station and its name
  station_refused : PlanFault → ℕ → List PlannedStation → List Name → PlannedStation → Name → Outcome
  empty : PlanFault → Outcome

-- by what line n says
abbrev pub by_said : ℕ → Result Said Expected → Outcome → (ℕ → Outcome) → (PlannedStation → Name → Outcome) → Outcome
by_said n (Err expected) blank at_image at_station = unread n expected
by_said n (Ok nothing) blank at_image at_station = blank
by_said n (Ok (image bytes)) blank at_image at_station = at_image bytes
by_said n (Ok (station s name)) blank at_image at_station = at_station s name

-- go on unless a rule forbids it
abbrev pub unless : Option PlanFault → (PlanFault → Outcome) → Outcome → Outcome
unless (Some fault) stop go = stop fault
unless None stop go = go

-- line n and those after it, below the image line
abbrev pub stations_from : ℕ → ℕ → List PlannedStation → List Name → List (List ℕ) → Outcome
stations_from n bytes ss names [] = unless (empty_verdict ss) empty (accepted bytes ss names)
stations_from n bytes ss names (line ∷ ls) = by_said n (line_of line) (stations_from (n + 1) bytes ss names ls) (λ _. unread n OneImage) (λ s name. unless (verdict bytes ss s) (λ fault. station_refused fault bytes ss names s name) (stations_from (n + 1) bytes (ss ++ s ∷ []) (names ++ name ∷ []) ls))

-- line n and those after it, above the image line
abbrev pub text_from : ℕ → List (List ℕ) → Outcome
text_from n [] = unless (empty_verdict []) empty (accepted 0 [] [])
text_from n (line ∷ ls) = by_said n (line_of line) (text_from (n + 1) ls) (λ bytes. unless (image_verdict bytes) (image_refused bytes) (stations_from (n + 1) bytes [] [] ls)) (λ s name. unread n ImageFirst)

-- lines are counted from 1
abbrev pub read_text : List ℕ → Outcome
read_text text = text_from 1 (lines text)

-- the names of a plan's stations, by position
abbrev pub names_of : NamedPlan → List Name
names_of p = map (option_map (λ x. x.now)) (vec_items p.names)

-- an answer of the code is that outcome; want of memory says nothing
abbrev pub Answered : Outcome → Result NamedPlan ReadError → Type 0
Answered o (Ok p) = o ≡ accepted (image_bytes p.plan) (stations_of p.plan) (names_of p)
Answered o (Err (Unread line expected)) = o ≡ unread line expected
Answered o (Err (ImageRefused bytes fault)) = o ≡ image_refused bytes fault
Answered o (Err (StationRefused fault before refused)) = o ≡ station_refused fault (image_bytes before.plan) (stations_of before.plan) (names_of before) refused.station (option_map (λ x. x.now) refused.name)
Answered o (Err (Empty fault)) = o ≡ empty fault
Answered o (Err NoMemory) = Unit

-- what is answered is a refusal, and nothing after it counts; want of memory says nothing
abbrev pub Refuses : Option PlanFault → (PlanFault → Outcome) → ReadError → Type 0
Refuses fault refused e = (after : Outcome) → Answered (unless fault refused after) (Err e)

-- a new plan has no station and no name
abbrev pub StartedNamed : ℕ → Result NamedPlan ReadError → Type 0
StartedNamed bytes (Ok p) = (image_verdict bytes ≡ None) × Holds p.plan bytes [] × (names_of p ≡ [])
StartedNamed bytes (Err e) = Refuses (image_verdict bytes) (image_refused bytes) e

-- a station is added with its name, or refused with plan and names as they were
abbrev pub Admitted : NamedPlan → StationLine → Result NamedPlan ReadError → Type 0
Admitted before told (Ok after) = (verdict (image_bytes before.plan) (stations_of before.plan) told.station ≡ None) × Holds after.plan (image_bytes before.plan) (stations_of before.plan ++ told.station ∷ []) × (names_of after ≡ names_of before ++ option_map (λ x. x.now) told.name ∷ [])
Admitted before told (Err e) = Refuses (verdict (image_bytes before.plan) (stations_of before.plan) told.station) (λ fault. station_refused fault (image_bytes before.plan) (stations_of before.plan) (names_of before) told.station (option_map (λ x. x.now) told.name)) e
