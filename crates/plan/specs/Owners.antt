-- Whose bit of the image it is. Assumes nothing.
use Rattle.std.specs.Prelude.{◌≡◌, ℕ, ◌+◌, List, [], ◌∷◌, get_or, Some, None, Option, slice_index_or}
use Rattle.std.specs.List.{find, count_by, range_with_len}
use Rattle.std.specs.Option.{is_none, option_map, option_or}
use Rattle.units.specs.Spans.{has}
use Rattle.plan.specs.declared.windows.Direction.{Direction}
use Rattle.plan.specs.declared.windows.MappedWindow.{MappedWindow}
use Rattle.plan.specs.declared.stations.PlannedStation.{PlannedStation}
use Rattle.plan.specs.declared.owners.Owner.{Owner}
use Rattle.plan.specs.Windows.{bits_of, no_window}
use Rattle.plan.specs.Stations.{windows, bare}
use Rattle.plan.specs.Meaning.{Owns}
use Rattle.plan.specs.Verdict.{position}

-- the direction of the first window that has bit k
abbrev pub direction_at : List MappedWindow → ℕ → Option Direction
direction_at ws k = option_map (λ w. w.direction) (find (λ w. has (bits_of w.window) k) ws)

abbrev pub owner : ℕ → Direction → Owner
owner i direction = record { position = position i; direction = direction }

-- the first station, counted from i, that has bit k, and the direction in which it has it
abbrev pub owner_from : ℕ → List PlannedStation → ℕ → Option Owner
owner_from i [] k = None
owner_from i (s ∷ ss) k = option_or (option_map (owner i) (direction_at (windows s) k)) (owner_from (i + 1) ss k)

-- how many of the first n bits no station has
abbrev pub free_below : List PlannedStation → ℕ → ℕ
free_below ss n = count_by (λ k. is_none (owner_from 0 ss k)) (range_with_len 0 n)

-- one of that owner's windows has bit k
abbrev pub Belongs : List PlannedStation → Owner → ℕ → Type 0
Belongs ss o k =
    let ws = windows (slice_index_or ss o.position.0 bare) in
    (j : ℕ) × Owns ws j k × ((get_or ws j no_window).direction ≡ o.direction)

-- nobody has bit k, or the owner has it and nobody else
abbrev pub OneOwner : List PlannedStation → ℕ → Option Owner → Type 0
OneOwner ss k None = (p : Owner) → Belongs ss p k → ⊥
OneOwner ss k (Some o) = Belongs ss o k × ((p : Owner) → Belongs ss p k → p ≡ o)
