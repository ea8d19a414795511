-- What a plan that exists means for the bits of the image. Assumes nothing.
use Rattle.std.specs.Prelude.{◌≡◌, ℕ, ◌*◌, ◌<◌, true, List, [], ◌∷◌, ◌++◌, length, slice_index_or}
use Rattle.units.specs.Spans.{Range, Has}
use Rattle.plan.specs.declared.windows.MappedWindow.{MappedWindow}
use Rattle.plan.specs.declared.stations.PlannedStation.{PlannedStation}
use Rattle.plan.specs.Limits.{max_stations, window_in_range, mailbox_in_range}
use Rattle.plan.specs.Windows.{bits_of, no_window}
use Rattle.plan.specs.Stations.{all_windows}

-- bit k of the image belongs to window i of the list
abbrev pub Owns : List MappedWindow → ℕ → ℕ → Type 0
Owns ws i k = Has (bits_of (slice_index_or ws i no_window).window) k

-- a range has exactly the bits that two others both have
abbrev pub Shared : Range → Range → Range → Type 0
Shared x y z = (k : ℕ) → (Has z k → Has x k × Has y k) × (Has x k × Has y k → Has z k)

-- each window lies in the image, and no image bit belongs to two windows
pub record Exclusive (bytes : ℕ) (ws : List MappedWindow) : Type 0 where
  pub inside : (i k : ℕ) → Owns ws i k → k < 8 * bytes
  pub one : (i j k : ℕ) → Owns ws i k → Owns ws j k → i ≡ j

-- a station that breaks no rule behind the stations ss
pub record Sound (bytes : ℕ) (ss : List PlannedStation) (s : PlannedStation) : Type 0 where
  pub room : length ss < max_stations
  pub outputs : window_in_range s.outputs ≡ true
  pub inputs : window_in_range s.inputs ≡ true
  pub mailbox : mailbox_in_range s.mailbox ≡ true
  pub exclusive : Exclusive bytes (all_windows (ss ++ s ∷ []))
