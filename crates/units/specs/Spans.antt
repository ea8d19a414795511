-- Spans of units, by the units' numbers. Assumes nothing.
use Rattle.std.specs.Prelude.{ℕ, ◌+◌, ◌<◌, ◌≤◌, Bool, ◌&&◌, ◌||◌, ◌==◌, nat_le, nat_lt}
use Rattle.units.specs.declared.Span.{Span}

-- so many units in a row, from the first one on; the first after it is no part of it
pub record Range : Type 0 where
  pub first : ℕ
  pub count : ℕ

-- the unit k is one of the range
abbrev pub Has : Range → ℕ → Type 0
Has x k = (x.first ≤ k) × (k < x.first + x.count)

abbrev pub has : Range → ℕ → Bool
has x k = nat_le x.first k && nat_lt k (x.first + x.count)

-- every unit of the one is a unit of the other
abbrev pub Within : Range → Range → Type 0
Within x y = (k : ℕ) → Has x k → Has y k

abbrev pub within : Range → Range → Bool
within x y = x.count == 0 || (nat_le y.first x.first && nat_le (x.first + x.count) (y.first + y.count))

-- some unit is a unit of both
abbrev pub Meet : Range → Range → Type 0
Meet x y = (k : ℕ) × Has x k × Has y k

abbrev pub meet : Range → Range → Bool
meet x y = nat_lt 0 x.count && (nat_lt 0 y.count && (nat_lt x.first (y.first + y.count) && nat_lt y.first (x.first + x.count)))

-- the units of a span, by the number that each kind of unit has
abbrev pub spanned : {U : Type 0} → (U → ℕ) → Span U → Range
spanned number span = record { first = number span.first; count = span.count }
