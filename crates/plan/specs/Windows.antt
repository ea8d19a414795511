-- Windows, and the bits of the image that they have. Assumes nothing.
use Rattle.std.specs.Prelude.{ℕ, ◌+◌, ◌-◌, ◌*◌, min, max, Bool, false, not, ◌||◌, List, [], ◌∷◌}
use Rattle.std.specs.List.{list_any}
use Rattle.units.specs.declared.ImageBit.{ImageBit}
use Rattle.units.specs.declared.Span.{Span}
use Rattle.units.specs.Spans.{Range, spanned, within, meet}
use Rattle.plan.specs.declared.windows.Window.{Window}
use Rattle.plan.specs.declared.windows.Direction.TheVariants.{Output}
use Rattle.plan.specs.declared.windows.MappedWindow.{MappedWindow}

-- the bits of the image in a span
abbrev pub range_of : Span ImageBit → Range
range_of span = spanned (λ bit. bit.0) span

-- the bits of the image that a window has
abbrev pub bits_of : Window → Range
bits_of w = record { first = w.first.0; count = w.bits }

-- all bits of an image of so many bytes
abbrev pub image_bits : ℕ → Range
image_bits bytes = record { first = 0; count = 8 * bytes }

-- the bits that both have
abbrev pub common : Range → Range → Range
common x y = record {
  first = max x.first y.first;
  count = min (x.first + x.count) (y.first + y.count) - max x.first y.first;
}

-- what stands past the end of a list of windows: no bits
abbrev pub no_window : MappedWindow
no_window = record { direction = Output; window = record { first = record { 0 = 0 }; bits = 0 } }

-- some window leaves the image
abbrev pub any_leaves : Range → List MappedWindow → Bool
any_leaves image ws = list_any (λ w. not (within (bits_of w.window) image)) ws

-- a window shares a bit with one of the others
abbrev pub meets_any : Window → List MappedWindow → Bool
meets_any w vs = list_any (λ v. meet (bits_of w) (bits_of v.window)) vs

-- a window of the one list shares a bit with a window of the other
abbrev pub any_meet : List MappedWindow → List MappedWindow → Bool
any_meet ws vs = list_any (λ w. meets_any w.window vs) ws

-- two windows of the list share a bit
abbrev pub pair_meets : List MappedWindow → Bool
pair_meets [] = false
pair_meets (w ∷ ws) = meets_any w.window ws || pair_meets ws
