-- How large a plan and its fields may be. Assumes nothing.
use Rattle.std.specs.Prelude.{ℕ, Bool, ◌&&◌, ◌||◌, ◌==◌, nat_le, nat_lt}
use Rattle.plan.specs.declared.windows.Window.{Window}

-- the most stations that a plan, or a rack, holds
abbrev pub max_stations : ℕ
max_stations = 32

-- an image has 1 to 1,024 bytes
abbrev pub image_in_range : ℕ → Bool
image_in_range bytes = nat_le 1 bytes && nat_le bytes 1024

-- a window has at most 512 bits, and one of no bits begins at bit 0
abbrev pub window_in_range : Window → Bool
window_in_range w = nat_le w.bits 512 && (nat_lt 0 w.bits || w.first.0 == 0)

-- there is no mailbox, or one of 16 to 128 bytes
abbrev pub mailbox_in_range : ℕ → Bool
mailbox_in_range bytes = bytes == 0 || (nat_le 16 bytes && nat_le bytes 128)
