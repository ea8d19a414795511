-- The numbers and places of a frame's refusals. Assumes nothing.
use Rattle.std.specs.Prelude.{ℕ}
use Rattle.frame.specs.declared.faults.FrameFault.{FrameFault}
use Rattle.frame.specs.declared.faults.FrameFault.TheVariants.{Length, EtherType, Header, Empty, Passes, DataLength, Reserved, More, Unlisted}

-- the number of the rule that is broken
abbrev pub number : FrameFault → ℕ
number (Length bytes) = 1
number (EtherType found) = 2
number (Header found) = 2
number Empty = 3
number (Passes p) = 3
number (DataLength p bytes) = 3
number (Reserved p) = 3
number (More p) = 3
number (Unlisted p code) = 4

-- the offset of what breaks it: the frame, its EtherType, its header, or a datagram
abbrev pub place : FrameFault → ℕ
place (Length bytes) = 0
place (EtherType found) = 12
place (Header found) = 14
place Empty = 16
place (Passes p) = p
place (DataLength p bytes) = p
place (Reserved p) = p
place (More p) = p
place (Unlisted p code) = p
