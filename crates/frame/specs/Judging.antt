-- What is wrong with a frame, or which datagrams it has. Assumes nothing.
use Rattle.std.specs.Prelude.{ℕ, zero, suc, ◌+◌, ◌-◌, ◌*◌, ◌/◌, ◌%◌, Bool, true, false, cond, not, ◌&&◌, List, [], ◌∷◌, length, take, drop, Some, None, Ok, Err, Option, Result, ◌==◌, nat_le, nat_lt, slice_index}
use Rattle.std.specs.Option.{option_or}
use Rattle.std.specs.Result.{result_err}
use Rattle.command.specs.declared.Command.{Command}
use Rattle.command.specs.declared.CommandKind.{CommandKind}
use Rattle.command.specs.declared.CommandKind.TheVariants as kind
use Rattle.command.specs.Codes.{command_of}
use Rattle.command.specs.Kinds.{kind_of}
use Rattle.frame.specs.declared.faults.FrameFault.{FrameFault}
use Rattle.frame.specs.declared.faults.FrameFault.TheVariants.{Length, EtherType, Header, Empty, Passes, DataLength, Reserved, More, Unlisted}
use Rattle.frame.specs.Words.{word}
use Rattle.frame.specs.Datagrams.{Placed, data_bits, reserved_bits, more_bit, size, placed_at}

abbrev pub is_listed : CommandKind → Bool
is_listed kind.Idle = true
is_listed kind.Physical = true
is_listed kind.Logical = true
is_listed kind.Unlisted = false

-- a frame knows the command
abbrev pub known : Command → Bool
known c = is_listed (kind_of c)

abbrev pub same : Bool → Bool → Bool
same true b = b
same false b = not b

-- 1 to 1,486 bytes of data
abbrev pub data_in_range : ℕ → Bool
data_in_range n = nat_le 1 n && nat_le n 1486

-- What is wrong with the length w of a datagram, that is its 16 bits with the flags, if anything is.
-- So many bytes are there up to the end of the datagrams or of the frame, which comes first; z bytes are
-- left up to the end of the datagrams as the frame's header has it; p is the datagram's offset in the frame.
abbrev pub size_fault : ℕ → ℕ → ℕ → ℕ → Option FrameFault
size_fault w there z p =
    cond (not (data_in_range (data_bits w))) (Some (DataLength p (data_bits w)))
    (cond (not (reserved_bits w == 0)) (Some (Reserved p))
    (cond (nat_lt there (data_bits w + 12)) (Some (Passes p))
    (cond (not (same (more_bit w) (nat_lt (data_bits w + 12) z))) (Some (More p))
    None)))

-- what is wrong with a datagram's command
abbrev pub command_fault : ℕ → ℕ → Option FrameFault
command_fault code p = cond (known (command_of code)) None (Some (Unlisted p code))

abbrev pub or_else : Option FrameFault → Option FrameFault → Option FrameFault
or_else = option_or

-- what is wrong with the datagram at the front of an area: rule 3, then rule 4
abbrev pub front_fault : List ℕ → ℕ → ℕ → Option FrameFault
front_fault area z p =
    cond (nat_lt (length area) 10) (Some (Passes p))
    (or_else (size_fault (word area 6) (length area) z p) (command_fault (slice_index area 0) p))

abbrev pub fault_of : {A : Type 0} → Result A FrameFault → Option FrameFault
fault_of = result_err

abbrev pub unless : {A : Type 0} → Option FrameFault → Result A FrameFault → Result A FrameFault
unless (Some e) r = Err e
unless None r = r

-- one more in front of the others, if they are sound
abbrev pub before : Placed → Result (List Placed) FrameFault → Result (List Placed) FrameFault
before d (Ok ds) = Ok (d ∷ ds)
before d (Err e) = Err e

-- The datagrams of an area in turn, the last of which ends at z, or the first fault. The first
-- argument only bounds how many there are.
abbrev pub judge : ℕ → List ℕ → ℕ → ℕ → Result (List Placed) FrameFault
judge zero area z p = Ok []
judge (suc f) area z p =
    unless (front_fault area z p)
    (cond (size area == z) (Ok (placed_at area p ∷ []))
    (before (placed_at area p) (judge f (drop (size area) area) (z - size area) (p + size area))))

abbrev pub judge_area : List ℕ → ℕ → ℕ → Result (List Placed) FrameFault
judge_area area z p = judge (suc (length area)) area z p

-- Z, how many bytes of datagrams there are by the header
abbrev pub area_size : List ℕ → ℕ
area_size bytes = word bytes 14 % 2048

-- the bytes of datagrams that are there
abbrev pub area_of : List ℕ → List ℕ
area_of bytes = take (area_size bytes) (drop 16 bytes)

-- 60 to 1,514 bytes
abbrev pub length_in_range : ℕ → Bool
length_in_range n = nat_le 60 n && nat_le n 1514

-- the EtherType, which alone stands highest byte first
abbrev pub ether_type : List ℕ → ℕ
ether_type bytes = slice_index bytes 13 + 256 * slice_index bytes 12

-- 88 A4
abbrev pub ether_cat : ℕ
ether_cat = 34980

-- bit 11 is zero, and the type in the top four bits is 1
abbrev pub header_sound : ℕ → Bool
header_sound h = h / 2048 == 2

-- how many bytes of datagrams a frame has by its header, or why it is refused before any of them is looked at
abbrev pub headed : List ℕ → Result ℕ FrameFault
headed bytes =
    cond (not (length_in_range (length bytes))) (Err (Length (length bytes)))
    (cond (not (ether_type bytes == ether_cat)) (Err (EtherType (ether_type bytes)))
    (cond (not (header_sound (word bytes 14))) (Err (Header (word bytes 14)))
    (cond (area_size bytes == 0) (Err Empty)
    (Ok (area_size bytes)))))

abbrev pub and_then : Result ℕ FrameFault → (ℕ → Result (List Placed) FrameFault) → Result (List Placed) FrameFault
and_then (Ok z) next = next z
and_then (Err e) next = Err e

-- the datagrams of a frame, or why it is refused
abbrev pub judged : List ℕ → Result (List Placed) FrameFault
judged bytes = and_then (headed bytes) (λ z. judge_area (area_of bytes) z 16)
