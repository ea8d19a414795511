-- What a datagram says, and where it stands. Assumes nothing.
use Rattle.std.specs.Prelude.{ℕ, ◌+◌, ◌*◌, ◌/◌, ◌%◌, Bool, List, take, drop, nat_le, slice_index}
use Rattle.command.specs.declared.Command.{Command}
use Rattle.command.specs.declared.Command.TheVariants.{Nop}
use Rattle.command.specs.Codes.{command_of}
use Rattle.frame.specs.declared.datagrams.Datagram.{Datagram}
use Rattle.frame.specs.declared.datagrams.Part.{Part}
use Rattle.frame.specs.declared.datagrams.Token.{Token}
use Rattle.frame.specs.declared.datagrams.Token.TheVariants.{Physical, Logical, Idle}
use Rattle.frame.specs.Words.{word, double}

pub record Fields : Type 0 where
  pub command : Command
  pub index : ℕ
  pub address : ℕ
  pub irq : ℕ
  pub bytes : List ℕ
  pub counter : ℕ

-- the offset is the one at which the data begin in the frame
pub record Placed : Type 0 where
  pub offset : ℕ
  pub fields : Fields

abbrev pub fields_of : Datagram → Fields
fields_of d = record { command = d.command; index = d.index; address = d.address; irq = d.irq; bytes = d.«data».now; counter = d.counter }

abbrev pub command_in : Token → Command
command_in (Physical c adp ado p) = c
command_in (Logical c a p) = c
command_in (Idle a p) = Nop

-- a physical address has ADP in its low half and ADO in its high one
abbrev pub address_in : Token → ℕ
address_in (Physical c adp ado p) = adp + 65536 * ado
address_in (Logical c a p) = a
address_in (Idle a p) = a

abbrev pub part_in : Token → Part
part_in (Physical c adp ado p) = p
part_in (Logical c a p) = p
part_in (Idle a p) = p

abbrev pub placed_of : Token → Placed
placed_of t = let p = part_in t in record { offset = p.offset; fields = record { command = command_in t; index = p.index; address = address_in t; irq = p.irq; bytes = p.«data».now; counter = p.counter } }

-- A datagram at the front of an area: command (1 byte), index (1), address (4), 16 bits for the length of
-- its data and its flags, IRQ (2), data, counter (2).

-- the length of the data, in the low 11 of the 16 bits
abbrev pub data_bits : ℕ → ℕ
data_bits w = w % 2048

-- bits 11 to 14, which are reserved
abbrev pub reserved_bits : ℕ → ℕ
reserved_bits w = w / 2048 % 16

-- bit 15, "more": another datagram follows
abbrev pub more_bit : ℕ → Bool
more_bit w = nat_le 32768 w

abbrev pub data_size : List ℕ → ℕ
data_size area = data_bits (word area 6)

-- all its bytes
abbrev pub size : List ℕ → ℕ
size area = data_size area + 12

abbrev pub fields_at : List ℕ → Fields
fields_at area = record {
  command = command_of (slice_index area 0);
  index = slice_index area 1;
  address = double area 2;
  irq = word area 8;
  bytes = take (data_size area) (drop 10 area);
  counter = word (drop 10 area) (data_size area);
}

-- the same where the area begins at p of the frame
abbrev pub placed_at : List ℕ → ℕ → Placed
placed_at area p = record { offset = p + 10; fields = fields_at area }
