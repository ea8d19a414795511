-- What is said of a datagram. Assumes nothing.
use Rattle.std.specs.Prelude.{ℕ, ◌-◌, ◌/◌, ◌%◌, List, ◌++◌, codes, decimal}
use Rattle.command.specs.declared.Command.{Command}
use Rattle.command.specs.declared.CommandKind.{CommandKind}
use Rattle.command.specs.declared.CommandKind.TheVariants as kind
use Rattle.command.specs.Kinds.{kind_of}
use Rattle.command.specs.Names.{name_of}
use Rattle.frame.specs.Datagrams.{Fields, Placed}
use Rattle.frame_text.specs.Digits.{hex2, hex4, hex8, hex_bytes}

-- ADP and ADO, or a logical address
abbrev pub address_in : CommandKind → ℕ → List ℕ
address_in kind.Idle a = hex4 (a % 65536) ++ (codes ":" ++ hex4 (a / 65536))
address_in kind.Physical a = hex4 (a % 65536) ++ (codes ":" ++ hex4 (a / 65536))
address_in kind.Logical a = hex8 a
address_in kind.Unlisted a = hex4 (a % 65536) ++ (codes ":" ++ hex4 (a / 65536))

abbrev pub address_of : Command → ℕ → List ℕ
address_of c a = address_in (kind_of c) a

-- where a datagram stands, and whom it addresses
abbrev pub heading_for : ℕ → Command → ℕ → List ℕ
heading_for at c a = codes "at " ++ (decimal at ++ (codes " " ++ (name_of c ++ (codes " " ++ address_of c a))))

-- a datagram that begins at that offset
abbrev pub line_for : ℕ → Fields → List ℕ
line_for at d =
    heading_for at d.command d.address
    ++ (codes " index " ++ (hex2 d.index
    ++ (codes " irq " ++ (hex4 d.irq
    ++ (codes " data " ++ (hex_bytes d.bytes
    ++ (codes " counter " ++ decimal d.counter)))))))

-- a datagram where it stands in its frame
abbrev pub line_of : Placed → List ℕ
line_of p = line_for (p.offset - 10) p.fields
