-- What the ten header bytes of a datagram say. Assumes nothing.
use Rattle.std.specs.Prelude.{◌≡◌, ℕ, ◌+◌, ◌≤◌, List, length, drop, slice_index}
use Rattle.command.specs.Codes.{command_of}
use Rattle.frame.specs.declared.headers.Header.{Header}
use Rattle.frame.specs.Datagrams.{Fields}
use Rattle.frame.specs.Words.{word, double}

abbrev pub header_at : List ℕ → Header
header_at area = record { code = slice_index area 0; index = slice_index area 1; address = double area 2; size = word area 6; irq = word area 8 }

-- a header and what follows it
pub record SplitOff (area : List ℕ) (h : Header) (rest : List ℕ) : Type 0 where
  pub long : 10 ≤ length area
  pub header : h ≡ header_at area
  pub behind : rest ≡ drop 10 area
  pub left : length rest + 10 ≡ length area

-- what a datagram says that has this header
abbrev pub fields_with : Header → List ℕ → ℕ → Fields
fields_with h bytes counter = record { command = command_of h.code; index = h.index; address = h.address; irq = h.irq; bytes = bytes; counter = counter }
