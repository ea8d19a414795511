-- The bytes of datagrams, one behind the other. Assumes nothing.
use Rattle.std.specs.Prelude.{ℕ, ◌+◌, ◌/◌, ◌%◌, List, [], ◌∷◌, ◌++◌, map, length, take, drop}
use Rattle.command.specs.Codes.{code_of}
use Rattle.frame.specs.Datagrams.{Fields, Placed}

-- all bytes of a datagram
abbrev pub size_in : Fields → ℕ
size_in d = length d.bytes + 12

-- Its ten header bytes, numbers lowest byte first. The flag is 128 where another datagram follows, which
-- sets bit 15 of the 16 bits of the length, and else 0.
abbrev pub header : Fields → ℕ → List ℕ
header d flag =
    code_of d.command ∷ d.index
    ∷ (d.address % 256) ∷ (d.address / 256 % 256) ∷ (d.address / 65536 % 256) ∷ (d.address / 16777216)
    ∷ (length d.bytes % 256) ∷ (length d.bytes / 256 + flag)
    ∷ (d.irq % 256) ∷ (d.irq / 256) ∷ []

-- its counter
abbrev pub trailer : Fields → List ℕ
trailer d = (d.counter % 256) ∷ (d.counter / 256) ∷ []

abbrev pub encoded : Fields → ℕ → List ℕ
encoded d flag = header d flag ++ (d.bytes ++ trailer d)

-- bytes written over others from a place on
abbrev pub laid_at : ℕ → List ℕ → List ℕ → List ℕ
laid_at p xs buffer = take p buffer ++ (xs ++ drop (p + length xs) buffer)

-- datagrams that others follow
abbrev pub followed : List Fields → List ℕ
followed [] = []
followed (d ∷ ds) = encoded d 128 ++ followed ds

-- datagrams of which the last is the last of the frame
abbrev pub area_for : List Fields → List ℕ
area_for [] = []
area_for (d ∷ []) = encoded d 0
area_for (d ∷ e ∷ ds) = encoded d 128 ++ area_for (e ∷ ds)

-- how many bytes they take
abbrev pub total : List Fields → ℕ
total [] = 0
total (d ∷ ds) = size_in d + total ds

-- what the datagrams of a frame say
abbrev pub fields_in : List Placed → List Fields
fields_in ds = map (λ d. d.fields) ds

-- the same datagrams in a frame, the first of them at p
abbrev pub laid_from : ℕ → List Fields → List Placed
laid_from p [] = []
laid_from p (d ∷ ds) = record { offset = p + 10; fields = d } ∷ laid_from (p + size_in d) ds
