-- A frame of some datagrams. Assumes nothing.
use Rattle.std.specs.Prelude.{◌≡◌, ℕ, ◌+◌, ◌-◌, ◌/◌, ◌%◌, ◌≤◌, List, [], ◌∷◌, ◌++◌, length, drop, replicate, Ok}
use Rattle.frame.specs.Datagrams.{Fields, Placed}
use Rattle.frame.specs.Judging.{judged, area_of, area_size}
use Rattle.frame_writer.specs.Encoding.{area_for, total, laid_from, fields_in}

-- to everyone, from this master, EtherCAT
abbrev pub ethernet : List ℕ
ethernet = 255 ∷ 255 ∷ 255 ∷ 255 ∷ 255 ∷ 255 ∷ 2 ∷ 0 ∷ 0 ∷ 0 ∷ 0 ∷ 1 ∷ 136 ∷ 164 ∷ []

-- the EtherCAT header: how many bytes of datagrams follow, and type 1 in the top four bits
abbrev pub ethercat : ℕ → List ℕ
ethercat z = (z % 256) ∷ (z / 256 + 16) ∷ []

abbrev pub head_of : ℕ → List ℕ
head_of z = ethernet ++ ethercat z

-- the whole frame, with zeros up to 60 bytes
abbrev pub frame_of : List Fields → List ℕ
frame_of ds = head_of (total ds) ++ (area_for ds ++ replicate (44 - total ds) 0)

-- a frame over the first bytes of a buffer, whose other bytes stay
abbrev pub over : List ℕ → List ℕ → List ℕ
over frame buffer = frame ++ drop (length frame) buffer

-- The first round trip: the frame is accepted, and read it gives its datagrams.
pub record ReadsAs (frame : List ℕ) (ds : List Fields) : Type 0 where
  pub long : 60 ≤ length frame
  pub short : length frame ≤ 1514
  pub reads : judged frame ≡ Ok (laid_from 16 ds)

-- these datagrams have been written over a buffer, as a frame of so many bytes
pub record Written (before : List ℕ) (ds : List Fields) (bytes : ℕ) (after : List ℕ) : Type 0 where
  pub frame : after ≡ over (frame_of ds) before
  pub len : bytes ≡ length (frame_of ds)
  pub trip : ReadsAs (frame_of ds) ds

-- The second round trip: an accepted frame's datagrams have been written again, and the datagram area of
-- the new frame is that of the first, byte for byte.
pub record Rewritten (before frame : List ℕ) (bytes : ℕ) (after : List ℕ) : Type 0 where
  pub datagrams : List Placed
  pub accepted : judged frame ≡ Ok datagrams
  pub written : Written before (fields_in datagrams) bytes after
  pub size : area_size (frame_of (fields_in datagrams)) ≡ area_size frame
  pub area : area_of (frame_of (fields_in datagrams)) ≡ area_of frame
