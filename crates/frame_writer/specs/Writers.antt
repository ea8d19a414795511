-- What a frame under way holds. Assumes nothing.
use Rattle.std.specs.Prelude.{◌≡◌, ℕ, ◌+◌, ◌≤◌, true, List, [], ◌∷◌, length, take, drop, Option, Some, None}
use Rattle.frame.specs.Datagrams.{Fields}
use Rattle.frame.specs.Judging.{known}
use Rattle.frame_writer.specs.declared.writers.Laid.{Laid}
use Rattle.frame_writer.specs.declared.writers.Writer.{Writer}
use Rattle.frame_writer.specs.Encoding.{size_in, followed, total}

-- where the last datagram begins, if the first begins at p
abbrev pub last_from : ℕ → List Fields → ℕ
last_from p [] = 0
last_from p (d ∷ []) = p
last_from p (d ∷ e ∷ ds) = last_from (p + size_in d) (e ∷ ds)

-- how many bytes of data it has
abbrev pub last_size : List Fields → ℕ
last_size [] = 0
last_size (d ∷ []) = length d.bytes
last_size (d ∷ e ∷ ds) = last_size (e ∷ ds)

-- a datagram that a frame may have
pub record Valid (d : Fields) : Type 0 where
  pub some : 1 ≤ length d.bytes
  pub few : length d.bytes ≤ 1486
  pub listed : known d.command ≡ true

abbrev pub AllValid : List Fields → Type 0
AllValid [] = Unit {0}
AllValid (d ∷ ds) = Valid d × AllValid ds

-- where the next datagram would begin, behind the last
abbrev pub end_after : Option Laid → ℕ
end_after None = 16
end_after (Some l) = l.at + (l.size + 12)

-- the last of these datagrams begins there and has so many bytes of data, if there is one
abbrev pub IsLast : Option Laid → List Fields → Type 0
IsLast None ds = ds ≡ []
IsLast (Some l) ds = (l.at ≡ last_from 16 ds) × (l.size ≡ last_size ds)

-- the buffer holds these datagrams from byte 16 on, of which that is the last
pub record Holds (buffer : List ℕ) (last : Option Laid) (ds : List Fields) : Type 0 where
  pub area : drop 16 (take (end_after last) buffer) ≡ followed ds
  pub ends : end_after last ≡ 16 + total ds
  pub tail : IsLast last ds
  pub valid : AllValid ds

-- the bytes of the lent buffer, and the loan by which it came
abbrev pub buffer_of : Writer → List ℕ
buffer_of w = w.buffer.now

abbrev pub loan_of : Writer → ℕ
loan_of w = w.buffer.ghost_name

-- where a frame's next datagram would begin
abbrev pub end_of : Writer → ℕ
end_of w = end_after w.last

abbrev pub holds : Writer → List Fields → Type 0
holds w ds = Holds (buffer_of w) w.last ds
