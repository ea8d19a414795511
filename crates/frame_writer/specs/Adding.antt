-- What a writer answers. Assumes nothing.
use Rattle.std.specs.Prelude.{ℕ, ◌+◌, max, cond, not, List, [], ◌∷◌, ◌++◌, length, Some, None, Ok, Err, Option, Result, ◌==◌, nat_lt}
use Rattle.command.specs.Codes.{code_of}
use Rattle.frame.specs.declared.faults.FrameFault.{FrameFault}
use Rattle.frame.specs.declared.faults.FrameFault.TheVariants.{Empty, Passes, DataLength, Unlisted}
use Rattle.frame.specs.Datagrams.{Fields, Placed}
use Rattle.frame.specs.Judging.{known, data_in_range, or_else}
use Rattle.frame_writer.specs.declared.faults.WriteFault.{WriteFault}
use Rattle.frame_writer.specs.declared.faults.WriteFault.TheVariants.{Refused, ShortBuffer}
use Rattle.frame_writer.specs.Encoding.{size_in, total, fields_in}

-- What forbids a datagram that would begin at p: the length of its data or too little room, then its command.
abbrev pub add_fault : ℕ → Fields → Option FrameFault
add_fault p d =
    cond (not (data_in_range (length d.bytes))) (Some (DataLength p (length d.bytes)))
    (cond (nat_lt 1514 (p + size_in d)) (Some (Passes p))
    (cond (known d.command) None (Some (Unlisted p (code_of d.command)))))

-- a buffer of so many bytes serves for any frame, or it is refused
abbrev pub in_buffer : {A : Type 0} → ℕ → A → Result A WriteFault
in_buffer bytes x = cond (nat_lt bytes 1514) (Err (ShortBuffer bytes)) (Ok x)

abbrev pub unless : {A : Type 0} → Option FrameFault → Result A WriteFault → Result A WriteFault
unless (Some e) r = Err (Refused e)
unless None r = r

-- the answer to an addition
abbrev pub add_answer : ℕ → ℕ → Fields → Result Unit WriteFault
add_answer bytes p d = unless (add_fault p d) (in_buffer bytes tt)

abbrev pub added : Result Unit WriteFault → List Fields → Fields → List Fields
added (Ok _) ds d = ds ++ d ∷ []
added (Err _) ds d = ds

-- the first fault of the additions, the first of which would begin at p
abbrev pub list_fault : ℕ → List Fields → Option FrameFault
list_fault p [] = None
list_fault p (d ∷ ds) = or_else (add_fault p d) (list_fault (p + size_in d) ds)

-- what forbids a frame of these datagrams: it has none, or one of them is refused
abbrev pub write_fault : List Fields → Option FrameFault
write_fault [] = Some Empty
write_fault (d ∷ ds) = list_fault 16 (d ∷ ds)

-- the length of a frame whose datagrams end there
abbrev pub frame_length : ℕ → ℕ
frame_length end = max 60 end

-- the answer to the end of a frame whose datagrams end there
abbrev pub finish_answer : ℕ → ℕ → Result ℕ WriteFault
finish_answer bytes end = cond (end == 16) (Err (Refused Empty)) (in_buffer bytes (frame_length end))

-- the answer to writing them all
abbrev pub write_answer : ℕ → List Fields → Result ℕ WriteFault
write_answer bytes ds = unless (write_fault ds) (in_buffer bytes (frame_length (16 + total ds)))

-- the answer to writing again what a frame was judged to have
abbrev pub rewrite_answer : ℕ → Result (List Placed) FrameFault → Result ℕ WriteFault
rewrite_answer bytes (Ok ds) = in_buffer bytes (frame_length (16 + total (fields_in ds)))
rewrite_answer bytes (Err e) = Err (Refused e)
