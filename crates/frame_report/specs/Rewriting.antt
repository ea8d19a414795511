-- A frame written again. Assumes nothing.
use Rattle.std.specs.Prelude.{ℕ, List, ◌++◌, Ok, Err, codes, decimal, Result}
use Rattle.frame.specs.declared.faults.FrameFault.{FrameFault}
use Rattle.frame.specs.Datagrams.{Placed}
use Rattle.frame.specs.Judging.{judged}
use Rattle.frame_text.specs.Digits.{hex_bytes}
use Rattle.frame_text.specs.Refusals.{refusal_of}
use Rattle.frame_writer.specs.declared.faults.WriteFault.{WriteFault}
use Rattle.frame_writer.specs.declared.faults.WriteFault.TheVariants.{Refused, ShortBuffer}
use Rattle.frame_writer.specs.Faults.{number, place}
use Rattle.frame_writer.specs.Encoding.{fields_in}
use Rattle.frame_writer.specs.Frames.{frame_of}

-- why a frame is not written
abbrev pub write_refusal_of : WriteFault → List ℕ
write_refusal_of (Refused e) = refusal_of e
write_refusal_of (ShortBuffer bytes) = codes "refused " ++ (decimal (number (ShortBuffer bytes)) ++ (codes " " ++ (decimal (place (ShortBuffer bytes)) ++ (codes ": the buffer has " ++ (decimal bytes ++ (codes " bytes; a frame may need " ++ decimal 1514))))))

abbrev pub judged_again : Result (List Placed) FrameFault → List ℕ
judged_again (Ok ds) = hex_bytes (frame_of (fields_in ds)) ++ codes "\n"
judged_again (Err e) = refusal_of e ++ codes "\n"

-- the frame of its datagrams in hex, or why it is refused
abbrev pub rewritten : List ℕ → List ℕ
rewritten frame = judged_again (judged frame)
