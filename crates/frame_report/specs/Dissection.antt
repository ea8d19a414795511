-- The datagrams of a frame, or why it is refused. Assumes nothing.
use Rattle.std.specs.Prelude.{ℕ, List, [], ◌∷◌, ◌++◌, Ok, Err, codes, Result}
use Rattle.frame.specs.declared.faults.FrameFault.{FrameFault}
use Rattle.frame.specs.Datagrams.{Placed}
use Rattle.frame.specs.Judging.{judged}
use Rattle.frame_text.specs.Lines.{line_of}
use Rattle.frame_text.specs.Refusals.{refusal_of}

-- a line of its own for each datagram
abbrev pub datagram_lines : List Placed → List ℕ
datagram_lines [] = []
datagram_lines (d ∷ ds) = (line_of d ++ codes "\n") ++ datagram_lines ds

abbrev pub judged_lines : Result (List Placed) FrameFault → List ℕ
judged_lines (Ok ds) = datagram_lines ds
judged_lines (Err e) = refusal_of e ++ codes "\n"

abbrev pub dissected : List ℕ → List ℕ
dissected frame = judged_lines (judged frame)
