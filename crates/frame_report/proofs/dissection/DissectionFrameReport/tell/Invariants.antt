use Rattle.std.proofs.Common.{◌≡◌, ◌++◌, string_bytes}
use Rattle.frame.specs.Reading.{left}
use Rattle.frame_report.specs.Dissection.{datagram_lines}
use Rattle.frame_report.proofs.dissection.DissectionFrameReport.tell.Given as goal

abbrev pub invariant-loop-token : goal.invariant-loop-token
invariant-loop-token l = string_bytes l.out ++ datagram_lines (left l.token-iterator) ≡ string_bytes l.initial.out ++ datagram_lines (left l.initial.token-iterator)
