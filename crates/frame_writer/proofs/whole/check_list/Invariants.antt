use Rattle.std.proofs.Common.{◌≡◌, ◌≤◌, map, drop}
use Rattle.frame.specs.Datagrams.{fields_of}
use Rattle.frame_writer.specs.Adding.{list_fault}
use Rattle.frame_writer.proofs.whole.check_list.Given as goal

abbrev pub invariant-loop-datagram : goal.invariant-loop-datagram
invariant-loop-datagram l =
    (l.at ≤ 1514)
    × (list_fault l.at (map fields_of (drop l.datagram-index l.datagrams)) ≡ list_fault 16 (map fields_of l.datagrams))
