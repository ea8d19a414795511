use Rattle.std.proofs.Common.{◌≡◌, map, drop}
use Rattle.frame.specs.Datagrams.{fields_of}
use Rattle.frame_writer.proofs.Lists.{Under}
use Rattle.frame_writer.proofs.whole.write_frame.Given as goal

abbrev pub invariant-loop-datagram : goal.invariant-loop-datagram
invariant-loop-datagram l = record {
  under : Under (map fields_of l.datagrams) l.fn.buffer l.writer (map fields_of (drop l.datagram-index l.datagrams));
  same : l.writer.buffer.ghost_name ≡ l.initial.writer.buffer.ghost_name;
}
