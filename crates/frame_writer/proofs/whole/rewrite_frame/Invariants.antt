use Rattle.std.proofs.Common.{◌≡◌}
use Rattle.frame.specs.Reading.{left}
use Rattle.frame_writer.specs.Encoding.{fields_in}
use Rattle.frame_writer.proofs.Lists.{Under}
use Rattle.frame_writer.proofs.whole.rewrite_frame.Given as goal

abbrev pub invariant-loop-token : goal.invariant-loop-token
invariant-loop-token l = record {
  under : Under (fields_in (left l.initial.token-iterator)) l.fn.buffer l.writer (fields_in (left l.token-iterator));
  same : l.writer.buffer.ghost_name ≡ l.initial.writer.buffer.ghost_name;
}
