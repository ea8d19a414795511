use Rattle.std.proofs.Common.{Some, arith}
use Rattle.frame_text.specs.Lines.{line_for}
use Rattle.frame_text.proofs.Widths.{shown2, shown4, displayed}
use Rattle.frame_text.proofs.lines.DatagramLineDisplay.fmt.Goals as goal

pub returns-clause-writes : goal.returns-clause-writes
returns-clause-writes g c =
    let at = c.datagram_offset.ensures in
    let says = c.datagram-datagram.ensures in
    let index = shown2 c.datagram-datagram.result.index c.in_radix.result c.laid_out.result (omega arith) c.in_radix.ensures c.laid_out.ensures in
    let irq = shown4 c.datagram-datagram.result.irq c.in_radix-2.result c.laid_out-2.result (omega arith) c.in_radix-2.ensures c.laid_out-2.ensures in
    displayed _ _ _ _ _ _ (rw (index, irq) (λ i. Some (line_for (at i) (says i)))) c.write.ensures.writes
