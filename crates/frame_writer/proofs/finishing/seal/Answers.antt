use Rattle.std.proofs.Common.{◌≡◌, ◌+◌, ◌-◌, ◌∙◌, replicate, arith, rules}
use borrow.Rule.Slice.PartMut.{put_mid}
use Rattle.frame_writer.proofs.Ends.{sealed, frame_long, frame_short}
use Rattle.frame_writer.proofs.Round.{written}
use Rattle.frame_writer.proofs.finishing.seal.Goals as goal

pub returns-then-end-ge-MIN_FRAME_BYTES-clause-frame : goal.returns-then-end-ge-MIN_FRAME_BYTES-clause-frame
returns-then-end-ge-MIN_FRAME_BYTES-clause-frame c = λ ds h.
    let b = c.args.buffer.now in
    let end = c.args.last.at + (c.args.last.size + 12) in
    let ends = h.ends in
    written b _ c.args.last _ ds h (omega arith)
    (c.close.ensures ∙ sealed b c.args.last ds h (omega arith) ∙ frame_long b ds end h.ends (omega arith))

pub returns-clause-frame : goal.returns-clause-frame
returns-clause-frame c = λ ds h.
    let b = c.args.buffer.now in
    let last = c.args.last in
    let zeros : c.fill.new.self ≡ replicate (60 - c.end-end.result) 0 = search rules in
    written c.args.buffer.now _ c.args.last _ ds h (omega arith)
    ((λ j. put_mid (c.end-end.ensures j) (60 - c.end-end.ensures j) ((c.close.ensures ∙ sealed b c.args.last ds h (omega arith)) j) (zeros j))
    ∙ frame_short b (replicate (60 - c.end-end.result) 0) ds (last.at + (last.size + 12)) h.ends (omega arith) (search rules))
