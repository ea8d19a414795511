use Rattle.std.proofs.Common.{◌+◌, ◌≤◌, length, drop, sym, refl, ap, ◌∙◌, rules}
use Rattle.frame.specs.Datagrams.{fields_of}
use Rattle.frame_writer.specs.Encoding.{encoded, size_in}
use Rattle.frame_writer.specs.Writers.{end_of}
use Rattle.frame_writer.proofs.Steps.{addable, holds_more, laid_behind, length-encoded}
use Rattle.frame_writer.proofs.writers.Writer.add.Goals as goal

pub returns-clause-held : goal.returns-clause-held
returns-clause-held c = λ ds h.
    let w = c.args.self.now in
    let d = fields_of c.args.datagram.now in
    let at = c.end-at.ensures.value in
    let ok = addable c.end-at.result d (sym c.in_ok-check_datagram.ensures) in
    let long : end_of c.args.self.now + size_in (fields_of c.args.datagram.now) ≤ length c.args.self.now.buffer.now = search rules in
    holds_more w.buffer.now _ w.last _ d ds h (search rules) long at refl ok.valid

pub returns-clause-behind : goal.returns-clause-behind
returns-clause-behind c =
    let d = fields_of c.args.datagram.now in
    let long : c.end-at.result + size_in (fields_of c.args.datagram.now) ≤ length c.args.self.now.buffer.now = search rules in
    ap (drop (c.end-at.result + size_in d)) c.put.ensures
    ∙ laid_behind c.args.self.now.buffer.now (encoded d 128) c.end-at.result (c.end-at.result + size_in d) (ap (λ n. c.end-at.result + n) (sym (length-encoded d 128))) long
