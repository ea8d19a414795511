use Rattle.std.proofs.Common.{Some, sym, ap, arith}
use Rattle.std.proofs.Output.{has_written_of_eq}
use Rattle.frame_text.specs.Refusals.{words_of}
use Rattle.frame_text.proofs.Widths.{shown4, displayed}
use Rattle.frame_text.proofs.refusals.FaultWordsDisplay.fmt.Goals as goal

pub returns-in-EtherType-clause-writes : goal.returns-in-EtherType-clause-writes
returns-in-EtherType-clause-writes g c =
    let found = shown4 c.in-EtherType.found c.in_radix.result c.laid_out.result (omega arith) c.in_radix.ensures c.laid_out.ensures in
    displayed _ _ _ _ _ _ (rw found (ap (λ e. Some (words_of e)) (sym c.in-EtherType.is))) c.write-in-EtherType.ensures.writes

pub returns-in-Header-clause-writes : goal.returns-in-Header-clause-writes
returns-in-Header-clause-writes g c =
    let found = shown4 c.in-Header.found c.in_radix-in-Header.result c.laid_out-in-Header.result (omega arith) c.in_radix-in-Header.ensures c.laid_out-in-Header.ensures in
    displayed _ _ _ _ _ _ (rw found (ap (λ e. Some (words_of e)) (sym c.in-Header.is))) c.write-in-Header.ensures.writes

pub returns-in-Empty-clause-writes : goal.returns-in-Empty-clause-writes
returns-in-Empty-clause-writes g c = λ plain ok. has_written_of_eq g.W.Write.write_str_gives c.args.f.now _ _ c.write_str.new.self (ap words_of (sym c.in-Empty.is)) (c.write_str.ensures.writes plain ok)

pub returns-in-More-clause-writes : goal.returns-in-More-clause-writes
returns-in-More-clause-writes g c = λ plain ok. has_written_of_eq g.W.Write.write_str_gives c.args.f.now _ _ c.write_str-in-More.new.self (ap words_of (sym c.in-More.is)) (c.write_str-in-More.ensures.writes plain ok)
