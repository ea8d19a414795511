use Rattle.std.proofs.Common.{sym, ap}
use Rattle.std.proofs.Output.{has_written_of_eq}
use Rattle.frame_text.specs.Hex.{hex_words}
use Rattle.frame_text.proofs.hex.HexErrorDisplay.fmt.Goals as goal

pub returns-in-NotHex-clause-writes : goal.returns-in-NotHex-clause-writes
returns-in-NotHex-clause-writes g c = λ plain ok. has_written_of_eq g.W.Write.write_str_gives c.args.f.now _ _ c.write_str.new.self (ap hex_words (sym c.in-NotHex.is)) (c.write_str.ensures.writes plain ok)
