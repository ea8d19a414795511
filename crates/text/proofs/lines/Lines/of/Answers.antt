use Rattle.text.proofs.Cuts.{lines_le}
use Rattle.text.proofs.lines.Lines.of.Goals as goal

pub returns-clause-bound : goal.returns-clause-bound
returns-clause-bound c = lines_le c.args.text.now
