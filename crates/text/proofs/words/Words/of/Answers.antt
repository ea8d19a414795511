use Rattle.text.proofs.Cuts.{words_le}
use Rattle.text.proofs.words.Words.of.Goals as goal

pub returns-clause-bound : goal.returns-clause-bound
returns-clause-bound c = words_le c.args.line.now
