use Rattle.std.proofs.Common.{length, ap, rules}
use Rattle.frame.proofs.Walk.{handed_more}
use Rattle.frame.proofs.reading.TokensIterator.next.Goals as goal

pub returns-clause-steps : goal.returns-clause-steps
returns-clause-steps c =
    let e = c.in-Ok.ensures in
    handed_more _ _ _ c.args.self.now.whole e.fault e.parts

pub returns-clause-goes : goal.returns-clause-goes
returns-clause-goes c = let n = ap length (returns-clause-steps c) in search rules
