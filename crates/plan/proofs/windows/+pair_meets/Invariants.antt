use Rattle.std.proofs.Common.{length}
use Rattle.plan.proofs.windows.+pair_meets.Given as goal

abbrev pub decreases-pair_meets : goal.decreases-pair_meets
decreases-pair_meets l = length l.windows.now
