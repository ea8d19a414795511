use Rattle.std.proofs.Common.{length}
use Rattle.plan_report.proofs.conflicts.+first_pair.Given as goal

abbrev pub decreases-first_pair : goal.decreases-first_pair
decreases-first_pair l = length l.windows.now
