use Rattle.std.proofs.Common.{◌≡◌, length}
use Rattle.frame.specs.Judging.{fault_of, judge_area}
use Rattle.frame.proofs.areas.Area.check.Given as goal

-- what is left has the fault of the whole
abbrev pub invariant-loop-rest : goal.invariant-loop-rest
invariant-loop-rest l =
    fault_of (judge_area l.area.bytes.now l.area.left l.area.at) ≡ fault_of (judge_area l.self.bytes.now l.self.left l.self.at)

abbrev pub decreases-loop-rest : goal.decreases-loop-rest
decreases-loop-rest l = length l.area.bytes.now
