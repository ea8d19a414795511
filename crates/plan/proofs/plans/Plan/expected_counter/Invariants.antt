use Rattle.std.proofs.Common.{◌≡◌, ◌*◌, ◌≤◌, take}
use Rattle.plan.specs.Counter.{expected_counter}
use Rattle.plan.proofs.plans.Plan.expected_counter.Given as goal

abbrev pub invariant-loop-station : goal.invariant-loop-station
invariant-loop-station l = (l.sum ≤ 3 * l.station-index) × (l.sum ≡ expected_counter (take l.station-index l.station-items))
