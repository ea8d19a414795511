use Rattle.std.proofs.Common.{refl, arith}
use Rattle.std.proofs.lemmas.Grind.{common_steps}
use Rattle.std.proofs.lemmas.List.Recursion.{is_sum_by}
use Rattle.plan.specs.Counter.{weight, expected_counter}
use Rattle.plan.proofs.plans.Plan.expected_counter.Goals as goal

pub loop-station-preserved : goal.loop-station-preserved
loop-station-preserved c = (omega arith, grind (arith, common_steps, is_sum_by expected_counter weight refl (λ _ _. refl)))
