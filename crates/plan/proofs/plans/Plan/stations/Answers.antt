use Rattle.plan.specs.Stations.{all_windows}
use Rattle.plan.specs.Building.{image_bytes, stations_of}
use Rattle.plan.proofs.Exclusive.{exclusive}
use Rattle.plan.proofs.plans.Plan.stations.Goals as goal

pub returns-clause-exclusive : goal.returns-clause-exclusive
returns-clause-exclusive c =
    let plan = c.args.self.now in
    rw c.as_slice.ensures.value (exclusive (image_bytes plan) (all_windows (stations_of plan)) plan.inside plan.apart)
