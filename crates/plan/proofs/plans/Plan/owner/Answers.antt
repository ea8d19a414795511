use Rattle.std.proofs.Common.{rules}
use Rattle.std.proofs.iter.runs.Made.{chains}
use Rattle.plan.specs.Building.{stations_of}
use Rattle.plan.proofs.Owned.{first_owner, one_owner}
use Rattle.plan.proofs.plans.Plan.owner.Goals as goal

pub returns : goal.returns
returns c =
    let ss = stations_of c.args.self.now in
    let k = c.args.bit.0 in
    let e = first_owner ss k c.find_map.result c.find_map.ensures.runs.2 (λ n m l. search (rules, chains)) (λ o f. (f.0, search (rules, chains), search (rules, chains), λ m l. search (rules, chains))) in
    record { value = e; means = one_owner ss c.args.self.now.apart k c.find_map.result e }
