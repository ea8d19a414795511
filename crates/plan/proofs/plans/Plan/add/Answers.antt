use Rattle.std.proofs.Common.{is_ok, vec_items, sym, ◌∙◌, rules}
use Rattle.std.proofs.lemmas.Option.{none-some}
use Rattle.std.proofs.lemmas.Result.{MatchResult-from_err}
use Rattle.plan.specs.Building.{image_bytes, stations_of}
use Rattle.plan.proofs.Judged.{kept, pushed, sound, complete}
use Rattle.plan.proofs.plans.Plan.add.Goals as goal

pub returns-in_err-check-clause-exact : goal.returns-in_err-check-clause-exact
returns-in_err-check-clause-exact c =
    MatchResult-from_err c.from_residual.result _ _ (search rules) (λ _ h.
    absurd (none-some _ (sym (complete (image_bytes c.args.self.now) (stations_of c.args.self.now) c.args.station h) ∙ sym c.in_err-check.ensures)))

pub invariant_of-self : goal.invariant_of-self
invariant_of-self c =
    let plan = c.args.self.now in
    let k = pushed (image_bytes plan) (stations_of plan) c.args.station (vec_items c.push.new.self) (is_ok c.push.result) (kept plan) (sym c.in_ok-check.ensures) c.push.ensures.items in
    record { image = plan.image; few = k.few; fields = k.fields; inside = k.inside; apart = k.apart }

pub returns-clause-exact : goal.returns-clause-exact
returns-clause-exact c =
    sound (image_bytes c.args.self.now) (stations_of c.args.self.now) c.args.station (kept c.args.self.now) (sym c.in_ok-check.ensures)
