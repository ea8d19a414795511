use Rattle.std.proofs.Common.{◌∙◌}
use Rattle.frame.proofs.Walk.{fault_last, fault_more}
use Rattle.frame.proofs.areas.Area.check.Goals as goal

pub returns-then-rest-eq0 : goal.returns-then-rest-eq0
returns-then-rest-eq0 c =
    let e = c.in_ok-rest.ensures in
    fault_last _ _ _ e.fault e.parts c.if-rest-eq0.true ∙ c.loop-rest.invariant

pub loop-rest-preserved : goal.loop-rest-preserved
loop-rest-preserved c =
    let e = c.in_ok-rest.ensures in
    fault_more _ _ _ e.fault e.parts c.if-rest-eq0.false ∙ c.loop-rest.invariant
