use Rattle.std.proofs.Common.{Err, sym, ap, ◌∙◌, rules}
use Rattle.std.proofs.lemmas.Result.{err_from_is_err_and}
use Rattle.frame.specs.Reading.{outcome}
use Rattle.frame.proofs.Heads.{judged_area, area_accepted, fault_known}
use Rattle.frame.proofs.judging.read_frame.Goals as goal

pub returns-in_err-check : goal.returns-in_err-check
returns-in_err-check c =
    let p = err_from_is_err_and c.from_residual-in_err-check.result c.from_residual-in_err-check.ensures.1 in
    ap outcome p.1 ∙ ap Err p.2
    ∙ fault_known _ _ c.in_err-check.ensures
    ∙ judged_area c.args.bytes.now _ _ c.in_ok-promised.ensures c.min-end.ensures

pub invariant_of-result : goal.invariant_of-result
invariant_of-result c =
    let whole = (area_accepted c.args.bytes.now c.in_ok-promised.promised _ c.min-end.ensures c.in_ok-check.ensures).whole in
    search rules

pub returns : goal.returns
returns c =
    let a = area_accepted c.args.bytes.now c.in_ok-promised.promised _ c.min-end.ensures c.in_ok-check.ensures in
    sym a.given ∙ judged_area c.args.bytes.now _ _ c.in_ok-promised.ensures c.min-end.ensures
