use Rattle.std.proofs.Common.{◌++◌, string_bytes, ap, ◌∙◌}
use Rattle.frame.specs.Judging.{judged}
use Rattle.frame_report.proofs.Told.{again, refused}
use Rattle.frame_report.proofs.rewriting.RewritingFrameReport.tell.Goals as goal

pub returns-in_ok-writeln-in-Ok : goal.returns-in_ok-writeln-in-Ok
returns-in_ok-writeln-in-Ok c =
    c.in_ok-writeln-in-Ok.ensures.bytes ∙ ap (λ x. string_bytes c.args.out.now ++ x) (again _ c.args.frame.now _ c.in-Ok.bytes c.in-Ok.ensures.cases)

pub returns-in_ok-writeln-in-Err : goal.returns-in_ok-writeln-in-Err
returns-in_ok-writeln-in-Err c =
    c.in_ok-writeln-in-Err.ensures.bytes ∙ ap (λ x. string_bytes c.args.out.now ++ x) (refused (judged c.args.frame.now) c.in-Err.fault c.in-Err.ensures.value)
