use Rattle.std.proofs.Common.{sym, ap, ◌∙◌}
use Rattle.plan_report.specs.Signs.{sign}
use Rattle.plan_report.proofs.Apart.{apart}
use Rattle.plan_report.proofs.signs.sign_of.Goals as goal

pub returns-in-None-clause-apart : goal.returns-in-None-clause-apart
returns-in-None-clause-apart c = λ other h k same. apart other c.args.owner k h (same ∙ sym (ap sign c.in-None.is))

pub returns-in-Some-clause-apart : goal.returns-in-Some-clause-apart
returns-in-Some-clause-apart c = λ other h k same. apart other c.args.owner k h (same ∙ c.sign_in.ensures ∙ sym (ap sign c.in-Some.is))
