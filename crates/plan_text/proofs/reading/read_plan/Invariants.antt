use Rattle.std.proofs.Common.{◌≡◌, ℕ, ◌+◌, List, Some, None, Option}
use Rattle.std.specs.Iterator.Adapters.{enumerate_count, enumerate_source}
use Rattle.text.specs.Lines.{lines_left}
use Rattle.plan.specs.Building.{image_bytes, stations_of}
use Rattle.plan_text.specs.declared.named.NamedPlan.{NamedPlan}
use Rattle.plan_text.specs.Outcome.{Outcome, text_from, stations_from, read_text, names_of}
use Rattle.plan_text.proofs.reading.read_plan.Given as goal

-- line n and those after it; none stands above the image line
abbrev pub rest_from : ℕ → Option NamedPlan → List (List ℕ) → Outcome
rest_from n None ls = text_from n ls
rest_from n (Some p) ls = stations_from n (image_bytes p.plan) (stations_of p.plan) (names_of p) ls

abbrev pub invariant-loop-i : goal.invariant-loop-i
invariant-loop-i l = rest_from (enumerate_count l.i-iterator + 1) l.named (lines_left (enumerate_source l.i-iterator)) ≡ read_text l.text
