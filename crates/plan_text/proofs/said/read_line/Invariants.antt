use Rattle.std.proofs.Common.{◌≡◌}
use Rattle.std.specs.Option.{option_map}
use Rattle.text.specs.Words.{words_left}
use Rattle.plan_text.specs.Said.{said_from, line_of}
use Rattle.plan_text.proofs.said.read_line.Given as goal

abbrev pub invariant-loop-word : goal.invariant-loop-word
invariant-loop-word l = said_from l.stage (option_map (λ x. x.now) l.name) (words_left l.word-iterator) ≡ line_of l.line
