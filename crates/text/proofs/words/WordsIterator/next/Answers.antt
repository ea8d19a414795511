use Rattle.std.proofs.Common.{◌-◌, ◌<◌, length, take, drop, ap, arith, rules, tests}
use Rattle.std.proofs.lemmas.List.{take_rest}
use Rattle.std.proofs.lemmas.Iterator.{YieldsList-from_slice}
use Rattle.std.proofs.lemmas.Iterator.Search.{position_from_yields_List}
use Rattle.text.specs.Words.{blank, words}
use Rattle.text.proofs.Cuts.{solid, word_step, no_words}
use Rattle.text.proofs.words.WordsIterator.next.Goals as goal

pub returns-in_err-start-clause-steps : goal.returns-in_err-start-clause-steps
returns-in_err-start-clause-steps c =
    let xs = c.args.self.now.rest.now in
    let at = position_from_yields_List solid _ _ _ c.in_err-start.ensures.ran (YieldsList-from_slice xs cc) (λ x b q k. search (rules, tests)) in
    rw c.from_residual.ensures (let none = no_words xs at in (none, none))

pub returns : goal.returns
returns c =
    let xs = c.args.self.now.rest.now in
    let found = position_from_yields_List solid _ _ _ c.in_ok-start.ensures.ran (YieldsList-from_slice xs cc) (λ x b q k. search (rules, tests)) in
    let line = take_rest xs c.in_ok-start.start in
    let at = position_from_yields_List blank _ _ c.position-2.result c.position-2.ensures.ran (YieldsList-from_slice (take (length xs - c.in_ok-start.start) (drop c.in_ok-start.start xs)) cc) (λ x b q k. search (rules, tests)) in
    let step = word_step xs _ c.cut_at.result.0.now c.cut_at.result.1.now c.in_ok-start.start c.position-2.result found line at c.cut_at.ensures.front c.cut_at.ensures.back in
    let falls : length (words c.cut_at.result.1.now) < length (words xs) = omega (arith, ap length step) in
    record { steps = step; goes = search rules }
