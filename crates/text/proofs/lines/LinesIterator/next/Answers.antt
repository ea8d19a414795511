use Rattle.std.proofs.Common.{◌<◌, length, sym, ap, arith, rules, tests}
use Rattle.std.proofs.lemmas.Bool.{eqb-true, eqb-false}
use Rattle.std.proofs.lemmas.Iterator.{YieldsList-from_slice}
use Rattle.std.proofs.lemmas.Iterator.Search.{position_from_yields_List}
use Rattle.text.specs.Lines.{newline, lines}
use Rattle.text.proofs.Cuts.{line_step, no_line}
use Rattle.text.proofs.lines.LinesIterator.next.Goals as goal

pub returns-then-is_empty-clause-steps : goal.returns-then-is_empty-clause-steps
returns-then-is_empty-clause-steps c =
    let none = no_line c.args.self.now.rest.now (eqb-true _ _ (sym c.if-is_empty.ensures)) in
    (none, none)

pub returns : goal.returns
returns c =
    let xs = c.args.self.now.rest.now in
    let some = eqb-false (length xs) 0 (sym c.if-is_empty.ensures) in
    let at = position_from_yields_List newline _ _ c.position.result c.position.ensures.ran (YieldsList-from_slice xs cc) (λ x b q k. search (rules, tests)) in
    let step = line_step xs c.cut_at.result.0.now c.cut_at.result.1.now c.position.result (omega arith) at c.cut_at.ensures.front c.cut_at.ensures.back in
    let falls : length (lines c.cut_at.result.1.now) < length (lines xs) = omega (arith, ap length step) in
    record { steps = step; goes = search rules }
