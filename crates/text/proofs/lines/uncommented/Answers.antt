use Rattle.std.proofs.Common.{eqb, take, ap, ◌∙◌, rules, tests}
use Rattle.std.proofs.lemmas.Iterator.{YieldsList-from_slice}
use Rattle.std.proofs.lemmas.Iterator.Search.{position_from_yields_List}
use Rattle.text.proofs.Cuts.{end_is, uncommented_is}
use Rattle.text.proofs.lines.uncommented.Goals as goal

pub returns : goal.returns
returns c =
    let xs = c.args.line.now in
    let at = position_from_yields_List (λ b. eqb b 35) _ _ c.position.result c.position.ensures.ran (YieldsList-from_slice xs cc) (λ x b q k. search (rules, tests)) in
    record { value = c.cut_at.ensures.front ∙ ap (λ n. take n xs) (end_is (λ b. eqb b 35) xs _ at) ∙ uncommented_is xs }
