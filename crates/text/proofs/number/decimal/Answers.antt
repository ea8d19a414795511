use Rattle.std.proofs.Common.{length, sym, ◌∙◌, arith, rules, tests}
use Rattle.std.proofs.lemmas.Bool.{eqb-true, eqb-false}
use Rattle.std.proofs.lemmas.Iterator.{YieldsList-from_slice}
use Rattle.text.proofs.Values.{decimal_none, decimal_some, number_from_try_fold}
use Rattle.text.proofs.number.decimal.Goals as goal

pub returns-then-is_empty : goal.returns-then-is_empty
returns-then-is_empty c = record { value = decimal_none c.args.word.now (eqb-true _ _ (sym c.if-is_empty.ensures)) }

pub returns : goal.returns
returns c =
    let xs = c.args.word.now in
    let some = eqb-false (length xs) 0 (sym c.if-is_empty.ensures) in
    let made = number_from_try_fold _ _ _ _ _ (λ n x r q k. search (rules, tests)) _ _ c.try_fold.result xs c.try_fold.ensures.ran (YieldsList-from_slice xs cc) in
    record { value = made ∙ decimal_some xs (omega arith) }
