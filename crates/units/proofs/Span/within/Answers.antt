use Rattle.std.proofs.Common.{◌≡◌, leb, arith}
use Rattle.std.proofs.lemmas.Bool.Decides.{nat_tests, Decides-at}
use Rattle.units.specs.Spans.{spanned, within}
use Rattle.units.proofs.Spans.{within_decides}
use Rattle.units.proofs.Span.within.Goals as goal

pub returns-then-number : goal.returns-then-number
returns-then-number g c =
    let x = spanned g.U.Countable.count c.args.self.now in
    let y = spanned g.U.Countable.count c.args.other.now in
    let e : leb c.end.result c.end-then-number.result ≡ within x y = grind (arith, nat_tests) in
    record { value = e; means = Decides-at _ _ e (within_decides x y) }

pub returns-else-number : goal.returns-else-number
returns-else-number g c =
    let x = spanned g.U.Countable.count c.args.self.now in
    let y = spanned g.U.Countable.count c.args.other.now in
    let e : leb c.number.result c.number-else-self-eq0.result ≡ within x y = grind (arith, nat_tests) in
    record { value = e; means = Decides-at _ _ e (within_decides x y) }
