use Rattle.std.proofs.Common.{◌≡◌, ltb, arith}
use Rattle.std.proofs.lemmas.Bool.Decides.{nat_tests, Decides-at}
use Rattle.units.specs.Spans.{spanned, meet}
use Rattle.units.proofs.Spans.{meet_decides}
use Rattle.units.proofs.Span.meets.Goals as goal

pub returns-then-from-end : goal.returns-then-from-end
returns-then-from-end g c =
    let x = spanned g.U.Countable.count c.args.self.now in
    let y = spanned g.U.Countable.count c.args.other.now in
    let e : ltb c.from-then-from-end.result c.end-then-from-end.result ≡ meet x y = grind (arith, nat_tests) in
    record { value = e; means = Decides-at _ _ e (meet_decides x y) }
