use Rattle.std.proofs.Common.{map, sym, ap, ◌∙◌, rules}
use Rattle.std.proofs.lemmas.List.{drop_all}
use Rattle.frame.specs.Datagrams.{fields_of}
use Rattle.frame_writer.proofs.Lists.{under_at, under_adds, under_more, served, finished}
use Rattle.frame_writer.proofs.whole.write_frame.Goals as goal

pub loop-datagram-preserved : goal.loop-datagram-preserved
loop-datagram-preserved c =
    let e = c.in_ok-add.ensures in
    let u = under_at c.args.datagrams.now c.loop-datagram.datagram-index _ c.loop-datagram-test.true c.loop-datagram.invariant.under in
    record { under = under_more u e.held e.len e.behind; same = e.same ∙ c.loop-datagram.invariant.same }

-- no addition is refused, since the list was judged
pub returns-in_err-add : goal.returns-in_err-add
returns-in_err-add c =
    let u = under_at c.args.datagrams.now c.loop-datagram.datagram-index _ c.loop-datagram-test.true c.loop-datagram.invariant.under in
    let e = c.in_err-add.ensures.value ∙ under_adds (sym c.in_ok-check_list.ensures) (served c.in_ok-check_buffer.ensures) u in
    absurd (cc)

pub returns-clause-cases : goal.returns-clause-cases
returns-clause-cases c =
    let none = ap (map fields_of) (drop_all c.loop-datagram.datagram-index c.args.datagrams.now c.loop-datagram-test.false) in
    (finished c.finish.result (sym c.in_ok-check_list.ensures) (served c.in_ok-check_buffer.ensures) c.loop-datagram.invariant.under none c.finish.ensures.value c.finish.ensures.cases (search rules)).1
