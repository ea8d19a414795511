use Rattle.std.proofs.Common.{Ok, sym, ap, ◌∙◌, rules}
use Rattle.frame.specs.Reading.{left}
use Rattle.frame_writer.specs.Encoding.{fields_in}
use Rattle.frame_writer.proofs.Again.{rewritable, rewritten}
use Rattle.frame_writer.proofs.Lists.{under_next, under_adds, under_more, served, finished}
use Rattle.frame_writer.proofs.whole.rewrite_frame.Goals as goal

pub loop-token-preserved : goal.loop-token-preserved
loop-token-preserved c =
    let e = c.in_ok-add.ensures in
    let u = under_next c.in-Some.ensures.steps c.datagram.ensures c.loop-token.invariant.under in
    record { under = under_more u e.held e.len e.behind; same = e.same ∙ c.loop-token.invariant.same }

-- no addition is refused, since the frame was accepted
pub returns-in_err-add : goal.returns-in_err-add
returns-in_err-add c =
    let accepted = ap (λ ts. Ok (left ts)) c.into_iter-token-iterator.ensures.into_iter_gives ∙ c.in_ok-tokens.ensures in
    let k = rewritable c.args.frame.now (left c.into_iter-token-iterator.result) (λ i. (c.type_inv.frame i).fits) (sym accepted) in
    let u = under_next c.in-Some.ensures.steps c.datagram.ensures c.loop-token.invariant.under in
    let e = c.in_err-add.ensures.value ∙ under_adds k.clear (served c.in_ok-check_buffer.ensures) u in
    absurd (cc)

pub returns : goal.returns
returns c =
    let accepted = ap (λ ts. Ok (left ts)) c.into_iter-token-iterator.ensures.into_iter_gives ∙ c.in_ok-tokens.ensures in
    let k = rewritable c.args.frame.now (left c.into_iter-token-iterator.result) (λ i. (c.type_inv.frame i).fits) (sym accepted) in
    let f = finished c.finish.result k.clear (served c.in_ok-check_buffer.ensures) c.loop-token.invariant.under (ap fields_in c.in-None.ensures.steps) c.finish.ensures.value c.finish.ensures.cases (search rules) in
    let r = rewritten c.args.frame.now c.args.buffer.now _ (left c.into_iter-token-iterator.result) c.finish.result (λ i. (c.type_inv.frame i).fits) accepted f in
    record { value = r.0; cases = r.1 }
