use Rattle.std.proofs.Common.{◌+◌, ◌<◌, IfSome, is_ok, vec_items, sym, ap, ◌∙◌, subst, inr}
use Rattle.std.proofs.ResultArms.{chosen}
use Rattle.frame_text.proofs.Pairs.{after_in, skips, first_digit, second_digit, no_digit, ends, odd}
use Rattle.frame_text.proofs.hex.read_hex.Goals as goal

pub loop-b-preserved-then-is_blank : goal.loop-b-preserved-then-is_blank
loop-b-preserved-then-is_blank c = (
  c.loop-b.invariant.0,
  skips (vec_items c.loop-b.bytes) c.loop-b.high c.args.line.now c.loop-b.b-index c.loop-b-test.true (sym c.if-is_blank.ensures) ∙ c.loop-b.invariant.1,
)

pub loop-b-preserved : goal.loop-b-preserved
loop-b-preserved c =
    let line = c.args.line.now in
    let solid = sym c.if-is_blank.ensures in
    let d = c.in-Some.ensures in
    elim c.match-high.branch [
      | goal.in-None w ↦
          (let high = w.high-is in (
            subst (λ o. IfSome o (λ f. f < 16)) (sym high) d.bound,
            (λ i. after_in (vec_items (w.bytes-is i)) (high i) c.args.line.now (c.loop-b.b-index + 1))
                ∙ first_digit (vec_items c.loop-b.bytes) c.in-Some.value c.args.line.now c.loop-b.b-index c.loop-b-test.true solid d.value
                ∙ ap (λ o. after_in (vec_items c.loop-b.bytes) o c.args.line.now c.loop-b.b-index) (sym w.in-None.is)
                ∙ c.loop-b.invariant.1,
          ))
      | goal.in-Some-high+in_ok-push-in-Some-high w ↦
          (let high = w.high-is in
          let pushed = ap vec_items w.bytes-is ∙ chosen _ _ _ _ w.push.ensures.items (ap is_ok w.in_ok-push-in-Some-high.was) in (
            subst (λ o. IfSome o (λ f. f < 16)) (sym high) tt,
            (λ i. after_in (pushed i) (high i) c.args.line.now (c.loop-b.b-index + 1))
                ∙ second_digit (vec_items c.loop-b.bytes) w.in-Some-high.first c.in-Some.value c.args.line.now c.loop-b.b-index c.loop-b-test.true solid d.value
                ∙ ap (λ o. after_in (vec_items c.loop-b.bytes) o c.args.line.now c.loop-b.b-index) (sym w.in-Some-high.is)
                ∙ c.loop-b.invariant.1,
          ))
    ]

pub returns-in_default : goal.returns-in_default
returns-in_default c = inr (sym c.loop-b.invariant.1 ∙ no_digit (vec_items c.loop-b.bytes) c.loop-b.high c.args.line.now c.loop-b.b-index c.loop-b-test.true (sym c.if-is_blank.ensures) c.in_default.ensures.value)

pub returns-in-None-high : goal.returns-in-None-high
returns-in-None-high c =
    sym c.loop-b.invariant.1
    ∙ ap (λ o. after_in (vec_items c.loop-b.bytes) o c.args.line.now c.loop-b.b-index) c.in-None-high.is
    ∙ ends (vec_items c.loop-b.bytes) c.args.line.now c.loop-b.b-index c.loop-b-test.false

pub returns-in-Some-high-2 : goal.returns-in-Some-high-2
returns-in-Some-high-2 c =
    inr (sym c.loop-b.invariant.1
    ∙ ap (λ o. after_in (vec_items c.loop-b.bytes) o c.args.line.now c.loop-b.b-index) c.in-Some-high-2.is
    ∙ odd (vec_items c.loop-b.bytes) c.in-Some-high-2.field-0 c.args.line.now c.loop-b.b-index c.loop-b-test.false)
