use Rattle.std.proofs.Common.{get_or, ◌++◌, Ok, refl, arith}
use Rattle.std.proofs.Output.{has_written_append}
use Rattle.frame_text.specs.Digits.{hex2, hex4, hex8}
use Rattle.frame_text.proofs.Spelled.{hex_one, hex_two, hex_four, onward}
use Rattle.frame_text.proofs.Widths.{shown2, shown4, shown8, displayed}
use Rattle.frame_text.proofs.digits.HexBytesDisplay.fmt.Goals as goal

pub loop-rest-preserved-in_ok-write-in-len1-up : goal.loop-rest-preserved-in_ok-write-in-len1-up
loop-rest-preserved-in_ok-write-in-len1-up g c = λ plain.
    let so_far = c.loop-rest.invariant plain in
    let rest = c.loop-rest.rest.now in
    let shown = displayed _ _ (Ok c.in_ok-write-in-len1-up.field-0) _ _ _ (shown2 (get_or rest 0 0) c.in_radix.result c.laid_out.result (omega arith) c.in_radix.ensures c.laid_out.ensures) c.in_ok-write-in-len1-up.ensures.writes in (
      so_far.0 ++ hex2 (get_or rest 0 0),
      has_written_append _ _ _ _ _ _ so_far.1 (shown so_far.1.plain refl),
      onward _ so_far.0 _ _ _ so_far.2 (hex_one rest c.in-len1-up.len_at_least),
    )

pub loop-rest-preserved-in_ok-write-in-len2-up : goal.loop-rest-preserved-in_ok-write-in-len2-up
loop-rest-preserved-in_ok-write-in-len2-up g c = λ plain.
    let so_far = c.loop-rest.invariant plain in
    let rest = c.loop-rest.rest.now in
    let two = c.from_be_bytes-two.result in
    let shown = displayed _ _ (Ok c.in_ok-write-in-len2-up.field-0) _ _ _ (shown4 two c.in_radix-in-len2-up.result c.laid_out-in-len2-up.result (omega arith) c.in_radix-in-len2-up.ensures c.laid_out-in-len2-up.ensures) c.in_ok-write-in-len2-up.ensures.writes in (
      so_far.0 ++ hex4 two,
      has_written_append _ _ _ _ _ _ so_far.1 (shown so_far.1.plain refl),
      onward _ so_far.0 _ _ _ so_far.2 (hex_two rest two c.in-len2-up.len_at_least (omega arith) c.from_be_bytes-two.ensures),
    )

pub loop-rest-preserved : goal.loop-rest-preserved
loop-rest-preserved g c = λ plain.
    let so_far = c.loop-rest.invariant plain in
    let rest = c.loop-rest.rest.now in
    let four = c.from_be_bytes-four.result in
    let shown = displayed _ _ (Ok c.in_ok-write-in-len4-up.field-0) _ _ _ (shown8 four c.in_radix-in-len4-up.result c.laid_out-in-len4-up.result (omega arith) c.in_radix-in-len4-up.ensures c.laid_out-in-len4-up.ensures) c.in_ok-write-in-len4-up.ensures.writes in (
      so_far.0 ++ hex8 four,
      has_written_append _ _ _ _ _ _ so_far.1 (shown so_far.1.plain refl),
      onward _ so_far.0 _ _ _ so_far.2 (hex_four rest four c.in-len4-up.len_at_least (omega arith) (omega arith) (omega arith) c.from_be_bytes-four.ensures),
    )
