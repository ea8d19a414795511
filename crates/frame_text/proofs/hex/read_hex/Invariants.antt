use Rattle.std.proofs.Common.{◌≡◌, ◌<◌, IfSome, vec_items}
use Rattle.frame_text.specs.Hex.{hex_of}
use Rattle.frame_text.proofs.Pairs.{after_in}
use Rattle.frame_text.proofs.hex.read_hex.Given as goal

abbrev pub invariant-loop-b : goal.invariant-loop-b
invariant-loop-b l =
    IfSome l.high (λ f. f < 16)
    × (after_in (vec_items l.bytes) l.high l.line l.b-index ≡ hex_of l.line)
