use Rattle.std.proofs.Common.{◌≡◌, ℕ, List, ◌++◌, length}
use Rattle.std.specs.Fmt.{IsPlainFormatter, HasWritten}
use Rattle.frame_text.specs.Digits.{hex_bytes}
use Rattle.frame_text.proofs.digits.HexBytesDisplay.fmt.Given as goal

-- what has been written, and what the bytes that are left will add to it
abbrev pub invariant-loop-rest : goal.invariant-loop-rest
invariant-loop-rest g l = IsPlainFormatter l.initial.f → (done : List ℕ) × HasWritten g.W.Write.write_str_gives l.initial.f done l.f × (hex_bytes l.self.0.now ≡ done ++ hex_bytes l.rest)

abbrev pub decreases-loop-rest : goal.decreases-loop-rest
decreases-loop-rest g l = length l.rest
