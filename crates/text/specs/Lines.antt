-- The lines of a text. Assumes nothing.
use Rattle.std.specs.Prelude.{ℕ, Bool, cond, List, [], ◌∷◌, ◌==◌}
use Rattle.text.specs.declared.lines.Lines.{Lines}
use Rattle.text.specs.Pieces.{pieces}

abbrev pub newline : ℕ → Bool
newline b = b == 10

-- the lines of a text stand between its newlines, and a newline at the very end begins no further line
unfoldable pub lines : List ℕ → List (List ℕ)
lines text = pieces newline text

-- a line up to its first `#`
unfoldable pub uncommented : List ℕ → List ℕ
uncommented [] = []
uncommented (b ∷ bs) = cond (b == 35) [] (b ∷ uncommented bs)

-- the lines that are still to be handed out
abbrev pub lines_left : Lines → List (List ℕ)
lines_left ls = lines ls.rest.now
