-- The words of a line. Assumes nothing.
use Rattle.std.specs.Prelude.{ℕ, Bool, ◌||◌, List, [], ◌∷◌, ◌==◌}
use Rattle.text.specs.declared.words.Words.{Words}
use Rattle.text.specs.Pieces.{pieces}

-- a space, a tab or a carriage return
abbrev pub blank : ℕ → Bool
blank b = b == 32 || b == 9 || b == 13

-- the pieces that hold a byte
abbrev pub nonempty : List (List ℕ) → List (List ℕ)
nonempty [] = []
nonempty ([] ∷ ps) = nonempty ps
nonempty ((b ∷ bs) ∷ ps) = (b ∷ bs) ∷ nonempty ps

-- the words of a line are its longest runs of bytes that are no blanks: what stands between the blanks, where anything does
unfoldable pub words : List ℕ → List (List ℕ)
words line = nonempty (pieces blank line)

-- the words that are still to be handed out
abbrev pub words_left : Words → List (List ℕ)
words_left ws = words ws.rest.now
