-- A run of bytes cut into pieces. Assumes nothing.
use Rattle.std.specs.Prelude.{ℕ, Bool, cond, List, [], ◌∷◌}

-- one more byte in front of the first piece
abbrev pub longer : ℕ → List (List ℕ) → List (List ℕ)
longer b [] = (b ∷ []) ∷ []
longer b (p ∷ ps) = (b ∷ p) ∷ ps

-- what stands between the bytes that stop; one at the very end begins no further piece
abbrev pub pieces : (ℕ → Bool) → List ℕ → List (List ℕ)
pieces stop [] = []
pieces stop (b ∷ bs) = cond (stop b) ([] ∷ pieces stop bs) (longer b (pieces stop bs))
