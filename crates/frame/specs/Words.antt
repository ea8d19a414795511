-- Numbers of several bytes, the lowest first. Assumes nothing.
use Rattle.std.specs.Prelude.{ℕ, ◌+◌, ◌*◌, List, slice_index}

-- the 16 bits at i
abbrev pub word : List ℕ → ℕ → ℕ
word xs i = slice_index xs i + 256 * slice_index xs (i + 1)

-- the 32 bits at i
abbrev pub double : List ℕ → ℕ → ℕ
double xs i = word xs i + 65536 * word xs (i + 2)
