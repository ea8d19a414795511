-- Numbers and bytes in hex. Assumes nothing.
use Rattle.std.specs.Prelude.{ℕ, ◌+◌, ◌/◌, ◌%◌, cond, List, [], ◌∷◌, ◌++◌, nat_lt}

-- `0` to `9`, `a` to `f`
abbrev pub digit_of : ℕ → ℕ
digit_of n = cond (nat_lt (n % 16) 10) (48 + n % 16) (87 + n % 16)

abbrev pub hex2 : ℕ → List ℕ
hex2 n = digit_of (n / 16) ∷ digit_of n ∷ []

abbrev pub hex4 : ℕ → List ℕ
hex4 n = hex2 (n / 256) ++ hex2 (n % 256)

abbrev pub hex8 : ℕ → List ℕ
hex8 n = hex4 (n / 65536) ++ hex4 (n % 65536)

abbrev pub hex_bytes : List ℕ → List ℕ
hex_bytes [] = []
hex_bytes (b ∷ bs) = hex2 b ++ hex_bytes bs
