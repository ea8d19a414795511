-- The value of a decimal number. Assumes nothing.
use Rattle.std.specs.Prelude.{ℕ, ◌+◌, ◌-◌, ◌*◌, Bool, true, cond, ◌&&◌, List, [], ◌∷◌, Some, None, Option, nat_le}

-- `0` to `9`
abbrev pub digit : ℕ → Bool
digit b = nat_le 48 b && nat_le b 57

abbrev pub digits : List ℕ → Bool
digits [] = true
digits (b ∷ bs) = digit b && digits bs

-- the value of these digits after others of the value n
abbrev pub value_after : ℕ → List ℕ → ℕ
value_after n [] = n
value_after n (b ∷ bs) = value_after (n * 10 + (b - 48)) bs

-- a number that 32 bits hold
abbrev pub fitting : ℕ → Option ℕ
fitting n = cond (nat_le n 4294967295) (Some n) None

-- the number that these bytes make after digits of the value n, if they are digits and it fits
abbrev pub number_after : ℕ → List ℕ → Option ℕ
number_after n bs = cond (digits bs) (fitting (value_after n bs)) None

-- one or more digits, and nothing else, whose value fits 32 bits
unfoldable pub decimal_of : List ℕ → Option ℕ
decimal_of [] = None
decimal_of (b ∷ bs) = number_after 0 (b ∷ bs)

-- the number that one byte makes after digits of the value n
abbrev pub with_digit : ℕ → ℕ → Option ℕ
with_digit n b = cond (digit b) (fitting (n * 10 + (b - 48))) None
