-- Bytes in hex, as they are read. Assumes nothing.
use Rattle.std.specs.Prelude.{◌≡◌, ℕ, ◌+◌, ◌-◌, ◌*◌, Bool, cond, ◌&&◌, ◌⊎◌, List, [], ◌∷◌, Some, None, Ok, Err, vec_items, codes, Option, Result, Vec, MatchResult, nat_le}
use Rattle.std.specs.Option.{option_map}
use Rattle.std.specs.declared.alloc.Global.{Global}
use Rattle.text.specs.Words.{blank}
use Rattle.frame_text.specs.declared.hex.HexError.{HexError}
use Rattle.frame_text.specs.declared.hex.HexError.TheVariants.{NotHex, OddDigits, Memory}

abbrev pub within : ℕ → ℕ → ℕ → Bool
within first last b = nat_le first b && nat_le b last

-- `0` to `9`, `a` to `f`, `A` to `F`
abbrev pub digit_value : ℕ → Option ℕ
digit_value b =
    cond (within 48 57 b) (Some (b - 48))
    (cond (within 97 102 b) (Some (b - 97 + 10))
    (cond (within 65 70 b) (Some (b - 65 + 10)) None))

abbrev pub with_first : Option ℕ → Option (List ℕ) → Option (List ℕ)
with_first None vs = None
with_first (Some v) None = None
with_first (Some v) (Some vs) = Some (v ∷ vs)

-- the values of a line's digits, if all but its blanks are digits
abbrev pub values : List ℕ → Option (List ℕ)
values [] = Some []
values (b ∷ bs) = cond (blank b) (values bs) (with_first (digit_value b) (values bs))

-- two digits make a byte, the higher first
abbrev pub paired : List ℕ → Option (List ℕ)
paired [] = Some []
paired (h ∷ []) = None
paired (h ∷ l ∷ vs) = option_map (λ bs. (16 * h + l) ∷ bs) (paired vs)

abbrev pub bytes_of : Option (List ℕ) → Result (List ℕ) HexError
bytes_of None = Err OddDigits
bytes_of (Some bs) = Ok bs

abbrev pub by_values : Option (List ℕ) → Result (List ℕ) HexError
by_values None = Err NotHex
by_values (Some vs) = bytes_of (paired vs)

-- the bytes of a line, or why it has none
abbrev pub hex_of : List ℕ → Result (List ℕ) HexError
hex_of line = by_values (values line)

-- that answer, unless there was not enough memory
abbrev pub Answered : Result (List ℕ) HexError → Result (Vec ℕ Global) HexError → Type 0
Answered expected r = MatchResult r (λ v. expected ≡ Ok (vec_items v)) (λ e. (e ≡ Memory) ⊎ (expected ≡ Err e))

abbrev pub hex_words : HexError → List ℕ
hex_words NotHex = codes "a frame in hex has digits and blanks alone"
hex_words OddDigits = codes "the number of digits is odd"
hex_words Memory = codes "there was not enough memory"
