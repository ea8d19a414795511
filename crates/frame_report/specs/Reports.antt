-- What is told of a text of frames in hex. Assumes nothing.
use Rattle.std.specs.Prelude.{ℕ, ◌+◌, List, [], ◌∷◌, ◌++◌, Ok, Err, codes, decimal, Result}
use Rattle.text.specs.Lines.{lines, uncommented}
use Rattle.frame_text.specs.declared.hex.HexError.{HexError}
use Rattle.frame_text.specs.Hex.{hex_of, hex_words}

-- what is told of the line with the number n: of its frame, or why it is none; one with no digit is passed over
abbrev pub hex_report : (List ℕ → List ℕ) → ℕ → Result (List ℕ) HexError → List ℕ
hex_report told n (Ok []) = []
hex_report told n (Ok (b ∷ bs)) = told (b ∷ bs)
hex_report told n (Err e) = codes "line " ++ (decimal n ++ (codes ": " ++ (hex_words e ++ codes "\n")))

abbrev pub line_report : (List ℕ → List ℕ) → ℕ → List ℕ → List ℕ
line_report told n digits = hex_report told n (hex_of digits)

-- the lines from the one with the number n on, without their comments
abbrev pub report_from : (List ℕ → List ℕ) → ℕ → List (List ℕ) → List ℕ
report_from told n [] = []
report_from told n (l ∷ ls) = line_report told n (uncommented l) ++ report_from told (n + 1) ls

-- every line counts, from 1
abbrev pub report_of : (List ℕ → List ℕ) → List ℕ → List ℕ
report_of told text = report_from told 1 (lines text)
