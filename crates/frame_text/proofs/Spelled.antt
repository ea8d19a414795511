-- Bytes in hex, some at a time from the front. Assumes nothing.
use Rattle.std.proofs.Common.{◌≡◌, ℕ, ◌+◌, ◌-◌, ◌*◌, ◌/◌, ◌%◌, ◌<◌, ◌≤◌, List, [], ◌∷◌, ◌++◌, length, get_or, take, drop, sym, ap, ◌∙◌, append_assoc, arith, length-drop}
use Rattle.std.proofs.lemmas.List.{take_all}
use Rattle.frame_text.specs.Digits.{hex2, hex4, hex8, hex_bytes}

-- two bytes as one number
hex_pair : (a b n : ℕ) → b < 256 → n ≡ a * 256 + b → hex4 n ≡ hex2 a ++ hex2 b
hex_pair a b n h e =
    let high : n / 256 ≡ a = omega arith in
    let low : n % 256 ≡ b = omega arith in
    ap (λ m. hex2 m ++ hex2 (n % 256)) high ∙ ap (λ m. hex2 a ++ hex2 m) low

-- four bytes as one number
hex_quad : (a b c d n : ℕ) → b < 256 → c < 256 → d < 256 → n ≡ a * 16777216 + b * 65536 + c * 256 + d → hex8 n ≡ (hex2 a ++ hex2 b) ++ (hex2 c ++ hex2 d)
hex_quad a b c d n hb hc hd e =
    let high : n / 65536 ≡ a * 256 + b = omega arith in
    let low : n % 65536 ≡ c * 256 + d = omega arith in
    ap (λ l. l ++ hex4 (n % 65536)) (hex_pair a b (n / 65536) hb high) ∙ ap (λ l. (hex2 a ++ hex2 b) ++ l) (hex_pair c d (n % 65536) hd low)

-- the tail of a slice pattern is what stands behind its front
behind : (k : ℕ) (xs : List ℕ) → hex_bytes (drop k xs) ≡ hex_bytes (take (length xs - k) (drop k xs))
behind k xs = ap hex_bytes (sym (take_all (length xs - k) (drop k xs) (omega (arith, length-drop k xs))))

pub hex_one : (xs : List ℕ) → 1 ≤ length xs → hex_bytes xs ≡ hex2 (get_or xs 0 0) ++ hex_bytes (take (length xs - 1) (drop 1 xs))
hex_one [] h = absurd (omega arith)
hex_one (a ∷ xs) h = ap (λ l. hex2 a ++ l) (behind 1 (a ∷ xs))

pub hex_two : (xs : List ℕ) (n : ℕ) → 2 ≤ length xs → get_or xs 1 0 < 256 → n ≡ get_or xs 0 0 * 256 + get_or xs 1 0 → hex_bytes xs ≡ hex4 n ++ hex_bytes (take (length xs - 2) (drop 2 xs))
hex_two [] n h b e = absurd (omega arith)
hex_two (a ∷ []) n h b e = absurd (omega arith)
hex_two (x ∷ y ∷ xs) n h b e = ap (λ l. (hex2 x ++ hex2 y) ++ l) (behind 2 (x ∷ y ∷ xs)) ∙ ap (λ l. l ++ hex_bytes (take (length (x ∷ y ∷ xs) - 2) xs)) (sym (hex_pair x y n b e))

pub hex_four : (xs : List ℕ) (n : ℕ) → 4 ≤ length xs → get_or xs 1 0 < 256 → get_or xs 2 0 < 256 → get_or xs 3 0 < 256 → n ≡ get_or xs 0 0 * 16777216 + get_or xs 1 0 * 65536 + get_or xs 2 0 * 256 + get_or xs 3 0 → hex_bytes xs ≡ hex8 n ++ hex_bytes (take (length xs - 4) (drop 4 xs))
hex_four [] n h b c d e = absurd (omega arith)
hex_four (x ∷ []) n h b c d e = absurd (omega arith)
hex_four (x ∷ y ∷ []) n h b c d e = absurd (omega arith)
hex_four (x ∷ y ∷ z ∷ []) n h b c d e = absurd (omega arith)
hex_four (x ∷ y ∷ z ∷ w ∷ xs) n h b c d e = ap (λ l. ((hex2 x ++ hex2 y) ++ (hex2 z ++ hex2 w)) ++ l) (behind 4 (x ∷ y ∷ z ∷ w ∷ xs)) ∙ ap (λ l. l ++ hex_bytes (take (length (x ∷ y ∷ z ∷ w ∷ xs) - 4) xs)) (sym (hex_quad x y z w n b c d e))

-- what was written, and what the front adds to it
pub onward : (all done front rest left : List ℕ) → all ≡ done ++ rest → rest ≡ front ++ left → all ≡ (done ++ front) ++ left
onward all done front rest left e f = e ∙ ap (λ l. done ++ l) f ∙ sym (append_assoc done front left)
