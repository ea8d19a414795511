-- The first piece of a run of bytes, and what is left after it. Assumes nothing.
use Rattle.std.proofs.Common.{◌≡◌, ℕ, ◌+◌, ◌<◌, ◌≤◌, Bool, false, true, cond, not, eqb, List, [], ◌∷◌, length, get_or, take, drop, Some, None, Option, sym, refl, ap, ◌∙◌, inl, inr, add-zero, arith}
use Rattle.std.specs.Option.{unwrap_or}
use Rattle.std.specs.List.{position, position_or_len, before_first, after_first}
use Rattle.std.proofs.lemmas.Bool.{cases_Bool, not-true}
use Rattle.std.proofs.lemmas.Bool.Decides.{nat_tests}
use Rattle.std.proofs.lemmas.Grind.{common_steps}
use Rattle.std.proofs.lemmas.List.{length-drop, get_or-drop}
use Rattle.std.proofs.lemmas.List.Quantifiers.{position-Some}
use Rattle.std.proofs.lemmas.List.Sums.{prefix_len-le-length}
use Rattle.text.specs.Pieces.{pieces}
use Rattle.text.specs.Lines.{newline, lines, uncommented}
use Rattle.text.specs.Words.{blank, nonempty, words}

-- the place of the first byte that passes, or the length
pub end_is : (p : ℕ → Bool) (xs : List ℕ) (at : Option ℕ) → at ≡ position p xs → unwrap_or at (length xs) ≡ position_or_len p xs
end_is p xs at is = grind (arith, nat_tests, prefix_len-le-length)

first_piece : (stop : ℕ → Bool) (b : ℕ) (bs : List ℕ) → pieces stop (b ∷ bs) ≡ before_first stop (b ∷ bs) ∷ pieces stop (after_first stop (b ∷ bs))
first_piece stop b [] = grind (arith, common_steps)
first_piece stop b (c ∷ cs) = grind (arith, common_steps, first_piece stop c cs)

first_line : (xs : List ℕ) → 0 < length xs → lines xs ≡ before_first newline xs ∷ lines (after_first newline xs)
unfolding lines
first_line [] h = absurd (omega arith)
first_line (b ∷ bs) h = first_piece newline b bs

-- at is the place of the first newline
pub line_step : (xs line rest : List ℕ) (at : Option ℕ) → 0 < length xs → at ≡ position newline xs → line ≡ take (unwrap_or at (length xs)) xs → rest ≡ drop (unwrap_or at (length xs) + 1) xs → lines xs ≡ line ∷ lines rest
line_step xs line rest at some is front back = cc (end_is newline xs at is, first_line xs some)

pub no_line : (xs : List ℕ) → length xs ≡ 0 → lines xs ≡ []
unfolding lines
no_line xs h = grind (arith, common_steps)

before_hash : (b : ℕ) (bs : List ℕ) → before_first (λ x. eqb x 35) (b ∷ bs) ≡ cond (eqb b 35) [] (b ∷ before_first (λ x. eqb x 35) bs)
before_hash b bs = grind (arith, common_steps)

pub uncommented_is : (xs : List ℕ) → before_first (λ b. eqb b 35) xs ≡ uncommented xs
unfolding uncommented
uncommented_is [] = refl
uncommented_is (b ∷ bs) = before_hash b bs ∙ ap (λ l. cond (eqb b 35) [] (b ∷ l)) (uncommented_is bs)

-- a byte of a word
abbrev pub solid : ℕ → Bool
solid b = not (blank b)

-- what is left of a line after the blanks at its front
abbrev unblanked : List ℕ → List ℕ
unblanked xs = drop (position_or_len solid xs) xs

unblanked-cons : (b : ℕ) (bs : List ℕ) → unblanked (b ∷ bs) ≡ cond (blank b) (unblanked bs) (b ∷ bs)
unblanked-cons b bs = grind (arith, common_steps)

words-blank : (b : ℕ) (bs : List ℕ) → blank b ≡ true → words (b ∷ bs) ≡ words bs
unfolding words
words-blank b bs e = grind (arith, common_steps)

words_unblanked : (xs : List ℕ) → words xs ≡ words (unblanked xs)
words_unblanked [] = refl
words_unblanked (b ∷ bs) =
    elim (cases_Bool (blank b)) [
      | inl e ↦ rw (unblanked-cons, e) (words-blank b bs e ∙ words_unblanked bs)
      | inr e ↦ rw (unblanked-cons, e) refl
    ]

no_word : (xs : List ℕ) → length xs ≡ 0 → words xs ≡ []
unfolding words
no_word xs h = grind (arith, common_steps)

first_word : (xs : List ℕ) → 0 < length xs → blank (get_or xs 0 0) ≡ false → words xs ≡ before_first blank xs ∷ words (after_first blank xs)
unfolding words
first_word [] h e = absurd (omega arith)
first_word (b ∷ bs) h e = let first = first_piece blank b bs in grind (arith, common_steps)

-- start is the place of the first byte that is no blank, and at that of the first blank after it
pub word_step : (xs line word rest : List ℕ) (start : ℕ) (at : Option ℕ) → Some start ≡ position solid xs → line ≡ drop start xs → at ≡ position blank line → word ≡ take (unwrap_or at (length line)) line → rest ≡ drop (unwrap_or at (length line) + 1) line → words xs ≡ word ∷ words rest
word_step xs line word rest start at found same is front back =
    let here = position-Some solid xs start 0 (sym found) in
    let some : 0 < length line = omega (arith, ap length same, length-drop start xs) in
    let first : get_or line 0 0 ≡ get_or xs start 0 = ap (λ l. get_or l 0 0) same ∙ get_or-drop start xs 0 0 ∙ ap (λ n. get_or xs n 0) (add-zero start) in
    cc (words_unblanked xs, end_is solid xs (Some start) found, end_is blank line at is, first_word line some (ap blank first ∙ not-true _ here.1))

pub no_words : (xs : List ℕ) → None ≡ position solid xs → words xs ≡ []
no_words xs none =
    let from : length xs ≡ position_or_len solid xs = end_is solid xs None none in
    words_unblanked xs ∙ no_word (unblanked xs) (omega (arith, length-drop (position_or_len solid xs) xs))

-- no more pieces than bytes
pieces_le : (stop : ℕ → Bool) (xs : List ℕ) → length (pieces stop xs) ≤ length xs
pieces_le stop [] = omega arith
pieces_le stop (b ∷ bs) = grind (arith, common_steps, pieces_le stop bs)

nonempty_le : (ps : List (List ℕ)) → length (nonempty ps) ≤ length ps
nonempty_le [] = omega arith
nonempty_le ([] ∷ ps) = omega (arith, nonempty_le ps)
nonempty_le ((b ∷ bs) ∷ ps) = omega (arith, nonempty_le ps)

pub lines_le : (xs : List ℕ) → length (lines xs) ≤ length xs
unfolding lines
lines_le xs = pieces_le newline xs

pub words_le : (xs : List ℕ) → length (words xs) ≤ length xs
unfolding words
words_le xs = omega (arith, nonempty_le (pieces blank xs), pieces_le blank xs)
