-- Digits that are paired up one after another. Assumes nothing.
use Rattle.std.proofs.Common.{◌≡◌, ℕ, ◌+◌, ◌*◌, ◌<◌, ◌≤◌, true, false, cond, List, [], ◌∷◌, ◌++◌, length, get_or, drop, Some, None, Ok, Err, Option, Result, sym, refl, ap, ◌∙◌, append_assoc, append-nil}
use Rattle.std.proofs.lemmas.List.{at_drop_more, at_drop_all}
use Rattle.std.proofs.lemmas.Bool.{cond-true, cond-false}
use Rattle.std.specs.Option.{option_map}
use Rattle.text.specs.Words.{blank}
use Rattle.frame_text.specs.declared.hex.HexError.{HexError}
use Rattle.frame_text.specs.declared.hex.HexError.TheVariants.{NotHex, OddDigits}
use Rattle.frame_text.specs.Hex.{digit_value, with_first, values, paired, bytes_of, by_values, hex_of}

abbrev pub ended : List ℕ → Option (List ℕ) → Result (List ℕ) HexError
ended done None = Err OddDigits
ended done (Some bs) = Ok (done ++ bs)

-- a first digit that waits for its second stands before the others
abbrev pub pending : Option ℕ → List ℕ → List ℕ
pending None vs = vs
pending (Some h) vs = h ∷ vs

-- what comes of the values that are left, behind bytes that are done
abbrev pub after : List ℕ → Option ℕ → Option (List ℕ) → Result (List ℕ) HexError
after done high None = Err NotHex
after done high (Some vs) = ended done (paired (pending high vs))

-- the same of a line from i on
abbrev pub after_in : List ℕ → Option ℕ → List ℕ → ℕ → Result (List ℕ) HexError
after_in done high line i = after done high (values (drop i line))

first_ends : (o : Option (List ℕ)) → ended [] o ≡ bytes_of o
first_ends None = refl
first_ends (Some bs) = refl

start : (o : Option (List ℕ)) → after [] None o ≡ by_values o
start None = refl
start (Some vs) = first_ends (paired vs)

pub starts : (line : List ℕ) → after_in [] None line 0 ≡ hex_of line
starts line = start (values line)

step : (done : List ℕ) (high : Option ℕ) (line : List ℕ) (i : ℕ) → i < length line → after_in done high line i ≡ after done high (cond (blank (get_or line i 0)) (values (drop (i + 1) line)) (with_first (digit_value (get_or line i 0)) (values (drop (i + 1) line))))
step done high line i h = at_drop_more (λ ys. after done high (values ys)) line i 0 h

pub skips : (done : List ℕ) (high : Option ℕ) (line : List ℕ) (i : ℕ) → i < length line → blank (get_or line i 0) ≡ true → after_in done high line (i + 1) ≡ after_in done high line i
skips done high line i h b = sym (step done high line i h ∙ ap (after done high) (cond-true (blank (get_or line i 0)) _ _ b))

stepped : (done : List ℕ) (high v : Option ℕ) (line : List ℕ) (i : ℕ) → i < length line → blank (get_or line i 0) ≡ false → v ≡ digit_value (get_or line i 0) → after_in done high line i ≡ after done high (with_first v (values (drop (i + 1) line)))
stepped done high v line i h b e =
    step done high line i h
    ∙ ap (after done high) (cond-false (blank (get_or line i 0)) _ _ b)
    ∙ ap (λ o. after done high (with_first o (values (drop (i + 1) line)))) (sym e)

waits : (done : List ℕ) (v : ℕ) (o : Option (List ℕ)) → after done None (with_first (Some v) o) ≡ after done (Some v) o
waits done v None = refl
waits done v (Some vs) = refl

pub first_digit : (done : List ℕ) (v : ℕ) (line : List ℕ) (i : ℕ) → i < length line → blank (get_or line i 0) ≡ false → Some v ≡ digit_value (get_or line i 0) → after_in done (Some v) line (i + 1) ≡ after_in done None line i
first_digit done v line i h b e = sym (stepped done None (Some v) line i h b e ∙ waits done v (values (drop (i + 1) line)))

ended_more : (done : List ℕ) (x : ℕ) (o : Option (List ℕ)) → ended done (option_map (λ bs. x ∷ bs) o) ≡ ended (done ++ x ∷ []) o
ended_more done x None = refl
ended_more done x (Some bs) = ap Ok (sym (append_assoc done (x ∷ []) bs))

makes : (done : List ℕ) (h v : ℕ) (o : Option (List ℕ)) → after done (Some h) (with_first (Some v) o) ≡ after (done ++ (16 * h + v) ∷ []) None o
makes done h v None = refl
makes done h v (Some vs) = ended_more done (16 * h + v) (paired vs)

pub second_digit : (done : List ℕ) (f v : ℕ) (line : List ℕ) (i : ℕ) → i < length line → blank (get_or line i 0) ≡ false → Some v ≡ digit_value (get_or line i 0) → after_in (done ++ (16 * f + v) ∷ []) None line (i + 1) ≡ after_in done (Some f) line i
second_digit done f v line i h b e = sym (stepped done (Some f) (Some v) line i h b e ∙ makes done f v (values (drop (i + 1) line)))

pub no_digit : (done : List ℕ) (high : Option ℕ) (line : List ℕ) (i : ℕ) → i < length line → blank (get_or line i 0) ≡ false → None ≡ digit_value (get_or line i 0) → after_in done high line i ≡ Err NotHex
no_digit done high line i h b e = stepped done high None line i h b e

pub ends : (done : List ℕ) (line : List ℕ) (i : ℕ) → length line ≤ i → after_in done None line i ≡ Ok done
ends done line i h = at_drop_all (λ ys. after done None (values ys)) line i h ∙ ap Ok (append-nil done)

pub odd : (done : List ℕ) (f : ℕ) (line : List ℕ) (i : ℕ) → length line ≤ i → after_in done (Some f) line i ≡ Err OddDigits
odd done f line i h = at_drop_all (λ ys. after done (Some f) (values ys)) line i h
