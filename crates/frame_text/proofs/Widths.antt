-- Hex with leading zeros, as the library writes it under a width. Assumes nothing.
use Rattle.std.proofs.Common.{◌≡◌, ℕ, zero, suc, ◌+◌, ◌-◌, ◌/◌, ◌%◌, ◌^◌, ◌<◌, ◌≤◌, false, List, [], ◌∷◌, ◌++◌, length, replicate, Some, Option, sym, refl, ap, ◌∙◌, append-nil, arith}
use Rattle.std.proofs.lemmas.Bool.Decides.{nat_tests}
use Rattle.std.specs.Fmt.{digit_glyph, digits_onto, digits, padded_integral, format_spec, char_count, digits_output, styled_digits_output, DisplaysOnOk, WritesOnOk}
use Rattle.frame_text.specs.Digits.{hex2, hex4, hex8}

-- the last k digits of n, in front of others
abbrev pub wide : ℕ → ℕ → List ℕ → List ℕ
wide zero n acc = acc
wide (suc k) n acc = wide k (n / 16) (digit_glyph false (n % 16) ∷ acc)

-- k digits are enough for n
abbrev pub Small : ℕ → ℕ → Type 0
Small zero n = n ≡ 0
Small (suc k) n = Small k (n / 16)

replicate_snoc : (k x : ℕ) (xs : List ℕ) → replicate k x ++ (x ∷ xs) ≡ x ∷ (replicate k x ++ xs)
replicate_snoc zero x xs = refl
replicate_snoc (suc k) x xs = ap (λ l. x ∷ l) (replicate_snoc k x xs)

zeros : (k : ℕ) (xs : List ℕ) → wide k 0 xs ≡ replicate k 48 ++ xs
zeros zero xs = refl
zeros (suc k) xs = zeros k (48 ∷ xs) ∙ replicate_snoc k 48 xs

-- what is written where k digits are wanted in front of others
abbrev pub filling : ℕ → List ℕ → List ℕ → List ℕ
filling k acc bytes = replicate (k + length acc - length bytes) 48 ++ bytes

onto_last : (f n : ℕ) (acc : List ℕ) → n / 16 ≡ 0 → digits_onto (suc f) 16 false n acc ≡ digit_glyph false (n % 16) ∷ acc
onto_last f n acc e = rw e

onto_more : (f n m : ℕ) (acc : List ℕ) → n / 16 ≡ suc m → digits_onto (suc f) 16 false n acc ≡ digits_onto f 16 false (n / 16) (digit_glyph false (n % 16) ∷ acc)
onto_more f n m acc e = grind (arith, nat_tests)

-- a number that k digits are enough for is written by k digits
abbrev Filled : ℕ → Type 0
Filled k = (f n : ℕ) (acc : List ℕ) → 0 < k → k ≤ f → Small k n → filling k acc (digits_onto f 16 false n acc) ≡ wide k n acc

one_more : (k f n q : ℕ) (acc : List ℕ) → Filled k → k ≤ f → Small k (n / 16) → n / 16 ≡ q → filling (suc k) acc (digits_onto (suc f) 16 false n acc) ≡ wide (suc k) n acc
one_more k f n zero acc ih h s e =
    let front = digit_glyph false (n % 16) ∷ acc in
    ap (filling (suc k) acc) (onto_last f n acc e)
    ∙ ap (λ j. replicate j 48 ++ front) (omega arith)
    ∙ sym (zeros k front)
    ∙ ap (λ m. wide k m front) (sym e)
one_more zero f n (suc m) acc ih h s e = absurd (omega arith)
one_more (suc k) f n (suc m) acc ih h s e =
    let front = digit_glyph false (n % 16) ∷ acc in
    let rest = digits_onto f 16 false (n / 16) front in
    ap (filling (suc (suc k)) acc) (onto_more f n m acc e)
    ∙ ap (λ j. replicate j 48 ++ rest) (omega arith)
    ∙ ih f (n / 16) front (omega arith) h s

pub filled : (k : ℕ) → Filled k
filled zero f n acc p h s = absurd (omega arith)
filled (suc k) zero n acc p h s = absurd (omega arith)
filled (suc k) (suc f) n acc p h s = one_more k f n (n / 16) acc (filled k) (omega arith) s refl

as_onto : (n : ℕ) → digits 16 false n ≡ digits_onto 64 16 false n []
unfolding digits
as_onto n = refl

padded : (k : ℕ) (bytes : List ℕ) → padded_integral (format_spec 32 0 4 k (2 ^ 64 - 1)) false [] bytes ≡ filling k [] bytes
unfolding padded_integral char_count
padded k bytes =
    let missing : k - length bytes - 0 - 0 ≡ k + 0 - length bytes = omega arith in
    ap (λ j. replicate j 48 ++ (bytes ++ [])) missing ∙ ap (λ l. replicate (k + 0 - length bytes) 48 ++ l) (append-nil bytes)

-- what `{:0Kx}` writes of it
pub padded_wide : (k n : ℕ) → 0 < k → k ≤ 64 → Small k n → padded_integral (format_spec 32 0 4 k (2 ^ 64 - 1)) false [] (digits 16 false n) ≡ wide k n []
padded_wide k n p h s = padded k (digits 16 false n) ∙ ap (filling k []) (as_onto n) ∙ filled k 64 n [] p h s

hex2_low : (n : ℕ) → hex2 (n % 256) ≡ hex2 n
hex2_low n = let a : n % 256 / 16 % 16 ≡ n / 16 % 16 = omega arith in let b : n % 256 % 16 ≡ n % 16 = omega arith in rw (a, b)

wide4 : (n : ℕ) (acc : List ℕ) → wide 4 n acc ≡ hex4 n ++ acc
wide4 n acc = let a : n / 16 / 16 ≡ n / 256 = omega arith in ap (λ m. hex2 m ++ (hex2 n ++ acc)) a ∙ ap (λ l. hex2 (n / 256) ++ (l ++ acc)) (sym (hex2_low n))

hex4_low : (n : ℕ) → hex4 (n % 65536) ≡ hex4 n
hex4_low n =
    let high : n % 65536 / 256 ≡ n / 256 % 256 = omega arith in
    let low : n % 65536 % 256 ≡ n % 256 = omega arith in
    ap (λ m. hex2 m ++ hex2 (n % 65536 % 256)) high
    ∙ ap (λ m. hex2 (n / 256 % 256) ++ hex2 m) low
    ∙ ap (λ l. l ++ hex2 (n % 256)) (hex2_low (n / 256))

wide8 : (n : ℕ) (acc : List ℕ) → wide 8 n acc ≡ hex8 n ++ acc
wide8 n acc =
    let high : n / 16 / 16 / 16 / 16 ≡ n / 65536 = omega arith in
    wide4 (n / 16 / 16 / 16 / 16) (wide 4 n acc)
    ∙ ap (λ l. hex4 (n / 16 / 16 / 16 / 16) ++ l) (wide4 n acc)
    ∙ ap (λ m. hex4 m ++ (hex4 n ++ acc)) high
    ∙ ap (λ l. hex4 (n / 65536) ++ (l ++ acc)) (sym (hex4_low n))

-- what `{:02x}`, `{:04x}` and `{:08x}` write
shown : (k n : ℕ) (d : _) (s : _) → 0 < k → k ≤ 64 → Small k n → digits_output d ≡ Some (digits 16 false n) → s ≡ format_spec 32 0 4 k (2 ^ 64 - 1) → styled_digits_output d s ≡ Some (wide k n [])
shown k n d s p h small digit spec = rw (spec, digit, padded_wide k n p h small)

pub shown2 : (n : ℕ) (d : _) (s : _) → n < 2 ^ 8 → digits_output d ≡ Some (digits 16 false n) → s ≡ format_spec 32 0 4 2 (2 ^ 64 - 1) → styled_digits_output d s ≡ Some (hex2 n)
shown2 n d s small digit spec = shown 2 n d s (omega arith) (omega arith) (omega arith) digit spec

pub shown4 : (n : ℕ) (d : _) (s : _) → n < 2 ^ 16 → digits_output d ≡ Some (digits 16 false n) → s ≡ format_spec 32 0 4 4 (2 ^ 64 - 1) → styled_digits_output d s ≡ Some (hex4 n)
shown4 n d s small digit spec = shown 4 n d s (omega arith) (omega arith) (omega arith) digit spec ∙ ap Some (wide4 n [] ∙ append-nil (hex4 n))

pub shown8 : (n : ℕ) (d : _) (s : _) → n < 2 ^ 32 → digits_output d ≡ Some (digits 16 false n) → s ≡ format_spec 32 0 4 8 (2 ^ 64 - 1) → styled_digits_output d s ≡ Some (hex8 n)
shown8 n d s small digit spec = shown 8 n d s (omega arith) (omega arith) (omega arith) digit spec ∙ ap Some (wide8 n [] ∙ append-nil (hex8 n))

-- what a hole writes, under another name of the same bytes
pub displayed : {W : Type 0} (took : W → List ℕ → W → Type 0) (f : _) (r : _) (o : Option (List ℕ)) (bytes : List ℕ) (g : _) → o ≡ Some bytes → DisplaysOnOk took f r o g → WritesOnOk took f r bytes g
displayed took f r o bytes g same writes = rw same at writes
