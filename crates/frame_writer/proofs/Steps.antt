-- One more datagram in a frame under way. Assumes nothing.
use Rattle.std.proofs.Common.{◌≡◌, ℕ, ◌+◌, ◌≤◌, List, [], ◌∷◌, ◌++◌, length, take, drop, Option, Some, None, sym, refl, ap, ◌∙◌, append_assoc, append-nil, arith}
use Rattle.std.proofs.lemmas.List.{length-append, drop_at, drop-append-le, drop-drop, length-take-le}
use Rattle.std.proofs.lemmas.Bool.Decides.{nat_tests}
use Rattle.std.proofs.lemmas.Grind.{common_steps}
use Rattle.frame.specs.Datagrams.{Fields}
use Rattle.frame_writer.specs.Adding.{add_fault}
use Rattle.frame_writer.specs.Encoding.{size_in, encoded, followed, total, laid_at}
use Rattle.frame_writer.specs.declared.writers.Laid.{Laid}
use Rattle.frame_writer.specs.Writers.{last_from, last_size, end_after, Valid, AllValid, Holds}

-- what is the same behind a place is the same behind a further one
pub further : (b c : List ℕ) (m k e : ℕ) → m + k ≡ e → drop m b ≡ drop m c → drop e b ≡ drop e c
further b c m k e s h = ap (λ n. drop n b) (sym s) ∙ sym (drop-drop k m b) ∙ ap (drop k) h ∙ drop-drop k m c ∙ ap (λ n. drop n c) s

-- what is written over other bytes stands behind those before it, and those behind it stay
pub laid_front : (b xs : List ℕ) (p n : ℕ) → n ≡ p + length xs → n ≤ length b → take n (laid_at p xs b) ≡ take p b ++ xs
laid_front b xs p n e h = grind (arith, common_steps)

pub laid_behind : (b xs : List ℕ) (p n : ℕ) → n ≡ p + length xs → n ≤ length b → drop n (laid_at p xs b) ≡ drop n b
laid_behind b xs p n e h =
    let l = length-append (take p b) xs in
    let k = length-take-le p b (omega arith) in
    ap (drop n) (sym (append_assoc (take p b) xs (drop (p + length xs) b))) ∙ drop_at (take p b ++ xs) (drop (p + length xs) b) n (omega arith) ∙ ap (λ i. drop i b) (sym e)

-- two writes in a row are one
pub laid_more : (b xs ys : List ℕ) (p q : ℕ) → q ≡ p + length xs → q ≤ length b → laid_at q ys (laid_at p xs b) ≡ laid_at p (xs ++ ys) b
laid_more b xs ys p q e h =
    let l = length-append xs ys in
    let k : q + length ys ≡ p + length (xs ++ ys) = omega arith in
    let back = further (laid_at p xs b) b q (length ys) (p + length (xs ++ ys)) k (laid_behind b xs p q e h) in
    (λ i. laid_front b xs p q e h i ++ (ys ++ drop (k i) (laid_at p xs b)))
    ∙ ap (λ x. (take p b ++ xs) ++ (ys ++ x)) back
    ∙ simp append_assoc

pub length-encoded : (d : Fields) (flag : ℕ) → length (encoded d flag) ≡ size_in d
length-encoded d flag = simp length-append (omega arith)

-- a datagram that is not refused
pub record Addable (p : ℕ) (d : Fields) : Type 0 where
  pub valid : Valid d
  pub fits : p + size_in d ≤ 1514

pub addable : (p : ℕ) (d : Fields) → add_fault p d ≡ None → Addable p d
addable p d h = grind (arith, nat_tests)

pub total_more : (ds : List Fields) (d : Fields) → total (ds ++ d ∷ []) ≡ total ds + size_in d
total_more [] d = omega arith
total_more (e ∷ ds) d = omega (arith, total_more ds d)

followed_more : (ds : List Fields) (d : Fields) → followed (ds ++ d ∷ []) ≡ followed ds ++ encoded d 128
followed_more [] d = append-nil (encoded d 128)
followed_more (e ∷ ds) d = grind (arith, common_steps, followed_more ds d)

last_more : (ds : List Fields) (d : Fields) (p : ℕ) → last_from p (ds ++ d ∷ []) ≡ p + total ds
last_more [] d p = omega arith
last_more (e ∷ []) d p = omega arith
last_more (e ∷ f ∷ ds) d p = omega (arith, last_more (f ∷ ds) d (p + size_in e))

size_more : (ds : List Fields) (d : Fields) → last_size (ds ++ d ∷ []) ≡ length d.bytes
size_more [] d = refl
size_more (e ∷ []) d = refl
size_more (e ∷ f ∷ ds) d = size_more (f ∷ ds) d

valid_more : (ds : List Fields) (d : Fields) → AllValid ds → Valid d → AllValid (ds ++ d ∷ [])
valid_more [] d a h = (h, tt)
valid_more (e ∷ ds) d a h = (a.0, valid_more ds d a.1 h)

pub holds_more : (b b' : List ℕ) (last : Option Laid) (to : Laid) (d : Fields) (ds : List Fields) → Holds b last ds → b' ≡ laid_at (end_after last) (encoded d 128) b → end_after last + size_in d ≤ length b → to.at ≡ end_after last → to.size ≡ length d.bytes → Valid d → Holds b' (Some to) (ds ++ d ∷ [])
holds_more b b' last to d ds h is long at size ok =
    let k = h.ends in
    let n : to.at + (to.size + 12) ≡ end_after last + size_in d = omega arith in
    let e = length-encoded d 128 in
    let l : 16 ≤ length (take (end_after last) b) = omega (arith, length-take-le (end_after last) b (omega arith)) in
    let t = total_more ds d in
    record {
      area =
          (λ i. drop 16 (take (n i) (is i)))
          ∙ ap (drop 16) (laid_front b (encoded d 128) (end_after last) (end_after last + size_in d) (omega arith) long)
          ∙ drop-append-le 16 (take (end_after last) b) (encoded d 128) l
          ∙ ap (λ x. x ++ encoded d 128) h.area
          ∙ sym (followed_more ds d);
      ends = omega arith;
      tail = (at ∙ h.ends ∙ sym (last_more ds d 16), size ∙ sym (size_more ds d));
      valid = valid_more ds d h.valid ok;
    }
