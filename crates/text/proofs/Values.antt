-- The value of digits, one digit after another. Assumes nothing.
use denote.Param.Members.{Mut}
use Rattle.std.proofs.Common.{◌≡◌, ℕ, ◌+◌, ◌-◌, ◌*◌, ◌<◌, ◌≤◌, List, [], ◌∷◌, length, Some, None, Option, ControlFlow, sym, refl, ap, subst, ◌∙◌, arith}
use Rattle.std.specs.ControlFlow.{continue_value}
use Rattle.std.specs.Fn.{Called}
use Rattle.std.specs.Iterator.{AlwaysYields, YieldsThen, TryFoldTurn, TryFoldsItems}
use Rattle.std.specs.List.{FoldsTo}
use Rattle.std.specs.Option.{MatchOption}
use Rattle.std.proofs.lemmas.Bool.Decides.{nat_tests}
use Rattle.std.proofs.lemmas.Grind.{common_steps}
use Rattle.std.proofs.lemmas.Iterator.{YieldsList}
use Rattle.text.specs.Decimal.{value_after, number_after, decimal_of, with_digit}

value_ge : (n : ℕ) (bs : List ℕ) → n ≤ value_after n bs
value_ge n [] = omega arith
value_ge n (b ∷ bs) = omega (arith, value_ge (n * 10 + (b - 48)) bs)

-- a byte that is no digit, or a number that grows too large
number_none : (n b : ℕ) (bs : List ℕ) → with_digit n b ≡ None → number_after n (b ∷ bs) ≡ None
number_none n b bs h = grind (arith, nat_tests, value_ge)

number_more : (n b m : ℕ) (bs : List ℕ) → with_digit n b ≡ Some m → (m ≤ 4294967295) × (number_after n (b ∷ bs) ≡ number_after m bs)
number_more n b m bs h = grind (arith, nat_tests)

number_all : (n : ℕ) → n ≤ 4294967295 → Some n ≡ number_after n []
number_all n h = grind (arith, nat_tests)

pub decimal_none : (bs : List ℕ) → length bs ≡ 0 → None ≡ decimal_of bs
unfolding decimal_of
decimal_none bs h = grind (arith, common_steps)

pub decimal_some : (bs : List ℕ) → 0 < length bs → number_after 0 bs ≡ decimal_of bs
unfolding decimal_of
decimal_some [] h = absurd (omega arith)
decimal_some (b ∷ bs) h = refl

-- a call of f adds one byte to the value so far, and the bytes that the iterator gives make the number
module _ {S A F : Type 0} (E : Type 0) (steps : S → Option A → S → Type 0) (v : A → ℕ) (g : Mut F (ℕ × (A × Unit {0})) (Option ℕ)) (f : F)
    (k : (n : ℕ) (x : A) (r : Option ℕ) (q : F) → Called g f (n, (x, tt)) r q → (q ≡ f) × (r ≡ with_digit n (v x))) where
  abbrev branches : Option ℕ → ControlFlow E ℕ → Type 0
  branches r c = r ≡ continue_value c

  made : (xs : List A) (bs : List ℕ) (o : Option A) (s u : S) (n : ℕ) (q : F × ℕ) (r : Option ℕ) → n ≤ 4294967295 → AlwaysYields steps v s bs → YieldsThen steps s xs o u → FoldsTo (TryFoldTurn g branches) (f, n) xs q
      → MatchOption o (r ≡ Some q.1) (λ x. (w : Option ℕ) × (h : F) × (e : E) × Called g q.0 (q.1, (x, tt)) w h × (w ≡ None) × (r ≡ None)) → r ≡ number_after n bs
  made [] [] None s u n q r le all y c m = m ∙ ap (λ w. Some w.1) (sym c) ∙ number_all n le
  made [] [] (Some x) s u n q r le all y c m = absurd (all x u (subst (λ w. steps w (Some x) u) (sym y.1) y.2))
  made [] (b ∷ bs) None s u n q r le all y c m = absurd (all.0 u (subst (λ w. steps w None u) (sym y.1) y.2))
  made [] (b ∷ bs) (Some x) s u n q r le all y c m =
      let is = (all.1 x u (subst (λ w. steps w (Some x) u) (sym y.1) y.2)).0 in
      let turn = k n x m.0 m.1 (subst (λ w. Called g w.0 (w.1, (x, tt)) m.0 m.1) (sym c) m.3) in
      m.5 ∙ sym (number_none n b bs (cc (is, turn.1, m.4)))
  made (x ∷ xs) [] o s u n q r le all y c m = absurd (all x y.1.0 y.1.1)
  made (x ∷ xs) (b ∷ bs) o s u n q r le all y c m =
      let next = all.1 x y.1.0 y.1.1 in
      let turn = k n x c.1.0 c.0.0 c.1.1 in
      let more = number_more n b c.0.1 bs (cc (next.0, turn.1, c.1.2)) in
      made xs bs o y.1.0 u c.0.1 q r more.0 next.1 (y.0, y.1.2, y.2) (subst (λ w. FoldsTo (TryFoldTurn g branches) (w, c.0.1) xs q) turn.0 c.2) m ∙ sym more.1

  pub number_from_try_fold : (s u : S) (r : Option ℕ) (all : List ℕ) → TryFoldsItems steps g branches (λ _ w. w ≡ None) s f 0 r u → YieldsList steps v s all → r ≡ number_after 0 all
  number_from_try_fold s u r all d e = made d.0 all d.1 s u 0 (d.2, d.3) r (omega arith) e.runs d.4 d.5 d.6
