-- No two owners have one sign: a test that is computed over all signs, and what it says of two places. Assumes nothing.
use Rattle.std.proofs.Common.{◌≡◌, ℕ, zero, suc, ◌+◌, ◌<◌, Bool, true, not, ◌&&◌, eqb, List, [], ◌∷◌, ◌++◌, length, get_or, Some, None, Option, sym, refl, ap, ◌∙◌, arith}
use Rattle.std.proofs.lemmas.List.{get_or_append_left, get_or-append-add}
use Rattle.std.specs.List.{list_any}
use Rattle.std.proofs.lemmas.List.Folds.{list_any_at}
use Rattle.std.proofs.lemmas.Bool.{and_parts, both_ways, not-true, eq-eqb}
use Rattle.plan.specs.declared.windows.Direction.{Direction}
use Rattle.plan.specs.declared.windows.Direction.TheVariants.{Output, Input}
use Rattle.plan.specs.declared.owners.Owner.{Owner}
use Rattle.plan_report.specs.Signs.{signs, sign, Drawn}

abbrev distinct : List ℕ → Bool
distinct [] = true
distinct (x ∷ xs) = not (list_any (eqb x) xs) && distinct xs

lacks_at : (x : ℕ) (xs : List ℕ) (i d : ℕ) → not (list_any (eqb x) xs) ≡ true → i < length xs → x ≡ get_or xs i d → ⊥
lacks_at x xs i d t h e = both_ways _ (not-true _ t) (list_any_at (eqb x) xs i d h (eq-eqb x _ e))

one_place : (xs : List ℕ) (i j d : ℕ) → distinct xs ≡ true → i < length xs → j < length xs → get_or xs i d ≡ get_or xs j d → i ≡ j
one_place [] i j d t h k e = absurd (omega arith)
one_place (x ∷ xs) zero zero d t h k e = refl
one_place (x ∷ xs) zero (suc j) d t h k e = absurd (lacks_at x xs j d (and_parts (not (list_any (eqb x) xs)) (distinct xs) t).0 (omega arith) e)
one_place (x ∷ xs) (suc i) zero d t h k e = absurd (lacks_at x xs i d (and_parts (not (list_any (eqb x) xs)) (distinct xs) t).0 (omega arith) (sym e))
one_place (x ∷ xs) (suc i) (suc j) d t h k e = ap suc (one_place xs i j d (and_parts (not (list_any (eqb x) xs)) (distinct xs) t).1 (omega arith) (omega arith) e)

-- all signs in a row: of a free bit, of outputs, of inputs
abbrev row : List ℕ
row = 46 ∷ (signs Output ++ signs Input)

row_distinct : distinct row ≡ true
row_distinct = refl

abbrev place_of : Direction → ℕ → ℕ
place_of Output i = suc i
place_of Input i = suc (32 + i)

abbrev place : Option Owner → ℕ
place None = 0
place (Some o) = place_of o.direction o.position.0

in_row : (d : Direction) (i : ℕ) → i < 32 → (place_of d i < 65) × (get_or (signs d) i 63 ≡ get_or row (place_of d i) 63)
in_row Output i h = (omega arith, sym (get_or_append_left (signs Output) (signs Input) 63 i h))
in_row Input i h = (omega arith, sym (get_or-append-add (signs Output) (signs Input) i 63))

drawn : (o : Option Owner) → Drawn o → (place o < 65) × (sign o ≡ get_or row (place o) 63)
drawn None h = (omega arith, refl)
drawn (Some o) h = in_row o.direction o.position.0 h

same_parts : (d e : Direction) (i j : ℕ) → i < 32 → j < 32 → place_of d i ≡ place_of e j → (d ≡ e) × (i ≡ j)
same_parts Output Output i j h k p = (refl, omega arith)
same_parts Output Input i j h k p = absurd (omega arith)
same_parts Input Output i j h k p = absurd (omega arith)
same_parts Input Input i j h k p = (refl, omega arith)

above : (d : Direction) (i : ℕ) → 0 ≡ place_of d i → ⊥
above Output i e = omega arith
above Input i e = omega arith

same_owner : (o p : Option Owner) → Drawn o → Drawn p → place o ≡ place p → o ≡ p
same_owner None None h k e = refl
same_owner None (Some p) h k e = absurd (above p.direction p.position.0 e)
same_owner (Some o) None h k e = absurd (above o.direction o.position.0 (sym e))
same_owner (Some o) (Some p) h k e =
    let s = same_parts o.direction p.direction o.position.0 p.position.0 h k e in
    λ t. Some (record { position = record { 0 = s.1 t }; direction = s.0 t })

-- two owners with one sign are one owner
pub apart : (o p : Option Owner) → Drawn o → Drawn p → sign o ≡ sign p → o ≡ p
apart o p h k e =
    let a = drawn o h in
    let b = drawn p k in
    same_owner o p h k (one_place row (place o) (place p) 63 row_distinct a.0 b.0 (sym a.1 ∙ e ∙ b.1))
