-- Where a bit's owner is found, and that it is the only one. Assumes nothing.
use Rattle.std.proofs.Common.{◌≡◌, ℕ, zero, suc, ◌+◌, ◌<◌, ◌≤◌, Bool, false, cond, ◌⊎◌, List, [], ◌∷◌, ◌++◌, length, get_or, drop, is_some, Some, None, Option, MatchOption, sym, refl, ap, ◌∙◌, inl, inr, ⊎_elim, arith}
use Rattle.std.specs.List.{find}
use Rattle.std.specs.Option.{option_map}
use Rattle.std.proofs.lemmas.Option.{same_Some}
use Rattle.std.proofs.lemmas.List.{at_drop_more, at_drop_all}
use Rattle.std.proofs.lemmas.Bool.{both_ways, and_right, le-ltb, cases_Bool, or_parts}
use Rattle.units.specs.Spans.{has}
use Rattle.units.proofs.Spans.{has_decides}
use Rattle.plan.specs.declared.windows.Direction.{Direction}
use Rattle.plan.specs.declared.windows.MappedWindow.{MappedWindow}
use Rattle.plan.specs.declared.stations.PlannedStation.{PlannedStation}
use Rattle.plan.specs.declared.owners.Owner.{Owner}
use Rattle.std.specs.Option.{option_or}
use Rattle.plan.specs.Windows.{bits_of, no_window, any_meet, pair_meets}
use Rattle.plan.specs.Stations.{windows, bare, all_windows}
use Rattle.plan.specs.Meaning.{Owns}
use Rattle.plan.specs.Owners.{direction_at, owner, owner_from, OneOwner}
use Rattle.plan.proofs.Exclusive.{any_none, one, pair_append}
use Rattle.plan.proofs.Options.{is_some-option_or, is_some-option_map, is_some-find}

-- the stations before station j do not have bit k
skipped : (i : ℕ) (ss : List PlannedStation) (k j : ℕ) → j ≤ length ss → ((m : ℕ) → m < j → direction_at (windows (get_or ss m bare)) k ≡ None) → owner_from i ss k ≡ owner_from (i + j) (drop j ss) k
skipped i ss k zero l h = ap (λ n. owner_from n ss k) (omega arith)
skipped i [] k (suc j) l h = absurd (omega arith)
skipped i (s ∷ ss) k (suc j) l h =
    ap (λ d. option_or (option_map (owner i) d) (owner_from (i + 1) ss k)) (h 0 (omega arith)) ∙ skipped (i + 1) ss k j (omega arith) (λ m lt. h (suc m) (omega arith)) ∙ ap (λ n. owner_from n (drop j ss) k) (omega arith)

-- what a search through the stations answers, where N says that it found none, and S that it found that owner
pub first_owner : (ss : List PlannedStation) (k : ℕ) (r : Option Owner) {N : Type 0} {S : Owner → Type 0} → MatchOption r N S → (N → (m : ℕ) → m < length ss → direction_at (windows (get_or ss m bare)) k ≡ None) → ((o : Owner) → S o → (i : ℕ) × (i < length ss) × (Some o ≡ option_map (owner i) (direction_at (windows (get_or ss i bare)) k)) × ((m : ℕ) → m < i → direction_at (windows (get_or ss m bare)) k ≡ None)) → r ≡ owner_from 0 ss k
first_owner ss k None n none some =
    sym (skipped 0 ss k (length ss) (omega arith) (none n) ∙ at_drop_all (λ ts. owner_from (0 + length ss) ts k) ss (length ss) (omega arith))
first_owner ss k (Some o) h none some =
    let f = some o h in
    let rest = owner_from (f.0 + 1) (drop (f.0 + 1) ss) k in
    ap (λ d. option_or d rest) f.2 ∙ sym (skipped 0 ss k f.0 (omega arith) f.3 ∙ ap (λ n. owner_from n (drop f.0 ss) k) (omega arith) ∙ at_drop_more (λ ts. owner_from f.0 ts k) ss f.0 bare f.1)

-- where a bit's owner is found

-- the direction of a window, or what the later ones give
abbrev of_first : Bool → MappedWindow → List MappedWindow → ℕ → Option Direction
of_first b w ws k = option_map (λ v. v.direction) (cond b (Some w) (find (λ v. has (bits_of v.window) k) ws))

direction_found : (ws : List MappedWindow) (k : ℕ) (d : Direction) → direction_at ws k ≡ Some d → (j : ℕ) × Owns ws j k × ((get_or ws j no_window).direction ≡ d)
direction_found [] k d e = cc
direction_found (w ∷ ws) k d e =
    ⊎_elim (λ yes. (0, (has_decides (bits_of w.window) k).0 yes, same_Some _ _ (sym (ap (λ b. of_first b w ws k) yes) ∙ e))) (λ other.
    let r = direction_found ws k d (sym (ap (λ b. of_first b w ws k) other) ∙ e) in
    (suc r.0, r.1, r.2)) (cases_Bool (has (bits_of w.window) k))

direction_none : (ws : List MappedWindow) (k : ℕ) → is_some (direction_at ws k) ≡ false → (j : ℕ) → Owns ws j k → ⊥
direction_none ws k e j o =
    let p : MappedWindow → Bool = λ w. has (bits_of w.window) k in
    let none = any_none p ws no_window (sym (is_some-option_map _ (find p ws) ∙ is_some-find p ws) ∙ e) (and_right _ _ (le-ltb k 0 (omega arith))) j in
    both_ways _ none ((has_decides (bits_of (get_or ws j no_window).window) k).1 o)

here_or_later : (i : ℕ) (d : Option Direction) (rest : Option Owner) (o : Owner) → option_or (option_map (owner i) d) rest ≡ Some o → ((d ≡ Some o.direction) × (o.position.0 ≡ i)) ⊎ (rest ≡ Some o)
here_or_later i (Some d) rest o e =
    let same = same_Some _ _ e in
    inl (ap (λ p. Some p.direction) same, sym (ap (λ p. p.position.0) same))
here_or_later i None rest o e = inr e

owner_found : (i : ℕ) (ss : List PlannedStation) (k : ℕ) (o : Owner) → owner_from i ss k ≡ Some o → (m : ℕ) × (o.position.0 ≡ i + m) × (direction_at (windows (get_or ss m bare)) k ≡ Some o.direction)
owner_found i [] k o e = cc
owner_found i (s ∷ ss) k o e =
    ⊎_elim (λ h. (0, omega (arith, h.1), h.0)) (λ h.
    let r = owner_found (i + 1) ss k o h in
    (suc r.0, omega (arith, r.1), r.2)) (here_or_later i (direction_at (windows s) k) (owner_from (i + 1) ss k) o e)

no_bits : (j k : ℕ) → Owns (windows bare) j k → ⊥
no_bits zero k o = omega arith
no_bits (suc zero) k o = omega arith
no_bits (suc (suc j)) k o = omega arith

-- neither the first station nor a later one has bit k
neither : (i : ℕ) (s : PlannedStation) (ss : List PlannedStation) (k : ℕ) → is_some (owner_from i (s ∷ ss) k) ≡ false → (is_some (direction_at (windows s) k) ≡ false) × (is_some (owner_from (i + 1) ss k) ≡ false)
neither i s ss k e =
    let o = option_map (owner i) (direction_at (windows s) k) in
    let p = or_parts (is_some o) _ (sym (is_some-option_or o (owner_from (i + 1) ss k)) ∙ e) in
    (sym (is_some-option_map (owner i) (direction_at (windows s) k)) ∙ p.0, p.1)

owner_none : (i : ℕ) (ss : List PlannedStation) (k : ℕ) → is_some (owner_from i ss k) ≡ false → (m j : ℕ) → Owns (windows (get_or ss m bare)) j k → ⊥
owner_none i [] k e m j o = no_bits j k o
owner_none i (s ∷ ss) k e zero j o = direction_none (windows s) k (neither i s ss k e).0 j o
owner_none i (s ∷ ss) k e (suc m) j o = owner_none (i + 1) ss k (neither i s ss k e).1 m j o

-- windows of one station among those of all

owns_within : (ws : List MappedWindow) (i k : ℕ) → Owns ws i k → i < length ws
owns_within [] i k o = absurd (omega arith)
owns_within (w ∷ ws) zero k o = omega arith
owns_within (w ∷ ws) (suc i) k o = omega (arith, owns_within ws i k o)

owns_left : (xs ys : List MappedWindow) (i k : ℕ) → Owns xs i k → Owns (xs ++ ys) i k
owns_left [] ys i k o = absurd (omega arith)
owns_left (x ∷ xs) ys zero k o = o
owns_left (x ∷ xs) ys (suc i) k o = owns_left xs ys i k o

owns_right : (xs ys : List MappedWindow) (i k : ℕ) → Owns ys i k → (n : ℕ) × (length xs ≤ n) × Owns (xs ++ ys) n k
owns_right [] ys i k o = (i, omega arith, o)
owns_right (x ∷ xs) ys i k o = let r = owns_right xs ys i k o in (suc r.0, omega (arith, r.1), r.2)

owns_all : (ss : List PlannedStation) (m j k : ℕ) → Owns (windows (get_or ss m bare)) j k → (n : ℕ) × Owns (all_windows ss) n k
owns_all [] m j k o = absurd (no_bits j k o)
owns_all (s ∷ ss) zero j k o = (j, owns_left (windows s) (all_windows ss) j k o)
owns_all (s ∷ ss) (suc m) j k o =
    let r = owns_all ss m j k o in
    let n = owns_right (windows s) (all_windows ss) r.0 k r.1 in
    (n.0, n.2)

-- a window of the first station and one of a later station never have the same bit
first_alone : (s : PlannedStation) (ss : List PlannedStation) → pair_meets (all_windows (s ∷ ss)) ≡ false → (m i j k : ℕ) → Owns (windows s) i k → Owns (windows (get_or ss m bare)) j k → ⊥
first_alone s ss e m i j k p q =
    let r = owns_all ss m j k q in
    let n = owns_right (windows s) (all_windows ss) r.0 k r.1 in
    omega (arith, one (all_windows (s ∷ ss)) e i n.0 k (owns_left (windows s) (all_windows ss) i k p) n.2, owns_within (windows s) i k p, n.1)

same_window : (ss : List PlannedStation) → pair_meets (all_windows ss) ≡ false → (m n i j k : ℕ) → Owns (windows (get_or ss m bare)) i k → Owns (windows (get_or ss n bare)) j k → (m ≡ n) × (i ≡ j)
same_window [] e m n i j k p q = absurd (no_bits i k p)
same_window (s ∷ ss) e zero zero i j k p q =
    (refl, one (all_windows (s ∷ ss)) e i j k (owns_left (windows s) (all_windows ss) i k p) (owns_left (windows s) (all_windows ss) j k q))
same_window (s ∷ ss) e zero (suc n) i j k p q = absurd (first_alone s ss e n i j k p q)
same_window (s ∷ ss) e (suc m) zero i j k p q = absurd (first_alone s ss e m j i k q p)
same_window (s ∷ ss) e (suc m) (suc n) i j k p q =
    let later = (or_parts (any_meet (windows s) (all_windows ss)) _ (or_parts (pair_meets (windows s)) _ (sym (pair_append (windows s) (all_windows ss)) ∙ e)).1).1 in
    let r = same_window ss later m n i j k p q in
    (ap suc r.0, r.1)

pub one_owner : (ss : List PlannedStation) → pair_meets (all_windows ss) ≡ false → (k : ℕ) (r : Option Owner) → r ≡ owner_from 0 ss k → OneOwner ss k r
one_owner ss e k None is = λ p b. owner_none 0 ss k (sym (ap is_some is)) p.position.0 b.0 b.1
one_owner ss e k (Some o) is =
    let f = owner_found 0 ss k o (sym is) in
    let at : f.0 ≡ o.position.0 = omega (arith, f.1) in
    let found = direction_found (windows (get_or ss o.position.0 bare)) k o.direction (ap (λ m. direction_at (windows (get_or ss m bare)) k) (sym at) ∙ f.2) in (
      found,
      λ p b.
          let same = same_window ss e p.position.0 o.position.0 b.0 found.0 k b.1 found.1 in
          let turned : p.direction ≡ o.direction = sym b.2 ∙ (λ t. (get_or (windows (get_or ss (same.0 t) bare)) (same.1 t) no_window).direction) ∙ found.2 in
          λ t. record { position = record { 0 = same.0 t }; direction = turned t },
    )
