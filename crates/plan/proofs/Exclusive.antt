-- The tests over a list of windows, and what they mean for the bits of the image. Assumes nothing.
use Rattle.std.proofs.Common.{◌≡◌, ℕ, zero, suc, ◌*◌, ◌<◌, Bool, true, false, not, ◌||◌, List, [], ◌∷◌, ◌++◌, length, get_or, sym, refl, ap, ◌∙◌, ⊎_elim, arith}
use Rattle.std.proofs.lemmas.Bool.{true≢false, both_ways, not-true, not-false, and_right, or_cases, or_parts, cases_Bool, cases_lt, cases_order, false_from_ne_true}
use Rattle.std.proofs.lemmas.List.{get_or_default, get_or_past}
use Rattle.std.proofs.lemmas.List.Folds.{list_any-append, list_any_at, Any-from_list_any}
use Rattle.units.specs.Spans.{within, meet}
use Rattle.units.proofs.Spans.{within_decides, meet_decides}
use Rattle.plan.specs.declared.windows.MappedWindow.{MappedWindow}
use Rattle.plan.specs.declared.stations.PlannedStation.{PlannedStation}
use Rattle.std.specs.List.{list_any}
use Rattle.plan.specs.Windows.{bits_of, image_bits, no_window, any_leaves, meets_any, any_meet, pair_meets}
use Rattle.plan.specs.Stations.{windows, all_windows, stations_meet}
use Rattle.plan.specs.Meaning.{Owns, Exclusive}

-- where an element passes, and that none does

any_found : {X : Type 0} (p : X → Bool) (xs : List X) (d : X) → list_any p xs ≡ true → (i : ℕ) × (i < length xs) × (p (get_or xs i d) ≡ true)
any_found p xs d e =
    let f = Any-from_list_any p xs e in
    (f.0, f.2, ap p (get_or_default xs f.0 d f.1 f.2 ∙ f.3) ∙ f.4)

pub any_none : {X : Type 0} (p : X → Bool) (xs : List X) (d : X) → list_any p xs ≡ false → p d ≡ false → (i : ℕ) → p (get_or xs i d) ≡ false
any_none p xs d e h i =
    ⊎_elim (λ lt. false_from_ne_true _ (λ t. both_ways _ e (list_any_at p xs i d lt t))) (λ past. ap p (get_or_past xs i d past) ∙ h) (cases_lt i (length xs))

-- lists joined

shuffled : (a b c d e : Bool) → ((a || b) || (c || (d || e))) ≡ ((a || c) || ((b || d) || e))
shuffled a b c d e = grind arith

pub pair_append : (xs ys : List MappedWindow) → pair_meets (xs ++ ys) ≡ (pair_meets xs || (any_meet xs ys || pair_meets ys))
pair_append [] ys = refl
pair_append (x ∷ xs) ys =
    (λ i. list_any-append (λ v. meet (bits_of x.window) (bits_of v.window)) xs ys i || pair_append xs ys i) ∙ shuffled (meets_any x.window xs) (meets_any x.window ys) (pair_meets xs) (any_meet xs ys) (pair_meets ys)

pub windows-push : (ss : List PlannedStation) (s : PlannedStation) → all_windows (ss ++ s ∷ []) ≡ all_windows ss ++ windows s
windows-push [] s = refl
windows-push (t ∷ ts) s = ap (λ ws. windows t ++ ws) (windows-push ts s)

-- the stations one by one, and all their windows at once
pub met_windows : (ss : List PlannedStation) (s : PlannedStation) → list_any (λ t. stations_meet t s) ss ≡ any_meet (all_windows ss) (windows s)
met_windows [] s = refl
met_windows (t ∷ ts) s =
    ap (λ b. stations_meet t s || b) (met_windows ts s) ∙ sym (list_any-append (λ w. meets_any w.window (windows s)) (windows t) (all_windows ts))

-- what the tests mean

inside : (bytes : ℕ) (ws : List MappedWindow) → any_leaves (image_bits bytes) ws ≡ false → (i k : ℕ) → Owns ws i k → k < 8 * bytes
inside bytes ws e i k o =
    let t = any_none (λ w. not (within (bits_of w.window) (image_bits bytes))) ws no_window e refl i in
    let h = (within_decides (bits_of (get_or ws i no_window).window) (image_bits bytes)).0 (not-false _ t) k o in
    omega arith

apart : (ws : List MappedWindow) → pair_meets ws ≡ false → (i j k : ℕ) → i < j → Owns ws i k → Owns ws j k → ⊥
apart [] e i j k lt p q = omega arith
apart (w ∷ ws) e i zero k lt p q = omega arith
apart (w ∷ ws) e zero (suc j) k lt p q =
    let none = (or_parts (meets_any w.window ws) (pair_meets ws) e).0 in
    let t = any_none (λ v. meet (bits_of w.window) (bits_of v.window)) ws no_window none (and_right _ _ refl) j in
    both_ways _ t ((meet_decides (bits_of w.window) (bits_of (get_or ws j no_window).window)).1 (k, p, q))
apart (w ∷ ws) e (suc i) (suc j) k lt p q = apart ws (or_parts (meets_any w.window ws) (pair_meets ws) e).1 i j k (omega arith) p q

-- a bit belongs to one window at most
pub one : (ws : List MappedWindow) → pair_meets ws ≡ false → (i j k : ℕ) → Owns ws i k → Owns ws j k → i ≡ j
one ws e i j k p q = ⊎_elim (λ h. h) (⊎_elim (λ lt. absurd (apart ws e i j k lt p q)) (λ lt. absurd (apart ws e j i k lt q p))) (cases_order i j)

pub exclusive : (bytes : ℕ) (ws : List MappedWindow) → any_leaves (image_bits bytes) ws ≡ false → pair_meets ws ≡ false → Exclusive bytes ws
exclusive bytes ws e f = record { inside = inside bytes ws e; one = one ws f }

-- two windows that share a bit
shared : (ws : List MappedWindow) → pair_meets ws ≡ true → (i : ℕ) × (j : ℕ) × (k : ℕ) × (i < j) × Owns ws i k × Owns ws j k
shared [] e = absurd (true≢false (sym e))
shared (w ∷ ws) e =
    ⊎_elim (λ h.
    let f = any_found (λ v. meet (bits_of w.window) (bits_of v.window)) ws no_window h in
    let m = (meet_decides (bits_of w.window) (bits_of (get_or ws f.0 no_window).window)).0 f.2 in
    (0, suc f.0, m.0, omega arith, m.1, m.2)) (λ h.
    let r = shared ws h in
    (suc r.0, suc r.1, r.2, omega arith, r.4, r.5)) (or_cases (meets_any w.window ws) (pair_meets ws) e)

pub none_leaves : (bytes : ℕ) (ws : List MappedWindow) → Exclusive bytes ws → any_leaves (image_bits bytes) ws ≡ false
none_leaves bytes ws x =
    ⊎_elim (λ e.
    let f = any_found (λ w. not (within (bits_of w.window) (image_bits bytes))) ws no_window e in
    let w = bits_of (get_or ws f.0 no_window).window in
    absurd (both_ways (within w (image_bits bytes)) (not-true _ f.2) ((within_decides w (image_bits bytes)).1 (λ k h. (omega arith, omega (arith, x.inside f.0 k h)))))) (λ e. e) (cases_Bool (any_leaves (image_bits bytes) ws))

pub none_share : (bytes : ℕ) (ws : List MappedWindow) → Exclusive bytes ws → pair_meets ws ≡ false
none_share bytes ws x =
    ⊎_elim (λ e. let s = shared ws e in absurd (omega (arith, x.one s.0 s.1 s.2 s.4 s.5, s.3))) (λ e. e) (cases_Bool (pair_meets ws))
