-- A walk over the datagrams of an area. Assumes nothing.
use Rattle.std.proofs.Common.{◌≡◌, ℕ, zero, suc, ◌+◌, ◌-◌, ◌^◌, ◌<◌, ◌≤◌, cond, eqb, List, [], ◌∷◌, length, drop, Some, None, Ok, Err, Option, Result, sym, refl, ap, ◌∙◌, inl, inr, arith, length-drop}
use Rattle.std.proofs.lemmas.Bool.{eq-eqb, ne_eqb, cases_eq}
use Rattle.std.proofs.lemmas.List.{drop_all}
use Rattle.frame.specs.declared.faults.FrameFault.{FrameFault}
use Rattle.frame.specs.declared.areas.Area.{Area}
use Rattle.frame.specs.declared.datagrams.Token.{Token}
use Rattle.frame.specs.declared.reading.Tokens.{Tokens}
use Rattle.frame.specs.Areas.{SplitsInto}
use Rattle.frame.specs.Datagrams.{Placed, size, placed_of, placed_at}
use Rattle.frame.specs.Judging.{front_fault, unless, before, judge, judge_area, fault_of}
use Rattle.frame.specs.Reading.{if_none, handed, handed_in, left}
use Rattle.frame.proofs.Fronts.{fine}

unless-same : {X : Type 0} (o : Option FrameFault) (r s : Result X FrameFault) → (o ≡ None → r ≡ s) → unless o r ≡ unless o s
unless-same (Some e) r s h = refl
unless-same None r s h = h refl

none_same : (o : Option FrameFault) (xs ys : List Placed) → (o ≡ None → xs ≡ ys) → if_none o xs ≡ if_none o ys
none_same (Some e) xs ys h = refl
none_same None xs ys h = h refl

-- any two bounds on how many datagrams there are that suffice give the same
pub judge-same : (f g : ℕ) (area : List ℕ) (z p : ℕ) → length area < f → length area < g → judge f area z p ≡ judge g area z p
judge-same zero g area z p a b = absurd (omega arith)
judge-same (suc f) zero area z p a b = absurd (omega arith)
judge-same (suc f) (suc g) area z p a b =
    unless-same (front_fault area z p) _ _ (λ e.
    let ok = (fine area z p e).sized.fits in
    let l = length-drop (size area) area in
    ap (λ r. cond (eqb (size area) z) (Ok (placed_at area p ∷ [])) (before (placed_at area p) r))
    (judge-same f g (drop (size area) area) (z - size area) (p + size area) (omega arith) (omega arith)))

pub handed-same : (f g : ℕ) (area : List ℕ) (p : ℕ) → length area < f → length area < g → handed f area p ≡ handed g area p
handed-same zero g area p a b = absurd (omega arith)
handed-same (suc f) zero area p a b = absurd (omega arith)
handed-same (suc f) (suc g) area p a b =
    none_same (front_fault area (length area) p) _ _ (λ e.
    let ok = (fine area (length area) p e).sized.fits in
    let l = length-drop (size area) area in
    ap (λ ds. placed_at area p ∷ ds) (handed-same f g (drop (size area) area) (p + size area) (omega arith) (omega arith)))

pub before_fault : (d : Placed) (r : Result (List Placed) FrameFault) → fault_of (before d r) ≡ fault_of r
before_fault d (Ok ds) = refl
before_fault d (Err e) = refl

-- what an area with a sound datagram in front comes to
pub judge_more : (f : ℕ) (area : List ℕ) (z p : ℕ) → front_fault area z p ≡ None → (size area ≡ z → ⊥) → judge (suc f) area z p ≡ before (placed_at area p) (judge f (drop (size area) area) (z - size area) (p + size area))
judge_more f area z p h n = rw (h, ne_eqb (size area) z n)

pub judge_last : (f : ℕ) (area : List ℕ) (z p : ℕ) → front_fault area z p ≡ None → size area ≡ z → judge (suc f) area z p ≡ Ok (placed_at area p ∷ [])
judge_last f area z p h e = rw (h, eq-eqb (size area) z e)

-- the fault of an area with a sound datagram in front is that of the area behind it, if there is one
pub fault_last : (a b : Area) (t : Token) → None ≡ front_fault a.bytes.now a.left a.at → SplitsInto a t b → b.left ≡ 0 → None ≡ fault_of (judge_area a.bytes.now a.left a.at)
fault_last a b t h s e = ap fault_of (sym (judge_last (length a.bytes.now) a.bytes.now a.left a.at (sym h) (omega (arith, s.left))))

pub fault_more : (a b : Area) (t : Token) → None ≡ front_fault a.bytes.now a.left a.at → SplitsInto a t b → (b.left ≡ 0 → ⊥) → fault_of (judge_area b.bytes.now b.left b.at) ≡ fault_of (judge_area a.bytes.now a.left a.at)
fault_more a b t h s n =
    let l : b.left ≡ a.left - size a.bytes.now = omega (arith, s.left) in
    let m = judge_more (length a.bytes.now) a.bytes.now a.left a.at (sym h) (λ e. n (omega (arith, s.left))) in
    let same = judge-same (suc (length b.bytes.now)) (length a.bytes.now) b.bytes.now b.left b.at (omega arith) s.shorter in
    let f = before_fault (placed_at a.bytes.now a.at) (judge (length a.bytes.now) b.bytes.now b.left b.at) in
    cc

-- What a reader hands out.

pub handed_none : (f : ℕ) (p : ℕ) → handed f [] p ≡ []
handed_none zero p = refl
handed_none (suc f) p = refl

handed_front : (f : ℕ) (area : List ℕ) (p : ℕ) → front_fault area (length area) p ≡ None → handed (suc f) area p ≡ placed_at area p ∷ handed f (drop (size area) area) (p + size area)
handed_front f area p h = rw h

pub handed_more : (a b : Area) (t : Token) → length a.bytes.now ≡ a.left → None ≡ front_fault a.bytes.now a.left a.at → SplitsInto a t b → handed_in a.bytes.now a.at ≡ placed_of t ∷ handed_in b.bytes.now b.at
handed_more a b t whole h s =
    let front = s.front in
    let bytes = s.bytes in
    let at = s.at in
    handed_front (length a.bytes.now) a.bytes.now a.at ((λ i. front_fault a.bytes.now (whole i) a.at) ∙ sym h)
    ∙ (λ i. sym front i ∷ handed (length a.bytes.now) (sym bytes i) (sym at i))
    ∙ ap (λ ds. placed_of t ∷ ds) (handed-same (length a.bytes.now) (suc (length b.bytes.now)) b.bytes.now b.at s.shorter (omega arith))

none_few : (o : Option FrameFault) (ds : List Placed) (n : ℕ) → (o ≡ None → length ds ≤ n) → length (if_none o ds) ≤ n
none_few (Some e) ds n h = omega arith
none_few None ds n h = h refl

-- no more datagrams than bytes
handed_few : (f : ℕ) (area : List ℕ) (p : ℕ) → length (handed f area p) ≤ length area
handed_few zero area p = omega arith
handed_few (suc f) area p =
    none_few (front_fault area (length area) p) _ (length area) (λ e.
    let ok = (fine area (length area) p e).sized.fits in
    let l = length-drop (size area) area in
    let k = handed_few f (drop (size area) area) (p + size area) in
    omega arith)

-- so a count of them fits
pub left_fits : (ts : Tokens) → length (left ts) < 2 ^ 64
left_fits ts =
    let k = handed_few (suc (length ts.rest.bytes.now)) ts.rest.bytes.now ts.rest.at in
    let w = ts.rest.within in
    let f = ts.rest.fits in
    omega arith

-- an area with no fault ends where its header says, and its datagrams are handed out
pub record Accepted (f : ℕ) (area : List ℕ) (z p : ℕ) : Type 0 where
  pub whole : length area ≡ z
  pub given : judge f area z p ≡ Ok (handed f area p)

pub clear_front : (o : Option FrameFault) (r : Result (List Placed) FrameFault) → fault_of (unless o r) ≡ None → o ≡ None
clear_front (Some e) r h = absurd cc
clear_front None r h = refl

pub accepted : (f : ℕ) (area : List ℕ) (z p : ℕ) → length area ≤ z → length area < f → fault_of (judge f area z p) ≡ None → Accepted f area z p
accepted zero area z p within few h = absurd (omega arith)
accepted (suc f) area z p within few h =
    let clear = clear_front (front_fault area z p) _ h in
    let fits = (fine area z p clear).sized.fits in
    let l = length-drop (size area) area in
    elim (cases_eq (size area) z) [
      | inl e ↦
          let whole : length area ≡ z = omega arith in
          let k = handed_front f area p ((λ i. front_fault area (whole i) p) ∙ clear) in
          let none = handed_none f (p + size area) in
          let d = drop_all (size area) area (omega arith) in
          record {
            whole = whole;
            given = judge_last f area z p clear e ∙ ap Ok (cc);
          }
      | inr n ↦
          let m = judge_more f area z p clear n in
          let rest = sym (before_fault (placed_at area p) (judge f (drop (size area) area) (z - size area) (p + size area))) ∙ ap fault_of (sym m) ∙ h in
          let a = accepted f (drop (size area) area) (z - size area) (p + size area) (omega arith) (omega arith) rest in
          let whole : length area ≡ z = omega (arith, a.whole) in
          record {
            whole = whole;
            given = m ∙ ap (before (placed_at area p)) a.given ∙ ap Ok (sym (handed_front f area p ((λ i. front_fault area (whole i) p) ∙ clear)));
          }
    ]
