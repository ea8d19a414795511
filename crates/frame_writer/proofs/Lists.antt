-- Datagrams of which none is refused. Assumes nothing.
use Rattle.std.proofs.Common.{◌≡◌, ℕ, ◌+◌, ◌-◌, ◌<◌, ◌≤◌, List, [], ◌∷◌, ◌++◌, map, length, get_or, drop, None, Ok, Err, Result, sym, ap, ◌∙◌, subst, append_assoc, append-nil, arith, MatchResult}
use Rattle.std.proofs.lemmas.List.{drop_more}
use Rattle.std.proofs.lemmas.Bool.Decides.{nat_tests}
use Rattle.frame.specs.declared.datagrams.Datagram.{Datagram}
use Rattle.frame.specs.Datagrams.{Fields, Placed, fields_of}
use Rattle.frame.proofs.Fronts.{or_none}
use Rattle.frame_writer.specs.declared.faults.WriteFault.{WriteFault}
use Rattle.frame_writer.specs.Adding.{add_fault, add_answer, in_buffer, list_fault, write_fault, write_answer, finish_answer, frame_length}
use Rattle.frame_writer.specs.Encoding.{size_in, total, fields_in}
use Rattle.frame_writer.specs.declared.writers.Writer.{Writer}
use Rattle.frame_writer.specs.Writers.{AllValid, holds, end_of}
use Rattle.frame_writer.specs.Frames.{frame_of, Written}
use Rattle.frame_writer.proofs.Round.{length_frame}
use Rattle.frame_writer.proofs.Steps.{Addable, addable, total_more, further}

-- Datagrams that fit into one frame.

pub record Fits (ds : List Fields) : Type 0 where
  pub some : 0 < total ds
  pub valid : AllValid ds
  pub few : total ds ≤ 1498

list_fits : (ds : List Fields) (p : ℕ) → p ≤ 1514 → list_fault p ds ≡ None → AllValid ds × (p + total ds ≤ 1514)
list_fits [] p h e = (tt, omega arith)
list_fits (d ∷ ds) p h e =
    let o = or_none (add_fault p d) (list_fault (p + size_in d) ds) e in
    let a = addable p d o.0 in
    let fits = a.fits in
    let r = list_fits ds (p + size_in d) a.fits o.1 in
    let few = r.1 in
    ((a.valid, r.0), omega arith)

pub write_fits : (ds : List Fields) → write_fault ds ≡ None → Fits ds
write_fits [] h = absurd (cc)
write_fits (d ∷ ds) h =
    let r = list_fits (d ∷ ds) 16 (omega arith) h in
    let few = r.1 in
    record { some = omega arith; valid = r.0; few = omega arith }

-- a datagram that a frame may have, and for which there is room, is not refused
pub add_clear : (p : ℕ) (d : Fields) → Addable p d → add_fault p d ≡ None
add_clear p d a = grind (arith, nat_tests)

accepts : (bytes end : ℕ) (d : Fields) → 1514 ≤ bytes → Addable end d → add_answer bytes end d ≡ Ok tt
accepts bytes end d long a = grind (arith, nat_tests)

-- nor is one between others that fit with it
add_fits : (done : List Fields) (d : Fields) (left : List Fields) (p : ℕ) → AllValid (done ++ d ∷ left) → p + total (done ++ d ∷ left) ≤ 1514 → Addable (p + total done) d
add_fits [] d left p v few = record { valid = v.0; fits = omega arith }
add_fits (e ∷ done) d left p v few = grind (arith, add_fits done d left (p + size_in e) v.1 (omega arith))

-- a buffer that serves is long enough
pub served : {x : Unit {0}} {n : ℕ} → Ok x ≡ in_buffer n tt → 1514 ≤ n
served {x} {n} h = grind (arith, nat_tests)

-- A frame under way over what a buffer held at the start, of which some datagrams are left.

pub record Under (all : List Fields) (start : List ℕ) (w : Writer) (left : List Fields) : Type 0 where
  pub done : List Fields
  pub held : holds w done
  pub parts : done ++ left ≡ all
  pub len : length w.buffer.now ≡ length start
  pub behind : drop (end_of w) w.buffer.now ≡ drop (end_of w) start

-- the next datagram is accepted
pub under_adds : {all : List Fields} {start : List ℕ} {w : Writer} {d : Fields} {left : List Fields} → write_fault all ≡ None → 1514 ≤ length start → Under all start w (d ∷ left) → add_answer (length w.buffer.now) (end_of w) d ≡ Ok tt
under_adds {all} {start} {w} {d} {left} none long u =
    let f = write_fits all none in
    let e = u.held.ends in
    let len = u.len in
    let v : AllValid (u.done ++ d ∷ left) = subst AllValid (sym u.parts) f.valid in
    let few : total (u.done ++ d ∷ left) ≤ 1498 = subst (λ x. total x ≤ 1498) (sym u.parts) f.few in
    let a : Addable (end_of w) d = subst (λ n. Addable n d) (sym e) (add_fits u.done d left 16 v (omega arith)) in
    accepts (length w.buffer.now) (end_of w) d (omega arith) a

-- and then it is written too
pub under_more : {all : List Fields} {start : List ℕ} {w w' : Writer} {d : Fields} {left : List Fields} → Under all start w (d ∷ left) → ((ds : List Fields) → holds w ds → holds w' (ds ++ d ∷ [])) → length w'.buffer.now ≡ length w.buffer.now → drop (end_of w') w'.buffer.now ≡ drop (end_of w') w.buffer.now → Under all start w' left
under_more {all} {start} {w} {w'} {d} {left} u more same back =
    let h = more u.done u.held in
    let e = u.held.ends in
    let e' = h.ends in
    let t = total_more u.done d in
    record {
      done = u.done ++ d ∷ [];
      held = h;
      parts = append_assoc u.done (d ∷ []) left ∙ u.parts;
      len = same ∙ u.len;
      behind = back ∙ further w.buffer.now start (end_of w) (size_in d) (end_of w') (omega arith) u.behind;
    }

-- the next of a slice of datagrams
pub under_at : {all : List Fields} {start : List ℕ} {w : Writer} (xs : List Datagram) (i : ℕ) (d : Datagram) → i < length xs → Under all start w (map fields_of (drop i xs)) → Under all start w (fields_of (get_or xs i d) ∷ map fields_of (drop (i + 1) xs))
under_at {all} {start} {w} xs i d h u = subst (λ ys. Under all start w (map fields_of ys)) (drop_more xs i d h) u

-- the next of those that a reader hands out
pub under_next : {all : List Fields} {start : List ℕ} {w : Writer} {d : Fields} {t : Placed} {ts rest : List Placed} → ts ≡ t ∷ rest → d ≡ t.fields → Under all start w (fields_in ts) → Under all start w (d ∷ fields_in rest)
under_next {all} {start} {w} {d} {t} {ts} {rest} is same u = subst (Under all start w) (ap fields_in is ∙ ap (λ x. x ∷ fields_in rest) (sym same)) u

-- What a finished frame answers and leaves, when nothing is left.

finish_answers : (bytes end : ℕ) (ds : List Fields) → write_fault ds ≡ None → end ≡ 16 + total ds → finish_answer bytes end ≡ write_answer bytes ds
finish_answers bytes end ds clear e = let some = (write_fits ds clear).some in grind (arith, nat_tests)

long_answers : (bytes : ℕ) (ds : List Fields) → write_fault ds ≡ None → 1514 ≤ bytes → write_answer bytes ds ≡ Ok (frame_length (16 + total ds))
long_answers bytes ds clear long = grind (arith, nat_tests)

-- a frame finished over a buffer is written over what the buffer held at first
written_first : (start b c : List ℕ) (end n : ℕ) (ds : List Fields) → end ≡ 16 + total ds → drop end b ≡ drop end start → Written b ds n c → Written start ds n c
written_first start b c end n ds e back w =
    let l = length_frame ds in
    record {
      frame = w.frame ∙ ap (λ x. frame_of ds ++ x) (further b start end (length (frame_of ds) - end) (length (frame_of ds)) (omega arith) back);
      len = w.len;
      trip = w.trip;
    }

all_held : {all : List Fields} {start : List ℕ} {w : Writer} {left : List Fields} → Under all start w left → left ≡ [] → holds w all
all_held {all} {start} {w} {left} u none = subst (holds w) (sym (append-nil u.done) ∙ ap (λ x. u.done ++ x) (sym none) ∙ u.parts) u.held

-- the end of a frame all of whose datagrams are written
pub finished : {all : List Fields} {start : List ℕ} {w : Writer} {left : List Fields} {b c : List ℕ} (r : Result ℕ WriteFault) → write_fault all ≡ None → 1514 ≤ length start → Under all start w left → left ≡ [] → r ≡ finish_answer (length w.buffer.now) (end_of w) → MatchResult r (λ n. (ds : List Fields) → holds w ds → Written w.buffer.now ds n c) (λ _. c ≡ w.buffer.now) → b ≡ c → (r ≡ write_answer (length start) all) × MatchResult r (λ n. Written start all n b) (λ _. b ≡ start)
finished {all} {start} {w} {left} {b} {c} (Ok n) clear long u none is done e =
    let h = all_held u none in (
      is ∙ ap (λ k. finish_answer k (end_of w)) u.len ∙ finish_answers (length start) (end_of w) all clear h.ends,
      subst (Written start all n) (sym e) (written_first start w.buffer.now c (end_of w) n all h.ends u.behind (done all h)),
    )
finished {all} {start} {w} {left} {b} {c} (Err f) clear long u none is done e =
    let h = all_held u none in
    let o = is ∙ ap (λ k. finish_answer k (end_of w)) u.len ∙ finish_answers (length start) (end_of w) all clear h.ends ∙ long_answers (length start) all clear long in
    absurd (cc)
