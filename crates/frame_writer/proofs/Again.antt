-- What is read is written again. Assumes nothing.
use Rattle.std.proofs.Common.{◌≡◌, ℕ, zero, suc, ◌+◌, ◌-◌, ◌*◌, ◌/◌, ◌%◌, ◌<◌, ◌≤◌, List, [], ◌∷◌, ◌++◌, length, get_or, take, drop, None, Ok, Err, Result, sym, refl, ap, ◌∙◌, subst, inl, inr, append-nil, arith, length-drop, length-take, MatchResult}
use Rattle.std.proofs.lemmas.List.{drop-drop, drop_all, length-take-le, get_or-drop}
use Rattle.std.proofs.lemmas.Bool.Decides.{nat_tests}
use Rattle.std.proofs.lemmas.Grind.{common_steps}
use Rattle.std.proofs.lemmas.Bool.{cases_eq}
use Rattle.command.specs.declared.Command.{Command}
use Rattle.command.specs.Codes.{code_of, with_code, command_of, listed}
use Rattle.frame.specs.Words.{word, double}
use Rattle.frame.specs.Datagrams.{Fields, Placed, data_bits, reserved_bits, data_size, size, fields_at, placed_at}
use Rattle.frame.specs.declared.faults.FrameFault.{FrameFault}
use Rattle.frame.specs.Judging.{or_else, front_fault, judge, judge_area, fault_of, area_of, area_size, headed, and_then, judged}
use Rattle.frame.specs.Reading.{if_none, handed}
use Rattle.frame.proofs.Fronts.{Fine, fine}
use Rattle.frame.proofs.Heads.{headed_sound}
use Rattle.frame.proofs.Walk.{clear_front, handed_none, before_fault, judge_more, accepted}
use Rattle.std.proofs.lemmas.Result.{MatchResult-weaker}
use Rattle.frame_writer.specs.declared.faults.WriteFault.{WriteFault}
use Rattle.frame_writer.specs.Adding.{list_fault, write_fault, write_answer, rewrite_answer, unless, in_buffer, frame_length}
use Rattle.frame_writer.specs.Frames.{Written, Rewritten}
use Rattle.frame_writer.specs.Encoding.{size_in, trailer, encoded, area_for, total, fields_in}
use Rattle.frame_writer.specs.Writers.{Valid, AllValid}
use Rattle.frame_writer.proofs.Lists.{add_clear, write_fits}
use Rattle.frame_writer.proofs.Round.{length_area, frame_size, frame_area}

abbrev pub Bytes : List ℕ → Type 0
Bytes xs = (k : ℕ) → get_or xs k 0 < 256

pub bytes_drop : (n : ℕ) (xs : List ℕ) → Bytes xs → Bytes (drop n xs)
bytes_drop n xs h k = rw get_or-drop (h (n + k))

pub bytes_take : (n : ℕ) (xs : List ℕ) → Bytes xs → Bytes (take n xs)
bytes_take n xs h k = grind (arith, common_steps, h)

-- a command has the code that it was made from
code_of-with_code : (code : ℕ) (cs : List Command) → code_of (with_code code cs) ≡ code
code_of-with_code code [] = refl
code_of-with_code code (c ∷ cs) = grind (arith, nat_tests, code_of-with_code code cs)

code_back : (code : ℕ) → code_of (command_of code) ≡ code
code_back code = code_of-with_code code listed

ten : (xs : List ℕ) → 10 ≤ length xs → xs ≡ get_or xs 0 0 ∷ get_or xs 1 0 ∷ get_or xs 2 0 ∷ get_or xs 3 0 ∷ get_or xs 4 0 ∷ get_or xs 5 0 ∷ get_or xs 6 0 ∷ get_or xs 7 0 ∷ get_or xs 8 0 ∷ get_or xs 9 0 ∷ drop 10 xs
ten xs h = grind (arith, common_steps)

-- data and counter, and what follows
tail : (xs : List ℕ) (n : ℕ) → n + 2 ≤ length xs → Bytes xs → (take n xs ++ ((word xs n % 256) ∷ (word xs n / 256) ∷ [])) ++ drop (n + 2) xs ≡ xs
tail xs n h small = let low = small n in let high = small (n + 1) in grind (arith, common_steps)

-- the length's two bytes, by whether another datagram follows
length_bytes : (a b flag : ℕ) → a < 256 → b < 256 → reserved_bits (a + 256 * b) ≡ 0 → (32768 ≤ a + 256 * b → flag ≡ 128) → (a + 256 * b < 32768 → flag ≡ 0) → (data_bits (a + 256 * b) % 256 ≡ a) × (data_bits (a + 256 * b) / 256 + flag ≡ b)
length_bytes a b flag la lb clear high low = (omega arith, grind arith)

-- a sound datagram's bytes are those of what it says
pub encoded_again : (area : List ℕ) (flag : ℕ) → Bytes area → size area ≤ length area → reserved_bits (word area 6) ≡ 0 → (32768 ≤ word area 6 → flag ≡ 128) → (word area 6 < 32768 → flag ≡ 0) → encoded (fields_at area) flag ++ drop (size area) area ≡ area
encoded_again area flag small fits clear high low =
    let ld = length-drop 10 area in
    let ln : length (take (data_size area) (drop 10 area)) ≡ data_size area = length-take-le (data_size area) (drop 10 area) (omega arith) in
    let lb = length_bytes (get_or area 6 0) (get_or area 7 0) flag (small 6) (small 7) clear high low in
    let h0 = code_back (get_or area 0 0) in
    let h2 : double area 2 % 256 ≡ get_or area 2 0 = omega arith in
    let h3 : double area 2 / 256 % 256 ≡ get_or area 3 0 = omega arith in
    let h4 : double area 2 / 65536 % 256 ≡ get_or area 4 0 = omega arith in
    let h5 : double area 2 / 16777216 ≡ get_or area 5 0 = omega arith in
    let h8 : word area 8 % 256 ≡ get_or area 8 0 = omega arith in
    let h9 : word area 8 / 256 ≡ get_or area 9 0 = omega arith in
    let k : 10 + (data_size area + 2) ≡ size area = omega arith in
    let behind : drop (size area) area ≡ drop (data_size area + 2) (drop 10 area) = ap (λ j. drop j area) (sym k) ∙ sym (drop-drop (data_size area + 2) 10 area) in
    let rest : (take (data_size area) (drop 10 area) ++ trailer (fields_at area)) ++ drop (size area) area ≡ drop 10 area =
    ap (λ x. (take (data_size area) (drop 10 area) ++ trailer (fields_at area)) ++ x) behind
    ∙ tail (drop 10 area) (data_size area) (omega arith) (bytes_drop 10 area small) in
    (λ i. h0 i ∷ get_or area 1 0 ∷ h2 i ∷ h3 i ∷ h4 i ∷ h5 i ∷ (ln i % 256) ∷ (ln i / 256 + flag) ∷ h8 i ∷ h9 i ∷ rest i)
    ∙ (λ i. get_or area 0 0 ∷ get_or area 1 0 ∷ get_or area 2 0 ∷ get_or area 3 0 ∷ get_or area 4 0 ∷ get_or area 5 0 ∷ lb.0 i ∷ lb.1 i ∷ get_or area 8 0 ∷ get_or area 9 0 ∷ drop 10 area)
    ∙ sym (ten area (omega arith))

-- The datagrams of a sound area, written again, are that area.

area_cons : (d : Fields) (ps : List Placed) → 0 < length ps → area_for (d ∷ fields_in ps) ≡ encoded d 128 ++ area_for (fields_in ps)
area_cons d [] h = absurd (omega arith)
area_cons d (p ∷ ps) h = refl

pub record Again (area : List ℕ) (ds : List Placed) : Type 0 where
  pub some : 0 < length ds
  pub valid : AllValid (fields_in ds)
  pub bytes : area_for (fields_in ds) ≡ area

valid_at : (area : List ℕ) (z : ℕ) → Fine area z → Valid (fields_at area)
valid_at area z f = record { some = grind (arith, common_steps); few = grind (arith, common_steps); listed = f.listed }

last_again : (area : List ℕ) (p : ℕ) → Bytes area → Fine area (length area) → size area ≡ length area → Again area (placed_at area p ∷ [])
last_again area p small f e =
    let low : word area 6 < 32768 = grind (arith, nat_tests, f.sized.flag) in
    record {
      some = omega arith;
      valid = (valid_at area (length area) f, tt);
      bytes =
          sym (append-nil (encoded (fields_at area) 0))
          ∙ ap (λ x. encoded (fields_at area) 0 ++ x) (sym (drop_all (size area) area (omega arith)))
          ∙ encoded_again area 0 small (omega arith) f.sized.clear (λ h. absurd (omega arith)) (λ h. refl);
    }

more_again : (area : List ℕ) (p : ℕ) (ds : List Placed) → Bytes area → Fine area (length area) → size area < length area → Again (drop (size area) area) ds → Again area (placed_at area p ∷ ds)
more_again area p ds small f lt a =
    let high : 32768 ≤ word area 6 = grind (arith, nat_tests, f.sized.flag) in
    record {
      some = omega arith;
      valid = (valid_at area (length area) f, a.valid);
      bytes =
          area_cons (fields_at area) ds a.some
          ∙ ap (λ x. encoded (fields_at area) 128 ++ x) a.bytes
          ∙ encoded_again area 128 small (omega arith) f.sized.clear (λ h. refl) (λ h. absurd (omega arith));
    }

again : (f : ℕ) (area : List ℕ) (p : ℕ) → Bytes area → length area < f → fault_of (judge f area (length area) p) ≡ None → Again area (handed f area p)
again zero area p small few h = absurd (omega arith)
again (suc f) area p small few h =
    let clear = clear_front (front_fault area (length area) p) _ h in
    let ok = fine area (length area) p clear in
    let fits = ok.sized.fits in
    let l = length-drop (size area) area in
    let hd : handed (suc f) area p ≡ placed_at area p ∷ handed f (drop (size area) area) (p + size area) =
    ap (λ o. if_none o (placed_at area p ∷ handed f (drop (size area) area) (p + size area))) clear in
    elim (cases_eq (size area) (length area)) [
      | inl e ↦
          subst (Again area) (sym (hd ∙ ap (λ a. placed_at area p ∷ handed f a (p + size area)) (drop_all (size area) area (omega arith)) ∙ ap (λ ds. placed_at area p ∷ ds) (handed_none f (p + size area))))
          (last_again area p small ok e)
      | inr n ↦
          let rest = ap (λ z. fault_of (judge f (drop (size area) area) z (p + size area))) l
          ∙ sym (before_fault (placed_at area p) (judge f (drop (size area) area) (length area - size area) (p + size area)))
          ∙ ap fault_of (sym (judge_more f area (length area) p clear n)) ∙ h in
          subst (Again area) (sym hd)
          (more_again area p (handed f (drop (size area) area) (p + size area)) small ok (omega arith)
          (again f (drop (size area) area) (p + size area) (bytes_drop (size area) area small) (omega arith) rest))
    ]

-- A frame's.

list_clear : (ds : List Fields) (p : ℕ) → AllValid ds → p + total ds ≤ 1514 → list_fault p ds ≡ None
list_clear [] p v few = refl
list_clear (d ∷ ds) p v few =
    ap (λ o. or_else o (list_fault (p + size_in d) ds)) (add_clear p d (record { valid = v.0; fits = omega arith }))
    ∙ list_clear ds (p + size_in d) v.1 (omega arith)

write_clear : (ps : List Placed) → 0 < length ps → AllValid (fields_in ps) → total (fields_in ps) ≤ 1498 → write_fault (fields_in ps) ≡ None
write_clear [] some v few = absurd (omega arith)
write_clear (p ∷ ps) some v few = list_clear (fields_in (p ∷ ps)) 16 v (omega arith)

-- the datagrams of an accepted frame are not refused, and they are the frame's area again
pub record Rewritable (bytes : List ℕ) (ds : List Placed) : Type 0 where
  pub clear : write_fault (fields_in ds) ≡ None
  pub area : area_for (fields_in ds) ≡ area_of bytes
  pub size : total (fields_in ds) ≡ area_size bytes

then_ok : (r : Result ℕ FrameFault) (next : ℕ → Result (List Placed) FrameFault) (ds : List Placed) → and_then r next ≡ Ok ds → (z : ℕ) × (r ≡ Ok z) × (next z ≡ Ok ds)
then_ok (Ok z) next ds h = (z, refl, h)
then_ok (Err e) next ds h = absurd (cc)

pub rewritable : (bytes : List ℕ) (ds : List Placed) → Bytes bytes → judged bytes ≡ Ok ds → Rewritable bytes ds
rewritable bytes ds small h =
    let t = then_ok (headed bytes) (λ z. judge_area (area_of bytes) z 16) ds h in
    let z : ℕ = t.0 in
    let hd = headed_sound bytes t.0 t.1 in
    let area = area_of bytes in
    let long = hd.low in
    let high = hd.high in
    let size = hd.size in
    let within : length (area_of bytes) ≤ t.0 = simp (length-take, length-drop) (omega arith) in
    let short : length (area_of bytes) ≤ 1498 = simp (length-take, length-drop) (omega arith) in
    let a = accepted (suc (length (area_of bytes))) (area_of bytes) t.0 16 within (omega arith) (ap fault_of t.2) in
    let whole : length (area_of bytes) ≡ t.0 = a.whole in
    let given : ◌≡◌ {A = Result (List Placed) FrameFault} (Ok ds) (Ok (handed (suc (length (area_of bytes))) (area_of bytes) 16)) = sym t.2 ∙ a.given in
    let is : ds ≡ handed (suc (length (area_of bytes))) (area_of bytes) 16 = cc in
    let g = again (suc (length (area_of bytes))) (area_of bytes) 16 (bytes_take (area_size bytes) (drop 16 bytes) (bytes_drop 16 bytes small)) (omega arith)
    (ap (λ n. fault_of (judge_area (area_of bytes) n 16)) whole ∙ ap fault_of t.2) in
    let r : Again (area_of bytes) ds = subst (Again (area_of bytes)) (sym is) g in
    let l = sym (length_area (fields_in ds)) ∙ ap length r.bytes in
    record {
      clear = write_clear ds r.some r.valid (omega arith);
      area = r.bytes;
      size = l ∙ whole ∙ sym size;
    }

-- what was written of an accepted frame's datagrams is the second round trip
pub rewritten : (frame before c : List ℕ) (ds : List Placed) (r : Result ℕ WriteFault) → Bytes frame → Ok ds ≡ judged frame → (r ≡ write_answer (length before) (fields_in ds)) × MatchResult r (λ n. Written before (fields_in ds) n c) (λ _. c ≡ before) → (r ≡ rewrite_answer (length before) (judged frame)) × MatchResult r (λ n. Rewritten before frame n c) (λ _. c ≡ before)
rewritten frame before c ds r small h w =
    let k = rewritable frame ds small (sym h) in
    let few : total (fields_in ds) ≤ 1498 = (write_fits (fields_in ds) k.clear).few in (
      w.0 ∙ ap (λ o. unless o (in_buffer (length before) (frame_length (16 + total (fields_in ds))))) k.clear ∙ ap (rewrite_answer (length before)) h,
      MatchResult-weaker r w.1 (λ n y. record {
        datagrams = ds;
        accepted = sym h;
        written = y;
        size = frame_size (fields_in ds) few ∙ k.size;
        area = frame_area (fields_in ds) few ∙ k.area;
      }) (λ e y. y),
    )
