-- What is written is read. Assumes nothing.
use Rattle.std.proofs.Common.{◌≡◌, ℕ, suc, ◌+◌, ◌-◌, ◌*◌, ◌/◌, ◌%◌, ◌<◌, ◌≤◌, true, ltb, List, [], ◌∷◌, ◌++◌, length, take, drop, replicate, Some, None, Ok, sym, refl, ap, ◌∙◌, subst, append_assoc, append-nil, arith}
use Rattle.std.proofs.lemmas.List.{length-append, take_at, drop_at, length-replicate}
use Rattle.std.proofs.lemmas.Bool.Decides.{nat_tests}
use Rattle.std.proofs.lemmas.Grind.{common_steps}
use Rattle.command.specs.declared.Command.{Command}
use Rattle.command.specs.declared.Command.TheVariants.{Nop, Aprd, Apwr, Aprw, Fprd, Fpwr, Fprw, Brd, Bwr, Lrd, Lwr, Lrw, Unlisted}
use Rattle.command.specs.Codes.{code_of, command_of}
use Rattle.frame.specs.Words.{word}
use Rattle.frame.specs.Datagrams.{Fields, data_bits, reserved_bits, more_bit, data_size, size, fields_at}
use Rattle.frame.specs.Judging.{known, same, front_fault, before, judge, judge_area, area_size, area_of, headed, and_then}
use Rattle.frame.proofs.Fronts.{front_clear}
use Rattle.frame.proofs.Heads.{headed_clear}
use Rattle.frame.proofs.Walk.{judge-same, judge_last, judge_more}
use Rattle.frame_writer.specs.Encoding.{size_in, trailer, encoded, area_for, total, laid_from}
use Rattle.frame_writer.specs.Frames.{frame_of, over, ReadsAs, Written}
use Rattle.frame_writer.specs.declared.writers.Laid.{Laid}
use Rattle.frame_writer.specs.Writers.{end_after, Valid, AllValid, Holds}
use Rattle.frame_writer.specs.Adding.{frame_length}
use Rattle.frame_writer.proofs.Steps.{length-encoded}

-- a listed command is the one that has its code
command_back : (c : Command) → known c ≡ true → command_of (code_of c) ≡ c
command_back Nop h = refl
command_back Aprd h = refl
command_back Apwr h = refl
command_back Aprw h = refl
command_back Fprd h = refl
command_back Fpwr h = refl
command_back Fprw h = refl
command_back Brd h = refl
command_back Bwr h = refl
command_back Lrd h = refl
command_back Lwr h = refl
command_back Lrw h = refl
command_back (Unlisted code) h = absurd (cc)

-- numbers of their bytes
whole_two : (n : ℕ) → n % 256 + 256 * (n / 256) ≡ n
whole_two n = omega arith

whole_four : (a : ℕ) → a % 256 + 256 * (a / 256 % 256) + 65536 * (a / 65536 % 256 + 256 * (a / 16777216)) ≡ a
whole_four a = omega arith

-- the 16 bits of a length n, with the flag in their second byte, where so many bytes are left
pub record Sized (n flag left : ℕ) : Type 0 where
  pub bits : data_bits (n % 256 + 256 * (n / 256 + flag)) ≡ n
  pub clear : reserved_bits (n % 256 + 256 * (n / 256 + flag)) ≡ 0
  pub more : same (more_bit (n % 256 + 256 * (n / 256 + flag))) (ltb (data_bits (n % 256 + 256 * (n / 256 + flag)) + 12) left) ≡ true

sized_last : (n left : ℕ) → n ≤ 1486 → left ≡ n + 12 → Sized n 0 left
sized_last n left h l = record { bits = omega arith; clear = omega arith; more = grind (arith, nat_tests) }

sized_more : (n left : ℕ) → n ≤ 1486 → n + 12 < left → Sized n 128 left
sized_more n left h l = record { bits = omega arith; clear = omega arith; more = grind (arith, nat_tests) }

-- a datagram in front of the rest of an area
pub record Front (d : Fields) (area rest : List ℕ) (p : ℕ) : Type 0 where
  pub sized : size area ≡ size_in d
  pub clear : front_fault area (length area) p ≡ None
  pub behind : drop (size_in d) area ≡ rest
  pub long : length area ≡ size_in d + length rest
  pub reads : fields_at area ≡ d

body : (d : Fields) (flag : ℕ) (rest : List ℕ) → drop 10 (encoded d flag ++ rest) ≡ d.bytes ++ (trailer d ++ rest)
body d flag rest = append_assoc d.bytes (trailer d) rest

reads_back : (d : Fields) (flag : ℕ) (rest : List ℕ) → known d.command ≡ true → data_size (encoded d flag ++ rest) ≡ length d.bytes → fields_at (encoded d flag ++ rest) ≡ d
reads_back d flag rest listed e =
    let pay : take (data_size (encoded d flag ++ rest)) (drop 10 (encoded d flag ++ rest)) ≡ d.bytes =
    (λ i. take (e i) (body d flag rest i)) ∙ take_at d.bytes (trailer d ++ rest) (length d.bytes) refl in
    let k : word (drop 10 (encoded d flag ++ rest)) (data_size (encoded d flag ++ rest)) ≡ d.counter =
    (λ i. word (body d flag rest i) (e i)) ∙ grind (arith, common_steps) in
    let c = command_back d.command listed in
    let a = whole_four d.address in
    let q = whole_two d.irq in
    λ i. record { command = c i; index = d.index; address = a i; irq = q i; bytes = pay i; counter = k i }

-- a valid datagram with the right flag is sound
front : (d : Fields) (flag : ℕ) (rest : List ℕ) (p : ℕ) → Valid d → Sized (length d.bytes) flag (length (encoded d flag ++ rest)) → Front d (encoded d flag ++ rest) rest p
front d flag rest p v s =
    let l = length-append (encoded d flag) rest in
    let k = length-encoded d flag in
    let b = s.bits in
    let some = v.some in
    let few = v.few in
    record {
      sized = ap (λ n. n + 12) s.bits;
      clear = front_clear (encoded d flag ++ rest) (length (encoded d flag ++ rest)) p (record {
        long = omega arith;
        sized = record { some = omega arith; few = omega arith; clear = s.clear; fits = omega arith; flag = s.more };
        listed = ap known (command_back d.command v.listed) ∙ v.listed;
      });
      behind = drop_at (encoded d flag) rest (size_in d) k;
      long = l ∙ ap (λ n. n + length rest) k;
      reads = reads_back d flag rest v.listed s.bits;
    }

front_more : (d : Fields) (rest : List ℕ) (p : ℕ) → Valid d → 0 < length rest → Front d (encoded d 128 ++ rest) rest p
front_more d rest p v some = front d 128 rest p v (sized_more (length d.bytes) _ v.few (simp length-append (omega arith)))

front_last : (d : Fields) (p : ℕ) → Valid d → Front d (encoded d 0) [] p
front_last d p v =
    subst (λ a. Front d a [] p) (append-nil (encoded d 0))
    (front d 0 [] p v (sized_last (length d.bytes) _ v.few (simp length-append (omega arith))))

pub length_area : (ds : List Fields) → length (area_for ds) ≡ total ds
length_area [] = refl
length_area (d ∷ []) = simp length-append (omega arith)
length_area (d ∷ e ∷ ds) = simp length-append (omega (arith, length_area (e ∷ ds)))

-- the datagrams of an area that valid ones were written into
pub area_reads : (d : Fields) (ds : List Fields) (p : ℕ) → AllValid (d ∷ ds) → judge_area (area_for (d ∷ ds)) (length (area_for (d ∷ ds))) p ≡ Ok (laid_from p (d ∷ ds))
area_reads d [] p v =
    let f = front_last d p v.0 in
    let l = f.long in
    let s = f.sized in
    judge_last (length (encoded d 0)) (encoded d 0) (length (encoded d 0)) p f.clear (omega arith)
    ∙ ap (λ x. Ok (record { offset = p + 10; fields = x } ∷ [])) f.reads
area_reads d (e ∷ ds) p v =
    let la = length_area (e ∷ ds) in
    let f = front_more d (area_for (e ∷ ds)) p v.0 (omega arith) in
    let l = f.long in
    let s = f.sized in
    let left : length (encoded d 128 ++ area_for (e ∷ ds)) - size (encoded d 128 ++ area_for (e ∷ ds)) ≡ length (area_for (e ∷ ds)) = omega arith in
    let there : drop (size (encoded d 128 ++ area_for (e ∷ ds))) (encoded d 128 ++ area_for (e ∷ ds)) ≡ area_for (e ∷ ds) = ap (λ n. drop n (encoded d 128 ++ area_for (e ∷ ds))) s ∙ f.behind in
    judge_more (length (encoded d 128 ++ area_for (e ∷ ds))) (encoded d 128 ++ area_for (e ∷ ds)) (length (encoded d 128 ++ area_for (e ∷ ds))) p f.clear (λ same. omega arith)
    ∙ (λ i. before (record { offset = p + 10; fields = f.reads i }) (judge (length (encoded d 128 ++ area_for (e ∷ ds))) (there i) (left i) (p + s i)))
    ∙ ap (before (record { offset = p + 10; fields = d })) (
    judge-same (length (encoded d 128 ++ area_for (e ∷ ds))) (suc (length (area_for (e ∷ ds)))) (area_for (e ∷ ds)) (length (area_for (e ∷ ds))) (p + size_in d) (omega arith) (omega arith)
    ∙ area_reads e ds (p + size_in d) v.1)

pub length_frame : (ds : List Fields) → length (frame_of ds) ≡ 16 + (total ds + (44 - total ds))
length_frame ds = simp (length-append, length-replicate) (omega (arith, length_area ds))

pub frame_size : (ds : List Fields) → total ds ≤ 1498 → area_size (frame_of ds) ≡ total ds
frame_size ds few = omega arith

pub frame_area : (ds : List Fields) → total ds ≤ 1498 → area_of (frame_of ds) ≡ area_for ds
frame_area ds few =
    ap (λ n. take n (area_for ds ++ replicate (44 - total ds) 0)) (frame_size ds few)
    ∙ take_at (area_for ds) (replicate (44 - total ds) 0) (total ds) (length_area ds)

pub frame_reads : (d : Fields) (ds : List Fields) → AllValid (d ∷ ds) → total (d ∷ ds) ≤ 1498 → ReadsAs (frame_of (d ∷ ds)) (d ∷ ds)
frame_reads d ds v few =
    let len = length_frame (d ∷ ds) in
    let size = frame_size (d ∷ ds) few in
    let la = length_area (d ∷ ds) in
    let is = frame_area (d ∷ ds) few in
    let sound : headed (frame_of (d ∷ ds)) ≡ Ok (total (d ∷ ds)) = headed_clear (frame_of (d ∷ ds)) (total (d ∷ ds)) (record {
      low = omega arith;
      high = omega arith;
      ether = refl;
      kind = omega arith;
      some = omega arith;
      size = size;
    }) in
    record {
      long = omega arith;
      short = omega arith;
      reads =
          ap (λ r. and_then r (λ n. judge_area (area_of (frame_of (d ∷ ds))) n 16)) sound
          ∙ (λ i. judge_area (is i) (sym la i) 16)
          ∙ area_reads d ds 16 v;
    }

-- a frame that was finished over a buffer
pub written : (b c : List ℕ) (last : Laid) (n : ℕ) (ds : List Fields) → Holds b (Some last) ds → n ≡ frame_length (end_after (Some last)) → c ≡ over (frame_of ds) b → Written b ds n c
written b c last n [] h len is = let e = h.ends in absurd (omega arith)
written b c last n (d ∷ ds) h len is =
    let e = h.ends in
    let l = length_frame (d ∷ ds) in
    record {
      frame = is;
      len = omega arith;
      trip = frame_reads d ds h.valid (omega arith);
    }
