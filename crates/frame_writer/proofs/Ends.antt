-- The end of a frame. Assumes nothing.
use Rattle.std.proofs.Common.{◌≡◌, ℕ, ◌+◌, ◌-◌, ◌/◌, ◌≤◌, List, [], ◌∷◌, ◌++◌, length, take, drop, set, replicate, Some, sym, refl, ap, ◌∙◌, append_assoc, arith, length-drop}
use Rattle.std.proofs.lemmas.Grind.{common_steps}
use borrow.Rule.Slice.PartMut.{put_mid}
use Rattle.std.proofs.lemmas.List.{set-append_left, set-append_right, take-append-drop, drop-set-add, length-take-le}
use Rattle.frame.specs.Datagrams.{Fields}
use Rattle.frame_writer.specs.declared.writers.Laid.{Laid}
use Rattle.frame_writer.specs.Encoding.{size_in, encoded, followed, area_for, total, laid_at}
use Rattle.frame_writer.specs.Frames.{head_of, frame_of, over}
use Rattle.frame_writer.specs.Writers.{last_from, last_size, end_after, Holds}
use Rattle.frame_writer.proofs.Round.{length_area, length_frame}
use Rattle.frame_writer.proofs.Steps.{length-encoded}

pub last_shift : (d : Fields) (ds : List Fields) (p : ℕ) → last_from p (d ∷ ds) ≡ p + last_from 0 (d ∷ ds)
last_shift d [] p = omega arith
last_shift d (e ∷ ds) p = omega (arith, last_shift e ds (p + size_in d), last_shift e ds (0 + size_in d))

-- without the last flag, datagrams that others follow are the datagrams of a frame
closed : (ds : List Fields) → set (followed ds) (last_from 0 ds + 7) (last_size ds / 256) ≡ area_for ds
closed [] = refl
closed (d ∷ []) = grind (arith, common_steps)
closed (d ∷ e ∷ ds) =
    let l = length-encoded d 128 in
    let s = last_shift e ds (0 + size_in d) in
    set-append_right (encoded d 128) (followed (e ∷ ds)) (size_in d) (last_from (0 + size_in d) (e ∷ ds) + 7) (last_size (e ∷ ds) / 256) l (omega arith)
    ∙ grind (arith, closed (e ∷ ds))

-- the bytes behind a place, up to a further one and beyond
behind : (b : List ℕ) (n end : ℕ) → n ≤ end → end ≤ length b → drop n b ≡ drop n (take end b) ++ drop end b
behind b n end low high = let l = length-take-le end b high in let e = take-append-drop end b in grind (arith, common_steps)

-- the header in front, and the last flag cleared
pub sealed : (b : List ℕ) (last : Laid) (ds : List Fields) → Holds b (Some last) ds → end_after (Some last) ≤ length b → laid_at 0 (head_of (end_after (Some last) - 16)) (set b (last.at + 7) (last.size / 256)) ≡ (head_of (total ds) ++ area_for ds) ++ drop (end_after (Some last)) b
sealed b last [] h long = let e = h.ends in absurd (omega arith)
sealed b last (d ∷ ds) h long =
    let ends = h.ends in
    let end : ℕ = last.at + (last.size + 12) in
    let s = last_shift d ds 16 in
    let at = h.tail.0 in
    let i : last.at + 7 ≡ 16 + (last_from 0 (d ∷ ds) + 7) = omega arith in
    let lt = length-take-le (last.at + (last.size + 12)) b long in
    let ld = length-drop 16 (take (last.at + (last.size + 12)) b) in
    let n = ap length h.area in
    let area : drop 16 (set b (last.at + 7) (last.size / 256)) ≡ area_for (d ∷ ds) ++ drop (last.at + (last.size + 12)) b =
    ap (λ k. drop 16 (set b k (last.size / 256))) i
    ∙ drop-set-add 16 b (last_from 0 (d ∷ ds) + 7) (last.size / 256)
    ∙ ap (λ x. set x (last_from 0 (d ∷ ds) + 7) (last.size / 256)) (behind b 16 (last.at + (last.size + 12)) (omega arith) long ∙ ap (λ x. x ++ drop (last.at + (last.size + 12)) b) h.area)
    ∙ set-append_left (followed (d ∷ ds)) (drop (last.at + (last.size + 12)) b) (last_from 0 (d ∷ ds) + 7) (last.size / 256) (omega arith)
    ∙ ap (λ k. set (followed (d ∷ ds)) (last_from 0 (d ∷ ds) + 7) (k / 256) ++ drop (last.at + (last.size + 12)) b) h.tail.1
    ∙ ap (λ x. x ++ drop (last.at + (last.size + 12)) b) (closed (d ∷ ds)) in
    let z : last.at + (last.size + 12) - 16 ≡ total (d ∷ ds) = omega arith in
    (λ j. head_of (z j) ++ area j) ∙ sym (append_assoc (head_of (total (d ∷ ds))) (area_for (d ∷ ds)) (drop (last.at + (last.size + 12)) b))

-- the parts of a frame over a buffer, where it needs no zeros and where some follow
no_zeros : (b h a : List ℕ) (n end : ℕ) → n ≡ 0 → end ≡ length (h ++ (a ++ replicate n 0)) → (h ++ a) ++ drop end b ≡ over (h ++ (a ++ replicate n 0)) b
no_zeros b h a n end z e = grind (arith, common_steps)

some_zeros : (b h a zs : List ℕ) (n end : ℕ) → end ≡ length h + length a → zs ≡ replicate n 0 → put_mid end n ((h ++ a) ++ drop end b) zs ≡ over (h ++ (a ++ replicate n 0)) b
some_zeros b h a zs n end e w = grind (arith, common_steps)

pub frame_long : (b : List ℕ) (ds : List Fields) (end : ℕ) → end ≡ 16 + total ds → 60 ≤ end → (head_of (total ds) ++ area_for ds) ++ drop end b ≡ over (frame_of ds) b
frame_long b ds end e h = let l = length_frame ds in no_zeros b (head_of (total ds)) (area_for ds) (44 - total ds) end (omega arith) (omega arith)

pub frame_short : (b zs : List ℕ) (ds : List Fields) (end : ℕ) → end ≡ 16 + total ds → end ≤ 60 → zs ≡ replicate (60 - end) 0 → put_mid end (60 - end) ((head_of (total ds) ++ area_for ds) ++ drop end b) zs ≡ over (frame_of ds) b
frame_short b zs ds end e h w =
    let k : 60 - end ≡ 44 - total ds = omega arith in
    let la = length_area ds in
    ap (λ n. put_mid end n ((head_of (total ds) ++ area_for ds) ++ drop end b) zs) k
    ∙ some_zeros b (head_of (total ds)) (area_for ds) zs (44 - total ds) end (omega arith) (w ∙ ap (λ n. replicate n 0) k)
