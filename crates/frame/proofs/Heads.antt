-- What a frame's header says of its datagrams. Assumes nothing.
use Rattle.std.proofs.Common.{◌≡◌, ℕ, suc, ◌+◌, ◌/◌, ◌<◌, ◌≤◌, min, List, length, take, drop, Some, None, Ok, Err, Result, sym, ap, ◌∙◌, arith}
use Rattle.std.proofs.lemmas.List.{take_min, drop-take}
use Rattle.std.specs.List.{between}
use Rattle.std.proofs.lemmas.Slice.{between_is}
use Rattle.std.proofs.lemmas.List.Edits.{length-between}
use Rattle.std.proofs.lemmas.Bool.Decides.{nat_tests}
use Rattle.frame.specs.declared.faults.FrameFault.{FrameFault}
use Rattle.frame.specs.Words.{word}
use Rattle.frame.specs.Judging.{ether_type, ether_cat, area_size, area_of, headed, and_then, judged, judge_area, fault_of}
use Rattle.frame.proofs.Walk.{Accepted, accepted}

-- what is known of a frame that is sound but for its datagrams
pub record Headed (bytes : List ℕ) (z : ℕ) : Type 0 where
  pub low : 60 ≤ length bytes
  pub high : length bytes ≤ 1514
  pub ether : ether_type bytes ≡ ether_cat
  pub kind : word bytes 14 / 2048 ≡ 2
  pub some : 0 < z
  pub size : area_size bytes ≡ z

pub headed_sound : (bytes : List ℕ) (z : ℕ) → headed bytes ≡ Ok z → Headed bytes z
headed_sound bytes z h = record {
  low = grind (arith, nat_tests);
  high = grind (arith, nat_tests);
  ether = grind (arith, nat_tests);
  kind = grind (arith, nat_tests);
  some = grind (arith, nat_tests);
  size = grind (arith, nat_tests);
}

-- and a frame of which that is known is sound but for its datagrams
pub headed_clear : (bytes : List ℕ) (z : ℕ) → Headed bytes z → headed bytes ≡ Ok z
headed_clear bytes z h = grind (arith, nat_tests)

-- the datagrams that are there, cut off at the end of the frame if that comes first
area_is : (bytes : List ℕ) (z end : ℕ) → Ok z ≡ headed bytes → end ≡ min (16 + z) (length bytes) → between 16 end bytes ≡ area_of bytes
area_is bytes z end h e =
    between_is bytes 16 end ∙ ap (λ n. drop 16 (take n bytes)) e ∙ ap (drop 16) (take_min (16 + z) bytes) ∙ drop-take 16 z bytes
    ∙ ap (λ n. take n (drop 16 bytes)) (sym (headed_sound bytes z (sym h)).size)

pub judged_area : (bytes : List ℕ) (z end : ℕ) → Ok z ≡ headed bytes → end ≡ min (16 + z) (length bytes) → judge_area (between 16 end bytes) z 16 ≡ judged bytes
judged_area bytes z end h e =
    ap (λ a. judge_area a z 16) (area_is bytes z end h e) ∙ ap (λ r. and_then r (λ n. judge_area (area_of bytes) n 16)) h

-- an area with no fault is there to its end, and what its reader will hand out are the datagrams of the frame
pub area_accepted : (bytes : List ℕ) (z end : ℕ) → end ≡ min (16 + z) (length bytes) → None ≡ fault_of (judge_area (between 16 end bytes) z 16) → Accepted (suc (length (between 16 end bytes))) (between 16 end bytes) z 16
area_accepted bytes z end e clear =
    let within : length (between 16 end bytes) ≤ z = omega (arith, length-between bytes 16 end (omega arith)) in
    accepted (suc (length (between 16 end bytes))) (between 16 end bytes) z 16 within (omega arith) (sym clear)

pub fault_known : {X : Type 0} (e : FrameFault) (r : Result X FrameFault) → Some e ≡ fault_of r → Err e ≡ r
fault_known e (Ok x) h = absurd cc
fault_known e (Err d) h = cc
