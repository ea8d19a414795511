-- What a frame that is written again comes to. Assumes nothing.
use Rattle.std.proofs.Common.{◌≡◌, ℕ, ◌-◌, List, ◌++◌, length, take, drop, Ok, Err, codes, Result, sym, ap, ◌∙◌, arith}
use native.Mathlib.Nat.{sub-zero}
use Rattle.std.proofs.lemmas.List.{take_at}
use Rattle.frame.specs.declared.faults.FrameFault.{FrameFault}
use Rattle.frame.specs.Datagrams.{Placed}
use Rattle.frame_text.specs.Digits.{hex_bytes}
use Rattle.frame_writer.specs.declared.faults.WriteFault.{WriteFault}
use Rattle.frame_writer.specs.declared.faults.WriteFault.TheVariants.{Refused}
use Rattle.frame_writer.specs.Adding.{rewrite_answer}
use Rattle.frame_writer.specs.Encoding.{fields_in}
use Rattle.frame_writer.specs.Frames.{frame_of, Rewritten}
use Rattle.frame_report.specs.Rewriting.{write_refusal_of, judged_again, rewritten}

pub again : (before frame after : List ℕ) (n : ℕ) → Rewritten before frame n after → hex_bytes (take (n - 0) after) ++ codes "\n" ≡ rewritten frame
again before frame after n w =
    let f = frame_of (fields_in w.datagrams) in
    let first : take (n - 0) after ≡ frame_of (fields_in w.datagrams) =
    ap (λ k. take k after) (sub-zero n) ∙ ap (take n) w.written.frame
    ∙ take_at (frame_of (fields_in w.datagrams)) (drop (length (frame_of (fields_in w.datagrams))) before) n (sym w.written.len) in
    ap (λ x. hex_bytes x ++ codes "\n") first ∙ ap judged_again (sym w.accepted)

-- over a buffer that is long enough only the frame is refused
pub refused : (r : Result (List Placed) FrameFault) (e : WriteFault) → Err e ≡ rewrite_answer 1514 r → write_refusal_of e ++ codes "\n" ≡ judged_again r
refused (Err d) e h = let same : e ≡ Refused d = cc in ap (λ x. write_refusal_of x ++ codes "\n") same
refused (Ok ds) e h = let z : ◌≡◌ {A = ℕ} 0 1 = cc in absurd (omega arith)
