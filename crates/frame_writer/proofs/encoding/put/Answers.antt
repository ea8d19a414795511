use Rattle.std.proofs.Common.{◌≡◌, ◌+◌, ◌≤◌, ℕ, List, ◌++◌, length, refl, ap, ◌∙◌, append_assoc, arith, rules}
use Rattle.std.proofs.lemmas.List.{length-append}
use Rattle.frame.specs.Datagrams.{fields_of}
use Rattle.frame_writer.specs.Encoding.{header, trailer, laid_at}
use Rattle.frame_writer.proofs.Steps.{laid_more}
use Rattle.frame_writer.proofs.encoding.put.Goals as goal

laid_three : (b b1 b2 b3 h d t : List ℕ) (a : ℕ) → b1 ≡ laid_at a h b → b2 ≡ laid_at (a + length h) d b1 → b3 ≡ laid_at (a + length h + length d) t b2 → a + length h + length d ≤ length b → b3 ≡ laid_at a (h ++ (d ++ t)) b
laid_three b b1 b2 b3 h d t a p q r long =
    let l = length-append h d in
    r
    ∙ ap (laid_at (a + length h + length d) t) (q ∙ ap (laid_at (a + length h) d) p ∙ laid_more b h d a (a + length h) refl (omega arith))
    ∙ laid_more b (h ++ d) t a (a + length h + length d) (omega arith) long
    ∙ ap (λ x. laid_at a x b) (append_assoc h d t)

pub returns : goal.returns
returns c =
    let d = c.args.datagram.now in
    let t : c.to_le_bytes-trailer.result ≡ trailer (fields_of c.args.datagram.now) = search rules in
    laid_three c.args.buffer.now _ _ _ (header (fields_of d) 128) d.«data».now (trailer (fields_of d)) c.args.at
    (c.paste_at.ensures ∙ ap (λ x. laid_at c.args.at x c.args.buffer.now) c.header_bytes-header.ensures)
    c.paste_at-2.ensures
    (c.paste_at-3.ensures ∙ ap (λ x. laid_at (c.args.at + 10 + length d.«data».now) x c.paste_at-2.new.buffer) t)
    (omega arith)
