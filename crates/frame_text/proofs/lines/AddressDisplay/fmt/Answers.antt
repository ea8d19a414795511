use Rattle.std.proofs.Common.{◌≡◌, ℕ, ◌/◌, ◌%◌, ◌++◌, Some, codes, refl, ap, ◌∙◌, arith}
use Rattle.command.specs.declared.CommandKind.{CommandKind}
use Rattle.command.specs.declared.CommandKind.TheVariants as kind
use Rattle.frame_text.specs.Digits.{hex4}
use Rattle.frame_text.specs.Lines.{address_in}
use Rattle.frame_text.proofs.Widths.{shown4, shown8, displayed}
use Rattle.frame_text.proofs.lines.AddressDisplay.fmt.Goals as goal

halves : (k : CommandKind) (a : ℕ) → (k ≡ kind.Logical → ⊥) → hex4 (a % 65536) ++ (codes ":" ++ hex4 (a / 65536)) ≡ address_in k a
halves kind.Idle a other = refl
halves kind.Physical a other = refl
halves kind.Logical a other = absurd (other refl)
halves kind.Unlisted a other = refl

pub returns-in-Logical-clause-writes : goal.returns-in-Logical-clause-writes
returns-in-Logical-clause-writes g c =
    let n = c.args.self.now.number in
    let all = shown8 n c.in_radix.result c.laid_out.result (omega arith) c.in_radix.ensures c.laid_out.ensures in
    displayed _ _ _ _ _ _ (all ∙ ap (λ k. Some (address_in k n)) c.in-Logical.ensures) c.write.ensures.writes

pub returns-in_default-clause-writes : goal.returns-in_default-clause-writes
returns-in_default-clause-writes g c =
    let n = c.args.self.now.number in
    let adp = shown4 (n % 65536) c.in_radix-in_default.result c.laid_out-in_default.result (omega arith) c.in_radix-in_default.ensures c.laid_out-in_default.ensures in
    let ado = shown4 (n / 65536) c.in_radix-in_default-2.result c.laid_out-in_default-2.result (omega arith) c.in_radix-in_default-2.ensures c.laid_out-in_default-2.ensures in
    let address = halves c.kind.result n c.in_default.not-Logical ∙ ap (λ k. address_in k n) c.kind.ensures in
    displayed _ _ _ _ _ _ (rw (adp, ado) (ap Some address)) c.write-in_default.ensures.writes
