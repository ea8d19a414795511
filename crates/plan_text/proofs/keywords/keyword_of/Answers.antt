use Rattle.std.proofs.Common.{◌≡◌, codes, sym, ap, rules, arith}
use Rattle.std.proofs.lemmas.Slice.Eq.{text_from_reads}
use Rattle.plan_text.specs.Keywords.{keyword_of}
use Rattle.plan_text.proofs.keywords.keyword_of.Goals as goal

pub returns-in-image : goal.returns-in-image
returns-in-image c =
    let is : c.args.word.now ≡ codes "image" = text_from_reads _ _ (omega arith) (search rules) in
    sym (ap keyword_of is)

pub returns-in-station : goal.returns-in-station
returns-in-station c =
    let is : c.args.word.now ≡ codes "station" = text_from_reads _ _ (omega arith) (search rules) in
    sym (ap keyword_of is)

pub returns-in-mailbox : goal.returns-in-mailbox
returns-in-mailbox c =
    let is : c.args.word.now ≡ codes "mailbox" = text_from_reads _ _ (omega arith) (search rules) in
    sym (ap keyword_of is)
