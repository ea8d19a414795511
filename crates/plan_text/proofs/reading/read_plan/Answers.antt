use Rattle.std.proofs.Common.{◌≡◌, ◌+◌, Ok, Err, subst, [], ◌∷◌, ◌++◌, rules}
use Rattle.std.specs.Iterator.Adapters.{enumerate_count, enumerate_source}
use Rattle.std.specs.Option.{option_map}
use Rattle.text.specs.Lines.{lines_left}
use Rattle.plan.specs.Building.{image_bytes, stations_of}
use Rattle.plan_text.specs.Said.{station, line_of}
use Rattle.plan_text.specs.Outcome.{stations_from, names_of, read_text, Answered}
use Rattle.plan_text.proofs.reading.read_plan.Goals as goal

pub returns-in_err-new-in-None-Image : goal.returns-in_err-new-in-None-Image
returns-in_err-new-in-None-Image c =
    let next = c.next.new.self in
    let refused = c.in_err-new-in-None-Image.ensures (stations_from (enumerate_count next + 1) c.in-None-Image.bytes [] [] (lines_left (enumerate_source next))) in
    search rules

pub returns-in_err-admit-in-Some-Station : goal.returns-in_err-admit-in-Some-Station
returns-in_err-admit-in-Some-Station c =
    let next = c.next.new.self in
    let before = c.in-Some-Station.named in
    let told = c.in-Some-Station.told in
    let n = enumerate_count c.loop-i.i-iterator + 1 in
    let ls = lines_left (enumerate_source next) in
    let so : stations_from n (image_bytes before.plan) (stations_of before.plan) (names_of before) (c.in-Some.line.now ∷ ls) ≡ read_text c.args.text.now = search rules in
    let says : line_of c.in-Some.line.now ≡ Ok (station told.station (option_map (λ x. x.now) told.name)) = search rules in
    let err : c.from_residual-in_err-admit-in-Some-Station.result ≡ Err c.in_err-admit-in-Some-Station.field-0.0 = search rules in
    let refused = c.in_err-admit-in-Some-Station.ensures (stations_from (n + 1) (image_bytes before.plan) (stations_of before.plan ++ told.station ∷ []) (names_of before ++ option_map (λ x. x.now) told.name ∷ []) ls) in
    let turn = rw says at so in
    rw err (subst (λ o. Answered o (Err c.in_err-admit-in-Some-Station.field-0.0)) turn refused)
