-- What one line of a plan's text says. Assumes nothing.
use Rattle.std.specs.Prelude.{ℕ, cond, List, [], ◌∷◌, Some, None, Ok, Err, Option, Result}
use Rattle.std.specs.Option.{option_map}
use Rattle.text.specs.Lines.{uncommented}
use Rattle.text.specs.Words.{words}
use Rattle.plan.specs.declared.stations.PlannedStation.{PlannedStation}
use Rattle.plan_text.specs.declared.expected.Expected.{Expected}
use Rattle.plan_text.specs.declared.expected.Expected.TheVariants.{ImageBytes, FirstBit, BitCount, MailboxBytes, NameWord}
use Rattle.plan_text.specs.declared.stages.Stage.{Stage}
use Rattle.plan_text.specs.declared.stages.Stage.TheVariants.{AtLineKind, AtImageBytes, AfterImage, AtField, AtFirstBit, AtBitCount, AtMailboxBytes, AtName, AfterName}
use Rattle.plan_text.specs.declared.said.Line.{Line}
use Rattle.plan_text.specs.declared.said.Line.TheVariants.{Blank, Image, Station}
use Rattle.plan_text.specs.Grammar.{told_station, awaits_name, follow}

pub data Said : Type 0 where
  nothing : Said
  image : ℕ → Said
  station : PlannedStation → Option (List ℕ) → Said

-- what a line says that ends at this stage
abbrev pub ended : Stage → Option (List ℕ) → Result Said Expected
ended AtLineKind name = Ok nothing
ended AtImageBytes name = Err ImageBytes
ended (AfterImage bytes) name = Ok (image bytes)
ended (AtField f) name = Ok (station (told_station f) name)
ended (AtFirstBit f direction) name = Err FirstBit
ended (AtBitCount f direction first) name = Err BitCount
ended (AtMailboxBytes f) name = Err MailboxBytes
ended (AtName f) name = Err NameWord
ended (AfterName f) name = Ok (station (told_station f) name)

-- go on after a word that fits
abbrev pub and_then : Result Stage Expected → (Stage → Result Said Expected) → Result Said Expected
and_then (Ok stage) next = next stage
and_then (Err expected) next = Err expected

-- what the words from this stage on say; the word after `name` is the name
abbrev pub said_from : Stage → Option (List ℕ) → List (List ℕ) → Result Said Expected
said_from stage name [] = ended stage name
said_from stage name (word ∷ ws) = and_then (follow stage word) (λ next. said_from next (cond (awaits_name stage) (Some word) name) ws)

abbrev pub line_of : List ℕ → Result Said Expected
line_of line = said_from AtLineKind None (words (uncommented line))

-- what an answer of the code says
abbrev pub said : Line → Said
said Blank = nothing
said (Image bytes) = image bytes
said (Station s) = station s.station (option_map (λ x. x.now) s.name)

abbrev pub said_of : Result Line Expected → Result Said Expected
said_of (Ok line) = Ok (said line)
said_of (Err expected) = Err expected
