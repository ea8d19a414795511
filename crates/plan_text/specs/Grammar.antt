-- The grammar of one line, as what each word may be by what stands before it. Assumes nothing.
use Rattle.std.specs.Prelude.{ℕ, Bool, true, false, List, Some, None, Ok, Err, Option, Result}
use Rattle.std.specs.Option.{unwrap_or}
use Rattle.units.specs.declared.ImageBit.{ImageBit}
use Rattle.text.specs.Decimal.{decimal_of}
use Rattle.plan.specs.declared.windows.Direction.{Direction}
use Rattle.plan.specs.declared.windows.Direction.TheVariants.{Output, Input}
use Rattle.plan.specs.declared.windows.Window.{Window}
use Rattle.plan.specs.declared.stations.PlannedStation.{PlannedStation}
use Rattle.plan.specs.Stations.{bare, with_outputs, with_inputs, with_mailbox}
use Rattle.plan_text.specs.declared.expected.Expected.{Expected}
use Rattle.plan_text.specs.declared.expected.Expected.TheVariants.{LineKind, ImageBytes, FirstBit, BitCount, MailboxBytes, Field, FieldOnce, EndOfLine}
use Rattle.plan_text.specs.declared.keywords.Keyword.{Keyword}
use Rattle.plan_text.specs.declared.keywords.Keyword.TheVariants.{Image, Station, Out, In, Mailbox, Name}
use Rattle.plan_text.specs.declared.stages.Fields.{Fields}
use Rattle.plan_text.specs.declared.stages.Stage.{Stage}
use Rattle.plan_text.specs.declared.stages.Stage.TheVariants.{AtLineKind, AtImageBytes, AfterImage, AtField, AtFirstBit, AtBitCount, AtMailboxBytes, AtName, AfterName}
use Rattle.plan_text.specs.Keywords.{keyword_of}

-- no field given
abbrev pub unnamed : Fields
unnamed = record { outputs = None; inputs = None; mailbox = None }

abbrev pub window : ImageBit → ℕ → Window
window first bits = record { first = first; bits = bits }

abbrev pub bit : ℕ → ImageBit
bit n = record { 0 = n }

-- the station that the fields make; what is not given is absent
abbrev pub told_station : Fields → PlannedStation
told_station f =
    let outputs = unwrap_or f.outputs (window (bit 0) 0) in
    let inputs = unwrap_or f.inputs (window (bit 0) 0) in
    with_mailbox (with_inputs (with_outputs bare outputs) inputs) (unwrap_or f.mailbox 0)

-- the fields with the window of that direction given
abbrev pub with_window : Fields → Direction → Window → Fields
with_window f Output w = record { outputs = Some w; inputs = f.inputs; mailbox = f.mailbox }
with_window f Input w = record { outputs = f.outputs; inputs = Some w; mailbox = f.mailbox }

-- `image` or `station`
abbrev pub begun : Option Keyword → Result Stage Expected
begun None = Err LineKind
begun (Some Image) = Ok AtImageBytes
begun (Some Station) = Ok (AtField unnamed)
begun (Some Out) = Err LineKind
begun (Some In) = Err LineKind
begun (Some Mailbox) = Err LineKind
begun (Some Name) = Err LineKind

-- what may stand only where nothing is given yet
abbrev pub once : {X : Type 0} → Option X → Stage → Result Stage Expected
once None next = Ok next
once (Some x) next = Err FieldOnce

-- `out`, `in`, `mailbox` or `name`
abbrev pub field : Fields → Option Keyword → Result Stage Expected
field f None = Err Field
field f (Some Image) = Err Field
field f (Some Station) = Err Field
field f (Some Out) = once f.outputs (AtFirstBit f Output)
field f (Some In) = once f.inputs (AtFirstBit f Input)
field f (Some Mailbox) = once f.mailbox (AtMailboxBytes f)
field f (Some Name) = Ok (AtName f)

-- a number, and what comes after it
abbrev pub number : Option ℕ → Expected → (ℕ → Stage) → Result Stage Expected
number None expected next = Err expected
number (Some n) expected next = Ok (next n)

abbrev pub follow : Stage → List ℕ → Result Stage Expected
follow AtLineKind word = begun (keyword_of word)
follow AtImageBytes word = number (decimal_of word) ImageBytes (λ n. AfterImage n)
follow (AfterImage bytes) word = Err EndOfLine
follow (AtField f) word = field f (keyword_of word)
follow (AtFirstBit f direction) word = number (decimal_of word) FirstBit (λ n. AtBitCount f direction (bit n))
follow (AtBitCount f direction first) word = number (decimal_of word) BitCount (λ n. AtField (with_window f direction (window first n)))
follow (AtMailboxBytes f) word = number (decimal_of word) MailboxBytes (λ n. AtField (record { outputs = f.outputs; inputs = f.inputs; mailbox = Some n }))
follow (AtName f) word = Ok (AfterName f)
follow (AfterName f) word = Err EndOfLine

-- the next word is a name
abbrev pub awaits_name : Stage → Bool
awaits_name AtLineKind = false
awaits_name AtImageBytes = false
awaits_name (AfterImage bytes) = false
awaits_name (AtField f) = false
awaits_name (AtFirstBit f direction) = false
awaits_name (AtBitCount f direction first) = false
awaits_name (AtMailboxBytes f) = false
awaits_name (AtName f) = true
awaits_name (AfterName f) = false
