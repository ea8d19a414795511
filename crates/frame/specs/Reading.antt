-- Datagrams that are handed out in turn. Assumes nothing.
use Rattle.std.specs.Prelude.{◌≡◌, ℕ, zero, suc, ◌+◌, List, [], ◌∷◌, length, drop, Some, None, Ok, Err, Option, Result, MatchOption}
use Rattle.frame.specs.declared.datagrams.Token.{Token}
use Rattle.frame.specs.declared.faults.FrameFault.{FrameFault}
use Rattle.frame.specs.declared.reading.Tokens.{Tokens}
use Rattle.frame.specs.Datagrams.{Placed, size, placed_of, placed_at}
use Rattle.frame.specs.Judging.{front_fault}

abbrev pub if_none : Option FrameFault → List Placed → List Placed
if_none (Some e) ds = []
if_none None ds = ds

-- the datagrams of an area up to its end or the first fault, of which an accepted frame has none
abbrev pub handed : ℕ → List ℕ → ℕ → List Placed
handed zero area p = []
handed (suc f) area p = if_none (front_fault area (length area) p) (placed_at area p ∷ handed f (drop (size area) area) (p + size area))

-- the same with a bound that is always enough
abbrev pub handed_in : List ℕ → ℕ → List Placed
handed_in area p = handed (suc (length area)) area p

-- the datagrams that are still to be handed out
abbrev pub left : Tokens → List Placed
left ts = handed_in ts.rest.bytes.now ts.rest.at

-- what a reader answers: the datagrams that it will hand out, or the fault
abbrev pub outcome : Result Tokens FrameFault → Result (List Placed) FrameFault
outcome (Ok ts) = Ok (left ts)
outcome (Err e) = Err e

-- a token is the first of what was left
abbrev pub Stepped : Tokens → Option Token → Tokens → Type 0
Stepped from r to = MatchOption r (left from ≡ []) (λ t. left from ≡ placed_of t ∷ left to)
