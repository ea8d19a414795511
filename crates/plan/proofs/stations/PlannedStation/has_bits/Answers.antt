use Rattle.std.proofs.Common.{◌≡◌, Bool, ◌&&◌, nat_lt, refl, ◌∙◌, rules, tests}
use Rattle.std.specs.List.{list_any}
use Rattle.std.proofs.lemmas.Iterator.{YieldsList-from_slice}
use Rattle.std.proofs.lemmas.Iterator.Search.{any_from_yields_List}
use denote.Enum.Bare.{sameb}
use Rattle.plan.specs.contracts.windows.Direction.{the_type}
use Rattle.plan.specs.declared.windows.Direction.{Direction}
use Rattle.plan.specs.declared.windows.Direction.TheVariants.{Output, Input}
use Rattle.plan.specs.declared.windows.MappedWindow.{MappedWindow}
use Rattle.plan.specs.declared.stations.PlannedStation.{PlannedStation}
use Rattle.plan.specs.Stations.{windows}
use Rattle.plan.specs.Counter.{has_bits}
use Rattle.plan.proofs.stations.PlannedStation.has_bits.Goals as goal

-- the derived `==` of directions is `sameb`
abbrev test : Direction → MappedWindow → Bool
test d w = sameb the_type w.direction d && nat_lt 0 w.window.bits

by_direction : (d : Direction) (s : PlannedStation) → list_any (test d) (windows s) ≡ has_bits d s
by_direction Output s = refl
by_direction Input s = refl

pub returns : goal.returns
returns c =
    any_from_yields_List (test c.args.direction) _ _ c.any.result c.any.ensures.ran (YieldsList-from_slice (windows c.args.self.now) cc) (λ x b q k. search (rules, tests)) ∙ by_direction c.args.direction c.args.self.now
