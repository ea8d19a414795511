-- The sign of an image bit, by whose it is. Assumes nothing.
use Rattle.std.specs.Prelude.{ℕ, ◌<◌, List, Some, None, codes, Option, slice_index_or}
use Rattle.plan.specs.declared.windows.Direction.{Direction}
use Rattle.plan.specs.declared.windows.Direction.TheVariants.{Output, Input}
use Rattle.plan.specs.Limits.{max_stations}
use Rattle.plan.specs.declared.owners.Owner.{Owner}

-- the signs of outputs and of inputs, by position
abbrev pub signs : Direction → List ℕ
signs Output = codes "ABCDEFGHIJKLMNOPQRSTUVWXYZ123456"
signs Input = codes "abcdefghijklmnopqrstuvwxyz!@$%&*"

-- `.` for a free bit
abbrev pub sign : Option Owner → ℕ
sign None = 46
sign (Some owner) = slice_index_or (signs owner.direction) owner.position.0 63

-- a free bit, or an owner that a plan can have
abbrev pub Drawn : Option Owner → Type 0
Drawn None = Unit {0}
Drawn (Some owner) = owner.position.0 < max_stations
